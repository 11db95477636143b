-- Which plans belong to which streams of a workflow file.
use Rattle.std.specs.Prelude.{◌≡◌, ℕ, List, Some, Ok, map, slice_get}
use Rattle.filter_rule.specs.Document.{DocumentSaid}
use Rattle.list_laws.specs.Outcome.{each}
use Rattle.filter_rule.specs.FirstRule.{document_in}
use Rattle.filter_rule.specs.PlanValue.{PlanValue}
use Rattle.filter_rule.specs.PlanTable.{TableValue, keeping}
use Rattle.filter_rule.specs.Resolving.{all_places, resolved}

-- a table as it was before a rule said which of its columns are kept
abbrev pub with_all : TableValue → TableValue
with_all table = keeping table (all_places table.columns)

-- the plans are those of a document's streams, in order, over its keyspace and, but for the columns that
-- rules keep, its tables
pub record AreOfStreams (document : DocumentSaid) (plans : List PlanValue) : Type 0 where
  pub shards : map (λ plan. plan.shard) plans ≡ map (λ stream. stream.shard) document.streams
  pub shared : (i : ℕ) (plan : PlanValue) → slice_get plans i ≡ Some plan → (plan.keyspace ≡ document.keyspace) × (each resolved document.tables ≡ Ok (map with_all plan.tables))

-- the plans of a text are those of the streams that it says
abbrev pub FollowStreams : List ℕ → List PlanValue → Type 0
FollowStreams text plans = (document : DocumentSaid) → document_in text ≡ Ok document → AreOfStreams document plans
