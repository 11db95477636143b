-- What the steps of reading know of a document.
use Rattle.std.specs.Prelude.{◌≡◌, ℕ, ◌<◌, ◌≤◌, List, Ok, Some, length, slice_get}
use Rattle.serde_json.specs.Data.{Data}
use Rattle.filter_rule.specs.Document.{TableSaid, DocumentSaid, document_of}
use Rattle.filter_rule.specs.Limits.{within_limits}
use Rattle.filter_rule.specs.PlanTable.{TableValue}
use Rattle.filter_rule.specs.Reading.{Decided, plan_over}
use Rattle.filter_rule.specs.WellFormed.{IsPlan}
use Rattle.filter_rule.specs.declared.decision.Decision.{Decision}
use Rattle.filter_rule.specs.declared.decision.Decision.TheVariants.{NoRule, EveryRow, InRange}

-- a document is what some JSON value says, and its counts are within the limits
pub record IsAccepted (document : DocumentSaid) : Type 0 where
  pub value : Data
  pub said : DocumentSaid
  pub says : document_of value ≡ Ok said
  pub within : within_limits said ≡ Ok document

-- no table has more columns than a byte can number
abbrev pub AreNarrow : List TableSaid → Type 0
AreNarrow tables = (i : ℕ) (table : TableSaid) → slice_get tables i ≡ Some table → length table.columns ≤ 256

-- each stream's plan over these tables is one
abbrev pub ArePlansOver : List ℕ → List TableValue → List Decided → Type 0
ArePlansOver keyspace tables streams = (i : ℕ) (stream : Decided) → slice_get streams i ≡ Some stream → IsPlan (plan_over keyspace tables stream)

-- the column that a decision names is one of so many
abbrev pub IsWithin : ℕ → Decision → Type 0
IsWithin width NoRule = Unit {0}
IsWithin width (EveryRow kept) = Unit {0}
IsWithin width (InRange place vindex range kept) = place < width
