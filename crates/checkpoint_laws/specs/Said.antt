-- What a checkpoint says, whoever wrote it: bytes of which nothing of this can be said are no checkpoint (this
-- profile).
use Rattle.std.specs.Prelude.{◌≡◌, ℕ, ◌<◌, ◌≤◌, List, ◌++◌, map, length, Option, None, Some, Ok, IfSome, slice_get}
use Rattle.std.specs.List.{AllByRecursion}
use Rattle.filter_rule.specs.PlanValue.{PlanValue, key_columns_of, kept_columns_of, table_name}
use Rattle.gtid_set.specs.Text.{position_of_text}
use Rattle.pk_copy.specs.KeyOfKept.{key_of_kept}
use Rattle.pk_copy.specs.KeyOrder.{key_cmp}
use Rattle.pk_copy.specs.KeyValue.{KeyValue}
use Rattle.pk_copy.specs.Lastpk.{key_of_lastpk, IsTableKey}
use Rattle.pk_copy.specs.Marks.{MarkValue, waiting, up_to, copied, AreMarks, mark_of}
use Rattle.proto_wire.specs.Frame.{frames_of}
use Rattle.source_feed.specs.History.{RowValue}
use Rattle.target_tables.specs.Rising.{IsRising}
use Rattle.vevent.specs.Answer.{AnswerValue}
use Rattle.vevent.specs.CheckpointPart.{TablePartValue, StreamPartValue, stream_part_at}
use Rattle.checkpoint_laws.specs.declared.version.Version.{Version}
use Rattle.checkpoint_laws.specs.declared.version.Version.TheVariants.{One, Two}
use Rattle.checkpoint_laws.specs.Saved.{SavedStream}
use Rattle.checkpoint_laws.specs.Written.{fields_of_table, key_fields_of, number_of_mark, saved_rows_of_table, opening}

-- ---- the parts

-- the bytes are the eight first ones of a version, then these parts, each behind its length, and nothing after them
pub record AreStreamParts (version : Version) (bytes : List ℕ) (parts : List StreamPartValue) : Type 0 where
  pub rest : List ℕ
  pub opened : bytes ≡ opening version ++ rest
  pub messages : List (List ℕ)
  pub framed : frames_of rest ≡ record { items = messages; fault = None }
  pub read : map stream_part_at messages ≡ map Ok parts

-- ---- a table's part

-- the key of a mark is given exactly where the table is copied up to one, as a row of its key columns
abbrev pub SaysLast : PlanValue → ℕ → MarkValue → Option RowValue → Type 0
SaysLast plan t waiting lastpk = lastpk ≡ None
SaysLast plan t (up_to key) lastpk = (row : RowValue) × (lastpk ≡ Some row) × (length row ≡ length (key_columns_of plan t)) × (key_of_lastpk plan t row ≡ Ok key)
SaysLast plan t copied lastpk = lastpk ≡ None

-- an answer has the kept columns of the table and those of its key, the position, the rows of the table in order, and the
-- key of its mark
pub record SaysAnswer (plan : PlanValue) (saved : SavedStream) (t : ℕ) (answer : AnswerValue) : Type 0 where
  pub fields : answer.fields ≡ fields_of_table plan t
  pub key_fields : answer.pkfields ≡ key_fields_of plan t
  pub position : position_of_text answer.gtid ≡ Ok saved.position
  pub rows : answer.rows ≡ map (λ row. row.1) (saved_rows_of_table t saved.rows)
  pub last : SaysLast plan t (mark_of saved.marks t) answer.lastpk

-- the part of table t has the table's name; in version 1 the name is unknown and isn't looked at
abbrev pub IsNamed : Version → PlanValue → ℕ → TablePartValue → Type 0
IsNamed One plan t part = Unit {0}
IsNamed Two plan t part = part.name ≡ table_name plan t

-- the part of table t has its name, its mark and its answer
pub record SaysTable (version : Version) (plan : PlanValue) (saved : SavedStream) (t : ℕ) (part : TablePartValue) : Type 0 where
  pub named : IsNamed version plan t part
  pub mark : part.mark ≡ number_of_mark (mark_of saved.marks t)
  pub answer : SaysAnswer plan saved t part.answer

-- ---- a stream's part

-- a row is of one of the plan's tables, has the width of its kept columns, and stands at its own key
pub record IsKeyed (plan : PlanValue) (row : KeyValue × RowValue) : Type 0 where
  pub table : row.0.table < length plan.tables
  pub width : length row.1 ≡ length (kept_columns_of plan row.0.table)
  pub key : key_of_kept plan row.0.table row.1 ≡ Ok row.0

-- what can be said of a stream under a plan: marks of its tables, of which the first ones are done, then at most one
-- is copied up to a key of it, and the others wait; rows by rising key, each at its own key
pub record IsSaved (plan : PlanValue) (saved : SavedStream) : Type 0 where
  pub tables : saved.marks.tables ≡ length plan.tables
  pub marks : AreMarks saved.marks
  pub upto : IfSome saved.marks.upto (IsTableKey plan)
  pub rising : IsRising key_cmp saved.rows
  pub keyed : AllByRecursion (IsKeyed plan) saved.rows

-- of so many tables there are parts: of all in version 1; in version 2 of the first ones, at least one
abbrev pub AreSoMany : Version → PlanValue → ℕ → Type 0
AreSoMany One plan n = n ≡ length plan.tables
AreSoMany Two plan n = (1 ≤ n) × (n ≤ length plan.tables)

-- a stream's part has the shard's name and a part for each of so many tables, which says what is said of the stream;
-- further tables wait, and there is no row of them
pub record SaysStream (version : Version) (plan : PlanValue) (saved : SavedStream) (part : StreamPartValue) : Type 0 where
  pub sound : IsSaved plan saved
  pub shard : part.shard ≡ plan.shard
  pub count : AreSoMany version plan (length part.tables)
  pub each_table : (t : ℕ) (table : TablePartValue) → slice_get part.tables t ≡ Some table → SaysTable version plan saved t table
  pub further : (t : ℕ) → length part.tables ≤ t → mark_of saved.marks t ≡ waiting
  pub bare : AllByRecursion (λ row. row.0.table < length part.tables) saved.rows

-- ---- the checkpoint

-- in version 2 each stream's part has as many tables
abbrev pub HaveAsMany : Version → List StreamPartValue → Type 0
HaveAsMany One parts = Unit {0}
HaveAsMany Two parts = (s t : ℕ) (one other : StreamPartValue) → slice_get parts s ≡ Some one → slice_get parts t ≡ Some other → length one.tables ≡ length other.tables

-- the bytes are a checkpoint for these plans, of one of the versions, which says this of their streams
pub record IsCheckpoint (plans : List PlanValue) (bytes : List ℕ) (saved : List SavedStream) : Type 0 where
  pub version : Version
  pub parts : List StreamPartValue
  pub are : AreStreamParts version bytes parts
  pub count : length parts ≡ length plans
  pub same_count : length saved ≡ length plans
  pub as_many : HaveAsMany version parts
  pub each_stream : (s : ℕ) (plan : PlanValue) (one : SavedStream) (part : StreamPartValue)
      → slice_get plans s ≡ Some plan → slice_get saved s ≡ Some one → slice_get parts s ≡ Some part → SaysStream version plan one part
