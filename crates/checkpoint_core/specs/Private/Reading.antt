-- A checkpoint as it is read, part by part.
use Rattle.std.specs.Prelude.{◌≡◌, ◌⊎◌, ℕ, ◌+◌, ◌<◌, ◌≤◌, List, [], ◌∷◌, ◌++◌, map, length, Option, Some, None, Ok, IfSome, slice_get}
use Rattle.std.specs.List.{AllByRecursion}
use Rattle.filter_rule.specs.PlanValue.{PlanValue, key_columns_of}
use Rattle.gtid_set.specs.Text.{position_of_text}
use Rattle.pk_copy.specs.KeyOrder.{key_cmp}
use Rattle.pk_copy.specs.KeyValue.{KeyValue}
use Rattle.pk_copy.specs.Lastpk.{key_of_lastpk, IsTableKey}
use Rattle.pk_copy.specs.Marks.{MarkValue, waiting, up_to, copied, Marks, AreMarks, mark_of}
use Rattle.proto_wire.specs.Frame.{frames_of}
use Rattle.source_feed.specs.GroupValue.{Position}
use Rattle.source_feed.specs.History.{RowValue}
use Rattle.source_feed.specs.Image.{ImageRows}
use Rattle.target_tables.specs.Rising.{IsRising, AreBelow}
use Rattle.vevent.specs.CheckpointPart.{TablePartValue, StreamPartValue, mark_number, stream_part_at}
use Rattle.vevent.specs.declared.checkpoint_part.TableMark.{TableMark}
use Rattle.checkpoint_laws.specs.declared.version.Version.{Version}
use Rattle.checkpoint_laws.specs.Saved.{SavedStream}
use Rattle.checkpoint_laws.specs.Said.{AreStreamParts, SaysLast, SaysTable, IsKeyed, IsSaved, SaysStream}
use Rattle.checkpoint_laws.specs.Written.{fields_of_table, key_fields_of, number_of_mark}
use Rattle.checkpoint_core.specs.declared.marks.MarkRead.{MarkRead}
use Rattle.checkpoint_core.specs.declared.marks.MarkRead.TheVariants.{Waiting, Upto, Done}

-- a fact of each part of a table, by the table's number
abbrev pub OfEachTable : (ℕ → TablePartValue → Type 0) → List TablePartValue → Type 0
OfEachTable P tables = (t : ℕ) (part : TablePartValue) → slice_get tables t ≡ Some part → P t part

-- ---- parts

-- a message is this part of a stream
abbrev pub IsPartOf : List ℕ → StreamPartValue → Type 0
IsPartOf message part = stream_part_at message ≡ Ok part

-- the bytes are so many parts of streams, each behind its length
pub record AreFramed (bytes : List ℕ) (count : ℕ) (parts : List StreamPartValue) : Type 0 where
  pub messages : List (List ℕ)
  pub framed : frames_of bytes ≡ record { items = messages; fault = None }
  pub read : map stream_part_at messages ≡ map Ok parts
  pub long : length parts ≡ count

-- so many parts of streams stand in the bytes of a checkpoint of a version
pub record AreSoManyParts (version : Version) (bytes : List ℕ) (count : ℕ) (parts : List StreamPartValue) : Type 0 where
  pub are : AreStreamParts version bytes parts
  pub long : length parts ≡ count

-- ---- columns and position

-- a table's part has this position
abbrev pub IsAtPosition : Position → ℕ → TablePartValue → Type 0
IsAtPosition position t part = position_of_text part.answer.gtid ≡ Ok position

-- a table's part has the columns of the table and of its key, and this position
pub record HasHead (plan : PlanValue) (position : Position) (t : ℕ) (part : TablePartValue) : Type 0 where
  pub fields : part.answer.fields ≡ fields_of_table plan t
  pub key_fields : part.answer.pkfields ≡ key_fields_of plan t
  pub stands : position_of_text part.answer.gtid ≡ Ok position

-- ---- marks

-- the mark that was read of a table
abbrev pub mark_read : MarkRead → MarkValue
mark_read Waiting = waiting
mark_read (Upto key) = up_to key
mark_read Done = copied

-- the key of a mark is one of table t
abbrev pub IsOfTable : ℕ → MarkRead → Type 0
IsOfTable t Waiting = Unit {0}
IsOfTable t (Upto key) = key.table ≡ t
IsOfTable t Done = Unit {0}

-- the key of a mark is a key of its table of the plan
abbrev pub IsOfPlan : PlanValue → MarkRead → Type 0
IsOfPlan plan Waiting = Unit {0}
IsOfPlan plan (Upto key) = IsTableKey plan key
IsOfPlan plan Done = Unit {0}

-- a mark of this kind, whose key is given by this row
pub record IsMarked (plan : PlanValue) (t : ℕ) (mark : MarkValue) (kind : TableMark) (last : Option RowValue) : Type 0 where
  pub number : mark_number kind ≡ number_of_mark mark
  pub key : SaysLast plan t mark last

-- a table's part has this mark
pub record SaysMark (plan : PlanValue) (t : ℕ) (mark : MarkValue) (part : TablePartValue) : Type 0 where
  pub number : part.mark ≡ number_of_mark mark
  pub last : SaysLast plan t mark part.answer.lastpk

-- the key of a mark as a row
pub record IsLast (plan : PlanValue) (t : ℕ) (row : RowValue) (key : KeyValue) : Type 0 where
  pub long : length row ≡ length (key_columns_of plan t)
  pub read : key_of_lastpk plan t row ≡ Ok key

-- nothing is marked from table t on
pub record IsOpenAt (t : ℕ) (marks : Marks) : Type 0 where
  pub are : AreMarks marks
  pub within : marks.done ≤ t
  pub unmarked : marks.done ≡ t → marks.upto ≡ None

-- the marks of the tables before t are as they were, and table t has this one; the key of a table that isn't done is as
-- it was, or this mark's
pub record IsMarkedMore (t : ℕ) (mark : MarkValue) (old new : Marks) : Type 0 where
  pub count : new.tables ≡ old.tables
  pub before : (i : ℕ) → i < t → mark_of new i ≡ mark_of old i
  pub here : mark_of new t ≡ mark
  pub key : (last : KeyValue) → new.upto ≡ Some last → (old.upto ≡ Some last) ⊎ (mark ≡ up_to last)
  pub behind : IsOpenAt (t + 1) new

-- marks of the first t tables that their parts have
pub record AreMarksBefore (plan : PlanValue) (tables : List TablePartValue) (t : ℕ) (marks : Marks) : Type 0 where
  pub reached : t ≤ length tables
  pub count : marks.tables ≡ length plan.tables
  pub behind : IsOpenAt t marks
  pub upto : IfSome marks.upto (IsTableKey plan)
  pub each_table : OfEachTable (λ i part. i < t → SaysMark plan i (mark_of marks i) part) tables

-- marks of a plan's tables that the parts of the first ones have; the others wait
pub record AreMarksOf (plan : PlanValue) (tables : List TablePartValue) (marks : Marks) : Type 0 where
  pub count : marks.tables ≡ length plan.tables
  pub are : AreMarks marks
  pub upto : IfSome marks.upto (IsTableKey plan)
  pub each_table : OfEachTable (λ t part. SaysMark plan t (mark_of marks t) part) tables
  pub further : (t : ℕ) → length tables ≤ t → mark_of marks t ≡ waiting

-- ---- rows

-- a row and the number of its table
abbrev pub of_table : KeyValue × RowValue → ℕ × RowValue
of_table row = (row.0.table, row.1)

-- the rows of a table, each with the table's number
abbrev pub rows_in : ℕ → List RowValue → List (ℕ × RowValue)
rows_in t rows = map (λ row. (t, row)) rows

-- the rows of tables t, t + 1, .., in order
abbrev pub rows_from : ℕ → List TablePartValue → List (ℕ × RowValue)
rows_from t [] = []
rows_from t (part ∷ parts) = rows_in t part.answer.rows ++ rows_from (t + 1) parts

-- rows by rising key, each at its own key, which are these of their tables
pub record AreRows (plan : PlanValue) (given : List (ℕ × RowValue)) (rows : ImageRows) : Type 0 where
  pub rising : IsRising key_cmp rows
  pub keyed : AllByRecursion (IsKeyed plan) rows
  pub are : map of_table rows ≡ given

-- a row of table t and its key
pub record IsRowOf (plan : PlanValue) (t : ℕ) (row : RowValue) (key : KeyValue) : Type 0 where
  pub keyed : IsKeyed plan (key, row)
  pub table : key.table ≡ t

-- a row of table t behind others
pub record IsNextRow (plan : PlanValue) (t : ℕ) (row : RowValue) (old new : ImageRows) : Type 0 where
  pub key : KeyValue
  pub of : IsRowOf plan t row key
  pub below : AreBelow key_cmp key old
  pub put : new ≡ old ++ (key, row) ∷ []

-- ---- a stream

-- the parts of its first tables say this of a stream, and there is nothing of the others
pub record SayTables (version : Version) (plan : PlanValue) (tables : List TablePartValue) (saved : SavedStream) : Type 0 where
  pub sound : IsSaved plan saved
  pub each_table : OfEachTable (SaysTable version plan saved) tables
  pub further : (t : ℕ) → length tables ≤ t → mark_of saved.marks t ≡ waiting
  pub bare : AllByRecursion (λ row. row.0.table < length tables) saved.rows

-- the first parts say this of the first streams, each by its plan
pub record SayStreams (version : Version) (plans : List PlanValue) (parts : List StreamPartValue) (saved : List SavedStream) : Type 0 where
  pub count : length saved ≡ length plans
  pub each_stream : (s : ℕ) (plan : PlanValue) (one : SavedStream) (part : StreamPartValue)
      → slice_get plans s ≡ Some plan → slice_get saved s ≡ Some one → slice_get parts s ≡ Some part → SaysStream version plan one part
