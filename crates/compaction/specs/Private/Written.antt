-- What is written of a base, message by message, and rows that wait to be written.
use Rattle.std.specs.Prelude.{◌≡◌, ◌⊎◌, ◌<◌, ◌^◌, ℕ, List, [], ◌∷◌, ◌++◌, length, map, Some, Ok, false, is_none}
use Rattle.std.specs.List.{AllByRecursion, flat_map}
use Rattle.row_view.specs.Row.{RowValue}
use Rattle.row_view.specs.WrittenRow.{IsWithinLimits}
use Rattle.vevent.specs.Event.{event_at}
use Rattle.vevent.specs.EventValue.{EventValue, Begin, Commit}
use Rattle.filter_rule.specs.PlanValue.{PlanValue, table_of_name}
use Rattle.source_feed.specs.Image.{ImageRows}
use Rattle.source_feed.specs.Planned.{source_of}
use Rattle.source_feed.specs.SourceValue.{table_in_source}
use Rattle.event_laws.specs.BaseEvents.{base_events}
use Rattle.event_laws.specs.WrittenMessages.{written_messages}
use Rattle.feed_bytes.specs.FieldBytes.{FieldBytesValue}
use Rattle.feed_bytes.specs.Inserts.{inserts}
use Rattle.compaction_laws.specs.Portions.{Portion, event_of, rows_of, IsOfOneTable}
use Rattle.compaction.specs.Compacting.{others_message, portion_message}
use Rattle.compaction.specs.Private.Sized.{change_fields, inserts_message}

-- messages were written behind what was there, and their events are read as these
pub record AddsEvents (old new : List ℕ) (events : List EventValue) : Type 0 where
  pub messages : List (List (List ℕ))
  pub bytes : new ≡ old ++ written_messages messages
  pub read : map event_at (flat_map (λ parts. parts) messages) ≡ map Ok events

-- a name by which a feed has a table of the plan
abbrev pub IsNameOf : PlanValue → ℕ → List ℕ → Type 0
IsNameOf plan table name = table_of_name plan (table_in_source (source_of plan) name) ≡ Some table

-- a FIELD is of a table of the plan
abbrev pub IsOfPlan : PlanValue → FieldBytesValue → Type 0
IsOfPlan plan field = is_none (table_of_name plan (table_in_source (source_of plan) field.name)) ≡ false

-- no FIELD of these has a name of this table
abbrev pub AreOfOthers : PlanValue → ℕ → List FieldBytesValue → Type 0
AreOfOthers plan table fields = AllByRecursion (λ field. IsNameOf plan table field.name → ⊥) fields

-- one of them has
abbrev pub HasName : PlanValue → List FieldBytesValue → ℕ → Type 0
HasName plan fields table = AreOfOthers plan table fields → ⊥

-- the same for each of some rows
abbrev pub AreNamed : PlanValue → List FieldBytesValue → ImageRows → Type 0
AreNamed plan fields rows = AllByRecursion (λ row. HasName plan fields row.0.table) rows

-- rows of one table that wait to be written
pub record WaitingValue : Type 0 where
  pub table : ℕ
  pub rows : List RowValue

-- each of them is within the limits, and the changes that insert them have so many bytes
pub record AreWaiting (rows : List RowValue) (changes : ℕ) : Type 0 where
  pub limits : AllByRecursion IsWithinLimits rows
  pub size : changes ≡ length (change_fields rows)

-- what waits can be written, if something does
abbrev pub CanBePut : PlanValue → List FieldBytesValue → WaitingValue → Type 0
CanBePut plan fields waiting = (waiting.rows ≡ []) ⊎ HasName plan fields waiting.table

-- rows that wait were written as one portion
pub record IsPortionPut (plan : PlanValue) (waiting : WaitingValue) (old new : List ℕ) : Type 0 where
  pub some : 0 < length waiting.rows
  pub name : List ℕ
  pub named : IsNameOf plan waiting.table name
  pub adds : AddsEvents old new (inserts name waiting.rows ∷ [])
  pub bytes : new ≡ old ++ inserts_message name waiting.rows

-- what waits was written, if something did
abbrev pub IsPut : PlanValue → WaitingValue → List ℕ → List ℕ → Type 0
IsPut plan waiting old new = ((waiting.rows ≡ []) × (new ≡ old)) ⊎ IsPortionPut plan waiting old new

-- a row of this table can wait behind what does: all is as it was and of this table, or what waited was written
abbrev pub IsReady : PlanValue → ℕ → WaitingValue → List ℕ → WaitingValue → List ℕ → Type 0
IsReady plan table waited old waits new = ((waits ≡ waited) × (new ≡ old) × (waited.table ≡ table)) ⊎ (IsPut plan waited old new × (waits.rows ≡ []))

-- rows were written as portions
pub record AddsRows (plan : PlanValue) (old new : List ℕ) (rows : ImageRows) : Type 0 where
  pub portions : List Portion
  pub each_portion : AllByRecursion (IsOfOneTable plan) portions
  pub are : rows_of portions ≡ rows
  pub adds : AddsEvents old new (map event_of portions)
  pub bytes : new ≡ old ++ written_messages (map portion_message portions)

-- the events of a base were written, with portions that are these rows
pub record IsBase (plan : PlanValue) (old new : List ℕ) (fields : List EventValue) (rows : ImageRows) (place : EventValue) : Type 0 where
  pub portions : List Portion
  pub each_portion : AllByRecursion (IsOfOneTable plan) portions
  pub are : rows_of portions ≡ rows
  pub adds : AddsEvents old new (base_events fields (map event_of portions) place)

-- FIELDs that are there as bytes were written, and a BEGIN behind them
abbrev pub AddsFields : List ℕ → List ℕ → List FieldBytesValue → Type 0
AddsFields old new fields = (events : List EventValue) → map (λ field. event_at field.bytes) fields ≡ map Ok events → AddsEvents old new (events ++ Begin ∷ [])

-- an event that is there as bytes was written, and a COMMIT behind it
abbrev pub AddsEnd : List ℕ → List ℕ → List ℕ → Type 0
AddsEnd old new place = (event : EventValue) → event_at place ≡ Ok event → AddsEvents old new (event ∷ Commit ∷ [])

-- a base was written: FIELDs, portions that are these rows, and an event that carries a position
abbrev pub AddsBase : PlanValue → List ℕ → List ℕ → List FieldBytesValue → ImageRows → List ℕ → Type 0
AddsBase plan old new fields rows place =
    (events : List EventValue) (event : EventValue) → map (λ field. event_at field.bytes) fields ≡ map Ok events → event_at place ≡ Ok event → IsBase plan old new events rows event

-- a base was written, behind it the other events of a message and a rest, and all isn't too long
pub record IsWrittenOver (plan : PlanValue) (fields : List FieldBytesValue) (rows : ImageRows) (place : List ℕ) (others : List (List ℕ)) (rest new : List ℕ) : Type 0 where
  pub base : List ℕ
  pub adds : AddsBase plan [] base fields rows place
  pub parts : new ≡ base ++ (others_message others ++ rest)
  pub short : length new < 2 ^ 31
