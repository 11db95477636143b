-- The bytes of a row event's changes, one behind another.
use Rattle.std.specs.Prelude.{◌≡◌, ◌<◌, Bool, true, false, ℕ, ◌^◌, nat_le, if◌then◌else◌, List, [], ◌∷◌, ◌++◌, length, Option, None, Some, Result, Ok, Err}
use Rattle.list_laws.specs.Outcome.{◌>>=◌, Refuses}
use Rattle.item_readers.specs.Reading.{Reading}
use Rattle.proto_wire.specs.Writing.{written_field, written_fields, number_field, text_field, message_field}
use Rattle.vevent.specs.EventValue.{EventValue}
use Rattle.vevent.specs.WrittenEvent.{written_event}
use Rattle.log_values.specs.declared.fault.ValueFault.{ValueFault}
use Rattle.log_rows.specs.declared.change.RowsKind.{RowsKind}
use Rattle.log_rows.specs.declared.change.RowsKind.TheVariants.{Write, Update, Delete}
use Rattle.log_tables.specs.Column.{ColumnValue}
use Rattle.log_rows.specs.Head.{HeadValue, has_all}
use Rattle.log_rows.specs.Change.{Change, changes_of}
use Rattle.log_rows.specs.Written.{Cells, cells_of_either}
use Rattle.log_feed.specs.declared.fault.Trouble.{Trouble}
use Rattle.log_feed.specs.declared.fault.Trouble.TheVariants.{NotAll, Value, TooLong}
use Rattle.log_feed.specs.declared.fault.TroubleError.{TroubleError}
use Rattle.log_feed.specs.Fault.{trouble_meant}
use Rattle.log_feed.specs.Group.{in_bytes}

-- the message of a row's cells
abbrev pub row_bytes : Cells → List ℕ
row_bytes cells = written_fields (text_field 1 cells.lengths ++ text_field 2 cells.values)

-- with it as the field of this number behind other bytes
abbrev pub with_row : ℕ → Cells → List ℕ → Result (List ℕ) Trouble
with_row number cells old = if nat_le (length (row_bytes cells)) (2 ^ 24) then Ok (old ++ written_field (message_field number (row_bytes cells))) else Err TooLong

-- the message of a change
abbrev pub change_bytes : RowsKind → Cells → Cells → Result (List ℕ) Trouble
change_bytes Write before after = with_row 2 after []
change_bytes Delete before after = with_row 1 before []
change_bytes Update before after = with_row 1 before [] >>= λ bytes. with_row 2 after bytes

-- with it as a change of a row event behind other bytes
unfoldable pub with_change : RowsKind → Cells → Cells → List ℕ → Result (List ℕ) Trouble
with_change kind before after old = change_bytes kind before after >>= λ bytes. Ok (old ++ written_field (message_field 2 bytes))

-- with all changes
unfoldable pub with_changes : RowsKind → List Change → Option ValueFault → List ℕ → Result (List ℕ) Trouble
with_changes kind [] None old = Ok old
with_changes kind [] (Some fault) old = Err (Value fault)
with_changes kind (c ∷ changes) end old = with_change kind (cells_of_either c.before) (cells_of_either c.after) old >>= λ new. with_changes kind changes end new

-- an event of a type with a message as the field of this number
abbrev pub event_with : ℕ → ℕ → List ℕ → List ℕ
event_with kind number message = written_fields (number_field 1 kind ++ message_field number message ∷ [])

-- an event as its bytes
abbrev pub event_bytes : {F : Type 0} → Result EventValue F → Result (List ℕ) F
event_bytes (Ok event) = Ok (written_event event)
event_bytes (Err fault) = Err fault

-- the message of a row event of a table of this name, under its columns
abbrev pub rows_bytes : List ℕ → RowsKind → HeadValue → List ColumnValue → Result (List ℕ) Trouble
rows_bytes name kind head columns =
    if has_all (length columns) head then with_changes kind (changes_of kind columns head.rows).items (changes_of kind columns head.rows).fault (written_fields (text_field 1 name)) else Err NotAll

-- an event behind others
abbrev pub with_event : {F : Type 0} → Result EventValue F → List (List ℕ) → Result (List (List ℕ)) F
with_event (Ok event) old = Ok (old ++ written_event event ∷ [])
with_event (Err fault) old = Err fault

-- events behind others
abbrev pub with_events : {F : Type 0} → Result (List EventValue) F → List (List ℕ) → Result (List (List ℕ)) F
with_events (Ok events) old = Ok (old ++ in_bytes events)
with_events (Err fault) old = Err fault

-- a change was put that had been read, if one had
abbrev pub PutsIf : Bool → Result (List ℕ) Trouble → Result Bool TroubleError → List ℕ → List ℕ → Type 0
PutsIf true definition (Ok more) old new = (more ≡ true) × (definition ≡ Ok new)
PutsIf false definition (Ok more) old new = (more ≡ false) × (new ≡ old)
PutsIf more definition (Err error) old new = (more ≡ true) × Refuses trouble_meant error definition

-- the next change was put, if there is one
abbrev pub PutsNext : RowsKind → Reading Change ValueFault → Result Bool TroubleError → Reading Change ValueFault → List ℕ → List ℕ → Type 0
PutsNext kind old (Ok true) new out next = (with_changes kind old.items old.fault out ≡ with_changes kind new.items new.fault next) × (length new.items < length old.items)
PutsNext kind old (Ok false) new out next = with_changes kind old.items old.fault out ≡ Ok next
PutsNext kind old (Err error) new out next = Refuses trouble_meant error (with_changes kind old.items old.fault out)
