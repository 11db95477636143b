-- What is at fault in an event. Each is a condition on the whole event (this profile; that messages
-- are lists of fields and texts UTF-8 is the protobuf encoding guide's).
use Rattle.std.specs.Prelude.{ℕ, ◌==◌, ◌||◌, ◌&&◌, not, if◌then◌else◌, Bool, true, List, [], ◌∷◌, Option, None, option_and_then}
use Rattle.std.specs.Option.{option_or}
use Rattle.std.specs.Result.{result_err}
use Rattle.std.specs.List.{list_any, list_all}
use Rattle.std.specs.Str.{is_utf8}
use Rattle.proto_wire.specs.declared.fault.WireFault.{WireFault}
use Rattle.proto_wire.specs.Field.{WireField, fields_of}
use Rattle.row_view.specs.declared.fault.RowFault.{RowFault}
use Rattle.row_view.specs.Row.{row_of_message}
use Rattle.vevent.specs.declared.kind.EventKind.{EventKind}
use Rattle.vevent.specs.declared.kind.EventKind.TheVariants.{Gtid, Begin, Commit, Rollback, Row, Field, Vgtid, Ignored}
use Rattle.proto_wire.specs.Parts.{bytes_in, text, parts, embedded, is_repeated}

-- The first fault from the left in a message's fields, where `inside` says what is at fault in the
-- bytes under a number; what ends the fields stands behind all of them.
abbrev pub first_in : {F : Type 0} → (ℕ → List ℕ → Option F) → List WireField → Option F → Option F
first_in inside [] end = end
first_in inside (f ∷ fs) end = option_or (option_and_then (inside f.number) (bytes_in f.value)) (first_in inside fs end)

-- ---- not a list of fields

-- the first in a message, where `inside` speaks of the messages in it
abbrev pub wire_fault_by : (ℕ → List ℕ → Option WireFault) → List ℕ → Option WireFault
wire_fault_by inside message = first_in inside (fields_of message).items (fields_of message).fault

-- in a message that holds plain ones under one number, as a row event its row changes
abbrev pub in_plain : ℕ → ℕ → List ℕ → Option WireFault
in_plain wanted number part = if number == wanted then (fields_of part).fault else None

-- in a message that an event holds: row_event = 5, field_event = 6, vgtid = 7
abbrev pub in_event : ℕ → List ℕ → Option WireFault
in_event number part =
    if number == 5 || number == 6 then wire_fault_by (in_plain 2) part else
    if number == 7 then wire_fault_by (in_plain 1) part else
    None

-- in an event; rows have their own faults
abbrev pub event_wire_fault : List ℕ → Option WireFault
event_wire_fault event = wire_fault_by in_event event

-- ---- a message that stands alone occurs twice

-- the row changes of an event
abbrev pub row_changes : List ℕ → List (List ℕ)
row_changes event = parts 2 (embedded 5 event)

-- a row change has two rows before or two after
abbrev pub repeats_a_row : List ℕ → Bool
repeats_a_row change = is_repeated 1 change || is_repeated 2 change

-- one of the event's three messages occurs twice, or a row in one of its row changes
abbrev pub repeats_a_message : List ℕ → Bool
repeats_a_message event = is_repeated 5 event || is_repeated 6 event || is_repeated 7 event || list_any repeats_a_row (row_changes event)

-- ---- a text that is used isn't UTF-8

-- the keyspace, the shard and the position of an entry of a VGTID are UTF-8
abbrev pub are_entry_texts : List ℕ → Bool
are_entry_texts entry = is_utf8 (text 1 entry) && is_utf8 (text 2 entry) && is_utf8 (text 3 entry)

-- the texts that the event's type uses are UTF-8: the position of a GTID, the table's name of a row
-- event, the table's and the columns' of a field event, all of a VGTID's entries
abbrev pub are_texts : EventKind → List ℕ → Bool
are_texts Gtid event = is_utf8 (text 3 event)
are_texts Begin event = true
are_texts Commit event = true
are_texts Rollback event = true
are_texts Row event = is_utf8 (text 1 (embedded 5 event))
are_texts Field event = is_utf8 (text 1 (embedded 6 event)) && list_all (λ field. is_utf8 (text 1 field)) (parts 2 (embedded 6 event))
are_texts Vgtid event = list_all are_entry_texts (parts 1 (embedded 7 event))
are_texts (Ignored which) event = true

-- ---- a row change has other fields than its rows

-- a field of a row change that is none of its rows: before = 1, after = 2
abbrev pub is_other_field : WireField → Bool
is_other_field f = not (f.number == 1 || f.number == 2)

-- a row change has such a field, as a partial row image has
abbrev pub is_partial : List ℕ → Bool
is_partial change = list_any is_other_field (fields_of change).items

-- ---- rows

-- what is at fault in a row of a row change: before = 1, after = 2
abbrev pub in_change : ℕ → List ℕ → Option RowFault
in_change number row = if number == 1 || number == 2 then result_err (row_of_message row) else None

-- the first in a row change, from the left
abbrev pub change_fault : List ℕ → Option RowFault
change_fault change = first_in in_change (fields_of change).items None

-- the first in several row changes
abbrev pub first_row_fault : List (List ℕ) → Option RowFault
first_row_fault [] = None
first_row_fault (c ∷ cs) = option_or (change_fault c) (first_row_fault cs)
