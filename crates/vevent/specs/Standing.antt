-- When bytes are an event, and what stands in bytes that are refused. Each fault is a condition on
-- the whole event, and comes where none of the earlier ones does.
use Rattle.std.specs.Prelude.{◌≡◌, ℕ, true, false, List, Some, None, IfSome}
use Rattle.std.specs.List.{list_any, AllByRecursion}
use Rattle.proto_wire.specs.Field.{fields_of}
use Rattle.vevent.specs.declared.fault.EventFault.{EventFault}
use Rattle.vevent.specs.declared.fault.EventFault.TheVariants.{Wire, RepeatedMessage, BadType, NotUtf8, PartialRow, Row}
use Rattle.vevent.specs.declared.kind.EventKind.{EventKind}
use Rattle.vevent.specs.EventValue.{EventValue}
use Rattle.vevent.specs.Kind.{kind_of}
use Rattle.proto_wire.specs.Parts.{bytes_in, scalar}
use Rattle.vevent.specs.Fault.{event_wire_fault, repeats_a_message, are_texts, row_changes, is_partial, first_row_fault}
use Rattle.vevent.specs.Message.{event_of}

-- a list of fields
abbrev pub IsList : List ℕ → Type 0
IsList message = (fields_of message).fault ≡ None

-- what any field of the message holds is so, by its number
abbrev pub EachPart : (ℕ → List ℕ → Type 0) → List ℕ → Type 0
EachPart P message = AllByRecursion (λ f. IfSome (bytes_in f.value) (P f.number)) (fields_of message).items

-- a list of fields, and so is all that it holds under the number
abbrev pub HoldsLists : ℕ → List ℕ → Type 0
HoldsLists held message = IsList message × EachPart (λ number part. number ≡ held → IsList part) message

-- a known message of an event and its own ones are lists of fields: row_event = 5 with
-- row_changes = 2, field_event = 6 with fields = 2, vgtid = 7 with shard_gtids = 1
abbrev pub IsKnownList : ℕ → List ℕ → Type 0
IsKnownList number part = (number ≡ 5 → HoldsLists 2 part) × (number ≡ 6 → HoldsLists 2 part) × (number ≡ 7 → HoldsLists 1 part)

-- the event and its known messages, rows aside, are lists of fields
abbrev pub AreLists : List ℕ → Type 0
AreLists event = IsList event × EachPart IsKnownList event

-- and no message that stands alone occurs twice
abbrev pub StandAlone : List ℕ → Type 0
StandAlone event = AreLists event × (repeats_a_message event ≡ false)

-- and the type is this one
abbrev pub HasType : List ℕ → EventKind → Type 0
HasType event kind = StandAlone event × (kind_of (scalar 1 event) ≡ Some kind)

-- and the texts that it uses are UTF-8
abbrev pub HasTexts : List ℕ → EventKind → Type 0
HasTexts event kind = HasType event kind × (are_texts kind event ≡ true)

-- and its row changes have no fields besides their rows
abbrev pub HasWholeRows : List ℕ → EventKind → Type 0
HasWholeRows event kind = HasTexts event kind × (list_any is_partial (row_changes event) ≡ false)

-- and its rows can be read
abbrev pub IsAccepted : List ℕ → EventKind → Type 0
IsAccepted event kind = HasWholeRows event kind × (first_row_fault (row_changes event) ≡ None)

-- the bytes are this event
abbrev pub IsEvent : List ℕ → EventValue → Type 0
IsEvent event value = (kind : EventKind) × IsAccepted event kind × (value ≡ event_of kind event)

-- what stands in bytes that are refused so
abbrev pub IsRefused : List ℕ → EventFault → Type 0
IsRefused event (Wire f) = event_wire_fault event ≡ Some f
IsRefused event RepeatedMessage = AreLists event × (repeats_a_message event ≡ true)
IsRefused event (BadType n) = StandAlone event × (scalar 1 event ≡ n) × (kind_of n ≡ None)
IsRefused event NotUtf8 = (kind : EventKind) × HasType event kind × (are_texts kind event ≡ false)
IsRefused event PartialRow = (kind : EventKind) × HasTexts event kind × (list_any is_partial (row_changes event) ≡ true)
IsRefused event (Row f) = (kind : EventKind) × HasWholeRows event kind × (first_row_fault (row_changes event) ≡ Some f)
