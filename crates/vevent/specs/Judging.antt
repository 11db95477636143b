-- Messages that stand outside of events: what is at fault in one is judged in the order of an event's
-- faults, each a condition on the whole message.
use Rattle.std.specs.Prelude.{◌≡◌, ℕ, not, Bool, true, false, List, Option, Some, None, option_map, Result, Ok}
use Rattle.list_laws.specs.Outcome.{◌>>=◌, unless, refused_if}
use Rattle.proto_wire.specs.declared.fault.WireFault.{WireFault}
use Rattle.row_view.specs.declared.fault.RowFault.{RowFault}
use Rattle.vevent.specs.declared.fault.EventFault.{EventFault}
use Rattle.vevent.specs.declared.fault.EventFault.TheVariants.{Wire, RepeatedMessage, BadType, NotUtf8, PartialRow, Row}

-- What can be at fault in a message: it or one of its messages, rows aside, is no list of fields; a
-- message that stands alone occurs twice; its texts are UTF-8; the first bad row.
pub record Conditions : Type 0 where
  pub wire : List ℕ → Option WireFault
  pub repeats : List ℕ → Bool
  pub texts : List ℕ → Bool
  pub rows : List ℕ → Option RowFault

-- ---- as a relation

-- nothing is at fault
pub record HasNoFault (c : Conditions) (message : List ℕ) : Type 0 where
  pub wire : c.wire message ≡ None
  pub once : c.repeats message ≡ false
  pub texts : c.texts message ≡ true
  pub rows : c.rows message ≡ None

-- the message is this value
abbrev pub IsValue : {A : Type 0} → Conditions → (List ℕ → A) → List ℕ → A → Type 0
IsValue c meaning message value = HasNoFault c message × (value ≡ meaning message)

-- what stands in a message that is refused so; each comes where none of the earlier ones does
abbrev pub IsAtFault : Conditions → List ℕ → EventFault → Type 0
IsAtFault c message (Wire f) = c.wire message ≡ Some f
IsAtFault c message RepeatedMessage = (c.wire message ≡ None) × (c.repeats message ≡ true)
IsAtFault c message (BadType n) = ⊥
IsAtFault c message NotUtf8 = (c.wire message ≡ None) × (c.repeats message ≡ false) × (c.texts message ≡ false)
IsAtFault c message PartialRow = ⊥
IsAtFault c message (Row f) = (c.wire message ≡ None) × (c.repeats message ≡ false) × (c.texts message ≡ true) × (c.rows message ≡ Some f)

-- ---- as a function

-- the value of the message, or its first fault
abbrev pub value_by : {A : Type 0} → Conditions → (List ℕ → A) → List ℕ → Result A EventFault
value_by c meaning message =
    unless (option_map Wire (c.wire message)) >>= λ _.
    refused_if (c.repeats message) RepeatedMessage >>= λ _.
    refused_if (not (c.texts message)) NotUtf8 >>= λ _.
    unless (option_map Row (c.rows message)) >>= λ _.
    Ok (meaning message)
