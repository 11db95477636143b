-- What is still to come of a log's bytes.
use Rattle.std.specs.Prelude.{◌≡◌, ℕ, ◌+◌, Option, Some, None, Result, Ok, Err}
use Rattle.item_readers.specs.Reading.{Reading}
use Rattle.log_events.specs.declared.event.Event.{Event}
use Rattle.log_events.specs.declared.fault.EventFault.{EventFault}

-- what is read of the bytes, item by item, and how many of them aren't read yet
pub record Unread (A F : Type 0) : Type 0 where
  pub reading : Reading A F
  pub left : ℕ

-- the bytes of an event that is given are read; at the end and at a fault none are
abbrev pub ReadsBytes : ℕ → Result (Option Event) EventFault → ℕ → Type 0
ReadsBytes old (Ok (Some event)) new = old ≡ event.size + new
ReadsBytes old (Ok None) new = new ≡ old
ReadsBytes old (Err fault) new = new ≡ old
