-- The place of a feed's fault, in words (this profile).
use Rattle.std.specs.Prelude.{◌≡◌, ℕ, List, [], ◌++◌, take, codes, decimal, Option, None, Some, Result, Ok, Err}
use Rattle.std.specs.Option.{option_map}
use Rattle.proto_wire.specs.Frame.{frames_of}
use Rattle.filter_rule.specs.PlanValue.{PlanValue}
use Rattle.source_feed.specs.declared.fault.FeedFault.{FeedFault}
use Rattle.source_feed.specs.declared.fault.FeedFault.TheVariants.{Frame, Event, FieldsDiffer}
use Rattle.source_feed.specs.Planned.{source_of}
use Rattle.check_said.specs.Differing.{differing_text, first_message}
use Rattle.check_said.specs.Front.{whole_groups}
use Rattle.check_said.specs.Messages.{byte_of, unread_message}

-- how many whole groups there are; nothing where they are refused
abbrev pub groups_text : Result ℕ FeedFault → List ℕ
groups_text (Ok groups) = codes " behind group " ++ decimal groups
groups_text (Err fault) = []

-- a message by its number, from 1, its first byte, from 0, and the whole groups in the bytes before it
abbrev pub message_text : PlanValue → List ℕ → ℕ → List ℕ
message_text plan feed number =
    codes "message " ++ decimal number ++ codes " byte " ++ decimal (byte_of number feed) ++ groups_text (whole_groups (take (byte_of number feed) feed) (source_of plan))

-- the message of the first FIELD that differs, and the table and the column in which it does
abbrev pub field_text : PlanValue → List ℕ → Option (List ℕ)
field_text plan feed = option_map (λ found. message_text plan feed found.0 ++ codes " " ++ differing_text plan found.1) (first_message plan 1 (frames_of feed).items)

-- of a broken message or an event that isn't read the first message that isn't; of a FIELD that differs the first that
-- does; of other faults nothing
abbrev pub IsPlace : PlanValue → List ℕ → FeedFault → Option (List ℕ) → Type 0
IsPlace plan feed Frame place = place ≡ Some (message_text plan feed (unread_message feed))
IsPlace plan feed (Event fault) place = place ≡ Some (message_text plan feed (unread_message feed))
IsPlace plan feed FieldsDiffer place = place ≡ field_text plan feed
IsPlace plan feed fault place = place ≡ None
