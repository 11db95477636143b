-- What a feed tells of transactions one behind another (this profile): a message for each that has rows of its tables, with
-- its changes and the position behind it; and at the end one for the position that was reached, where the last message has
-- another.
use Rattle.std.specs.Prelude.{ℕ, nat_le, Bool, true, false, List, [], ◌∷◌, ◌++◌, length, map, Result, Ok, Err, if◌then◌else◌}
use Rattle.list_laws.specs.Outcome.{◌>>=◌}
use Rattle.gtid_set.specs.declared.interval.Interval.{Interval}
use Rattle.gtid_set.specs.Printed.{printed_position}
use Rattle.gtid_set.specs.Text.{text_limit}
use Rattle.vevent.specs.EventValue.{EventValue}
use Rattle.event_laws.specs.WrittenMessages.{written_messages}
use Rattle.log_course.specs.Course.{PlacedValue}
use Rattle.log_feed.specs.declared.fault.ChangeFault.{ChangeFault}
use Rattle.log_feed.specs.declared.table.Stage.{Stage}
use Rattle.log_feed.specs.Group.{in_bytes, place_event, group_of, told_of_all}
use Rattle.log_laws.specs.declared.fault.TellFault.{TellFault}
use Rattle.log_laws.specs.declared.fault.TellFault.TheVariants.{Change, Position}
use Rattle.log_laws.specs.Source.{SourceTables}

-- how far logs are told: the position that was reached, what they say of each table, and whether the last message says that
-- position, or none was reached
pub record Far : Type 0 where
  pub reached : List Interval
  pub stages : List Stage
  pub said : Bool

-- messages, each as its events, and how far they tell
abbrev pub Messages : Type 0
Messages = List (List EventValue) × Far

-- what is told of changes
abbrev pub of_changes : {A : Type 0} → Result A ChangeFault → Result A TellFault
of_changes (Ok x) = Ok x
of_changes (Err fault) = Err (Change fault)

-- a position as the event that says it, where its text is within what a feed has
abbrev pub place_told : List ℕ → List ℕ → List Interval → Result EventValue TellFault
place_told keyspace shard position = if nat_le (length (printed_position position)) text_limit then Ok (place_event keyspace shard (printed_position position)) else Err Position

-- the message of a transaction, where it has events
abbrev pub messages_with : SourceTables → List Interval → List EventValue → Result (List (List EventValue)) TellFault
messages_with s position [] = Ok []
messages_with s position (e ∷ events) = place_told s.keyspace s.shard position >>= λ place. Ok (group_of (e ∷ events) place ∷ [])

abbrev pub has_events : List EventValue → Bool
has_events [] = false
has_events (e ∷ events) = true

-- what is told of a transaction
abbrev pub group_told : SourceTables → PlacedValue → Far → Result Messages TellFault
group_told s g far =
    of_changes (told_of_all s.schema s.tables g.changes far.stages) >>= λ x. messages_with s g.position x.0 >>= λ messages.
    Ok (messages, record { reached = g.position; stages = x.1; said = has_events x.0 })

-- and of others behind it
unfoldable pub groups_told : SourceTables → List PlacedValue → Far → Result Messages TellFault
groups_told s [] far = Ok ([], far)
groups_told s (g ∷ groups) far = group_told s g far >>= λ x. groups_told s groups x.1 >>= λ y. Ok (x.0 ++ y.0, y.1)

-- the message of the position that was reached, where it isn't said
abbrev pub last_by : SourceTables → List Interval → Bool → Result (List (List EventValue)) TellFault
last_by s reached true = Ok []
last_by s reached false = place_told s.keyspace s.shard reached >>= λ place. Ok ((place ∷ []) ∷ [])

abbrev pub last_told : SourceTables → Far → Result (List (List EventValue)) TellFault
last_told s far = last_by s far.reached far.said

-- messages as they are written
abbrev pub written : List (List EventValue) → List ℕ
written messages = written_messages (map in_bytes messages)
