-- Why a stream stands still, and the refusal that is told of it (this profile).
use Rattle.std.specs.Prelude.{ℕ, List, Bool, true, false, Option, None, Some}
use Rattle.std.specs.Option.{option_map}
use Rattle.filter_rule.specs.PlanTable.{TableValue, name_of_table}
use Rattle.pk_copy.specs.KeyValue.{KeyValue}
use Rattle.vevent.specs.declared.fault.EventFault.TheVariants.{BadType}
use Rattle.source_feed.specs.FaultNumber as feed
use Rattle.source_feed.specs.declared.fault.FeedFault.{FeedFault}
use Rattle.source_feed.specs.declared.fault.FeedFault.TheVariants as feeds
use Rattle.board_laws.specs.Refusals.{number_of}
use Rattle.board_laws.specs.declared.refusal.Refusal.{Refusal}
use Rattle.board_laws.specs.declared.refusal.Refusal.TheVariants.{OwnedByOther}
use Rattle.board_laws.specs.declared.step_refusal.StepRefusal.{StepRefusal}
use Rattle.board_laws.specs.declared.step_refusal.StepRefusal.TheVariants.{Unprepared, Refused}
use Rattle.refusal_json.specs.Refusal.{meaning_of}
use Rattle.live_json.specs.Answers.{RefusalValue, plain_refusal}
use Rattle.live_session.specs.declared.arrivals.ArrivalFault.{ArrivalFault}
use Rattle.live_session.specs.declared.arrivals.ArrivalFault.TheVariants as arrival
use Rattle.live_session.specs.declared.arrivals.SaveFault.{SaveFault}
use Rattle.live_session.specs.declared.arrivals.SaveFault.TheVariants as save
use Rattle.live_session.specs.declared.seat.Seat.{Seat}
use Rattle.live_session.specs.declared.seat.Stopped.{Stopped}
use Rattle.live_session.specs.declared.seat.Stopped.TheVariants.{File, Bytes}

-- ---- numbers

abbrev pub number_of_arrival : ArrivalFault → ℕ
number_of_arrival arrival.OtherFile = 127
number_of_arrival arrival.CannotRead = 131
number_of_arrival arrival.Memory = 72

abbrev pub number_of_save : SaveFault → ℕ
number_of_save save.NoFile = 124
number_of_save save.Changed = 129
number_of_save save.CannotWrite = 132
number_of_save save.Memory = 72

-- ---- what is told

-- a refusal of which nothing is told but its number and what that means
abbrev pub known_refusal : ℕ → RefusalValue
known_refusal number = plain_refusal number (meaning_of number)

-- a fault of a feed: its cause where it has one; the group that it is of; a row's table; the type of an event that isn't read
abbrev pub caused_refusal : FeedFault → RefusalValue
caused_refusal fault = record (known_refusal (feed.number_of fault)) { cause = feed.cause_of fault }

abbrev pub fault_refusal : List TableValue → FeedFault → RefusalValue
fault_refusal tables (feeds.Event (BadType kind)) = record (caused_refusal (feeds.Event (BadType kind))) { column_type = Some kind }
fault_refusal tables (feeds.Diverged group) = record (caused_refusal (feeds.Diverged group)) { group = Some group }
fault_refusal tables (feeds.BadRow group table cause) = record (caused_refusal (feeds.BadRow group table cause)) { group = Some group; table = Some (name_of_table tables table) }
fault_refusal tables fault = caused_refusal fault

-- another stream's row stands at a key: the key, its table and the owner
abbrev pub owner_refusal : List TableValue → KeyValue → ℕ → RefusalValue
owner_refusal tables key owner = record (known_refusal 71) { key = Some key; owner = Some owner; table = Some (name_of_table tables key.table) }

-- a step that the board refuses: the key where another stream's row stands
abbrev pub board_refusal : List TableValue → Refusal → RefusalValue
board_refusal tables (OwnedByOther key owner) = owner_refusal tables key owner
board_refusal tables refusal = known_refusal (number_of refusal)

-- a step: the same, or the fault of a group that isn't sound
abbrev pub step_refusal : List TableValue → StepRefusal → RefusalValue
step_refusal tables (Unprepared fault) = fault_refusal tables fault
step_refusal tables (Refused refusal) = board_refusal tables refusal

abbrev pub stop_refusal : List TableValue → Stopped → RefusalValue
stop_refusal tables (File fault) = known_refusal (number_of_arrival fault)
stop_refusal tables (Bytes fault) = fault_refusal tables fault

-- what a stream is refused for: its last step, or else the bytes behind those that are taken, or their file
abbrev pub refusal_of : List TableValue → Option StepRefusal → Option Stopped → Option RefusalValue
refusal_of tables (Some refusal) stopped = Some (step_refusal tables refusal)
refusal_of tables None stopped = option_map (stop_refusal tables) stopped

-- ---- seats

-- it is for good: another file, or bytes at fault
abbrev pub lasts : Stopped → Bool
lasts (File arrival.OtherFile) = true
lasts (File fault) = false
lasts (Bytes feeds.Memory) = false
lasts (Bytes fault) = true

abbrev pub fresh_seat : ℕ → Seat
fresh_seat tail = record { kept = None; tail = tail; stopped = None; step = None }
