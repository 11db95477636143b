-- A session, and what it tells of the streams of its board (this profile).
use Rattle.std.specs.Prelude.{◌≡◌, ℕ, ◌-◌, List, [], length, Option, Some, MatchOption, option_map, slice_get}
use Rattle.std.specs.Option.{option_map_or}
use Rattle.filter_rule.specs.PlanTable.{TableValue}
use Rattle.filter_rule.specs.PlanValue.{PlanValue}
use Rattle.pk_copy.specs.Marks.{Marks, mark_of}
use Rattle.stream_core.specs.Standing.{phase_of}
use Rattle.source_feed.specs.GroupValue.{Position}
use Rattle.source_feed.specs.Planned.{FeedValue}
use Rattle.board_laws.specs.Lawful.{standing_of}
use Rattle.board_laws.specs.Meaning.{State}
use Rattle.board_laws.specs.Sources.{applied_position}
use Rattle.live_core.specs.Live.{LiveValue}
use Rattle.live_json.specs.Answers.{CopiedValue, StreamValue, position_text}
use Rattle.live_session.specs.Stops.{fresh_seat, refusal_of}
use Rattle.live_session.specs.declared.seat.Seat.{Seat}

-- a board that goes on, and what is known of each stream's feed
pub record SessionValue : Type 0 where
  pub live : LiveValue
  pub seats : List Seat

abbrev pub session_of : LiveValue → List Seat → SessionValue
session_of live seats = record { live = live; seats = seats }

-- a session, and the checkpoints that were kept of it, the last first, where they are known
pub record KeptSession : Type 0 where
  pub session : SessionValue
  pub saved : Option (List (List ℕ))

abbrev pub kept_session : SessionValue → Option (List (List ℕ)) → KeptSession
kept_session session saved = record { session = session; saved = saved }

-- the plan of the first stream, which has the tables of all
abbrev pub first_plan : LiveValue → Option PlanValue
first_plan live = option_map (λ (feed : FeedValue). feed.plan) (slice_get live.fed.feeds 0)

-- ---- how it begins

-- how many bytes of the feed of stream s have come and aren't taken
abbrev pub tail_at : List (List ℕ) → LiveValue → ℕ → ℕ
tail_at come live s = option_map_or (λ bytes. length bytes) (slice_get come s) 0 - option_map_or (λ bytes. length bytes) (slice_get live.bytes s) 0

-- a seat for each stream, in which nothing is known of its feed but that
pub record AreFresh (come : List (List ℕ)) (live : LiveValue) (seats : List Seat) : Type 0 where
  pub count : length seats ≡ length live.fed.feeds
  pub each : (s : ℕ) (seat : Seat) → slice_get seats s ≡ Some seat → seat ≡ fresh_seat (tail_at come live s)

-- ---- what is told of a stream

-- each table is told with its mark
pub record AreCopied (marks : Marks) (tables : List TableValue) (told : List CopiedValue) : Type 0 where
  pub count : length told ≡ length tables
  pub each : (t : ℕ) (table : TableValue) (one : CopiedValue) → slice_get tables t ≡ Some table → slice_get told t ≡ Some one → one ≡ record { table = table.name; mark = mark_of marks t }

-- a position is told, and none where it is the empty set
abbrev pub IsPositionTold : Position → Option (List ℕ) → Type 0
IsPositionTold position told = MatchOption told (position ≡ []) (λ text. text ≡ position_text position)

-- A stream is told as it stands on this board: its numbers, and the position at which its rows stand.
pub record IsTold (live : LiveValue) (s : ℕ) (seat : Seat) (told : StreamValue) : Type 0 where
  pub state : State
  pub stands : slice_get live.fed.board.streams s ≡ Some state
  pub feed : FeedValue
  pub fed : slice_get live.fed.feeds s ≡ Some feed
  pub bytes : List ℕ
  pub known : slice_get live.bytes s ≡ Some bytes
  pub number : told.stream ≡ s
  pub phase : told.phase ≡ phase_of (standing_of state)
  pub read : told.read ≡ length state.list
  pub applied : told.applied ≡ state.applied
  pub groups : told.groups ≡ length feed.groups
  pub taken : told.bytes ≡ length bytes
  pub tail : told.tail ≡ seat.tail
  pub position : IsPositionTold (applied_position state) told.position
  pub copied : AreCopied state.marks feed.plan.tables told.marks
  pub refused : told.refused ≡ refusal_of feed.plan.tables seat.step seat.stopped

-- each stream of a board is told, in order
pub record AreTold (session : SessionValue) (all : List StreamValue) : Type 0 where
  pub count : length all ≡ length session.live.fed.feeds
  pub each : (s : ℕ) (seat : Seat) (told : StreamValue) → slice_get session.seats s ≡ Some seat → slice_get all s ≡ Some told → IsTold session.live s seat told
