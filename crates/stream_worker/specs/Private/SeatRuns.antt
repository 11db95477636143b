-- Seats whose streams run to their feeds' ends, each by itself (this profile).
use Rattle.std.specs.Prelude.{◌≡◌, ℕ, length, List, [], ◌∷◌, Option, None, MatchOption, Some, slice_get}
use Rattle.std.specs.Option.{option_or}
use Rattle.source_feed.specs.Planned.{FeedValue}
use Rattle.stream_worker.specs.declared.seat.Seat.{Seat}
use Rattle.stream_worker.specs.declared.shared.Shared.{Shared}
use Rattle.stream_worker.specs.declared.seat_run.Job.{Job}
use Rattle.stream_worker.specs.declared.seat_run.Ran.{Ran}
use Rattle.apply_core.specs.declared.run_refusal.RunRefusal.{RunRefusal}
use Rattle.stream_worker.specs.Knowing.{SawStreams}
use Rattle.stream_worker.specs.SeatOf.{known, IsSeatOf, SawNoOther}
use Rattle.stream_worker.specs.Worked.{Follows, HasCome, EndsSeat}

-- ---- one seat

-- a seat at this board, whose stream reads the feed of its number; the board has as many streams as there are feeds
pub record IsSeated (shared : Shared) (feeds : List FeedValue) (seat : Seat) : Type 0 where
  pub at_board : IsSeatOf shared seat
  pub feed : FeedValue
  pub fed : slice_get feeds seat.stream ≡ Some feed
  pub follows : Follows feed seat
  pub many : SawStreams (known seat) (length feeds)

-- what a worker along this feed leaves of a seat of this board: the seat, and where its stream read the feed, it still
-- does, and is at the feed's end or where it ended before
pub record IsLeft (shared : Shared) (feed : FeedValue) (before : Seat) (ran : Ran) : Type 0 where
  pub at_board : IsSeatOf shared ran.seat
  pub stream : ran.seat.stream ≡ before.stream
  pub many : SawNoOther before ran.seat
  pub follows : Follows feed before → Follows feed ran.seat
  pub outcome : Follows feed before → MatchOption ran.refusal (HasCome feed ran.seat) (EndsSeat feed ran.seat)

-- what is left of a run of stream s: its seat, at its feed's end or where it ended before
pub record IsRan (shared : Shared) (feeds : List FeedValue) (s : ℕ) (ran : Ran) : Type 0 where
  pub stream : ran.seat.stream ≡ s
  pub seated : IsSeated shared feeds ran.seat
  pub outcome : MatchOption ran.refusal (HasCome seated.feed ran.seat) (EndsSeat seated.feed ran.seat)

-- ---- all seats

-- each has the stream of its number, which reads its feed
abbrev pub AreSeated : Shared → List FeedValue → List Seat → Type 0
AreSeated shared feeds seats = (k : ℕ) (seat : Seat) → slice_get seats k ≡ Some seat → IsSeated shared feeds seat × (seat.stream ≡ k)

-- each is at this board, over these feeds
abbrev pub AreJobs : {R G : Type 0} → Shared → List FeedValue → List (Job R G) → Type 0
AreJobs {R} {G} shared feeds jobs = (k : ℕ) (job : Job R G) → slice_get jobs k ≡ Some job → (job.run.shared.now ≡ shared) × (job.run.feeds.now ≡ feeds)

-- each is what is left of a run of the stream of its number
abbrev pub AreRan : Shared → List FeedValue → List Ran → Type 0
AreRan shared feeds rans = (k : ℕ) (ran : Ran) → slice_get rans k ≡ Some ran → IsRan shared feeds k ran

-- the first refusal, if any
abbrev pub first_refusal : List Ran → Option RunRefusal
first_refusal [] = None
first_refusal (ran ∷ later) = option_or ran.refusal (first_refusal later)
