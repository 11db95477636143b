-- A board behind the runs of all its seats.
use Rattle.std.proofs.Common.{◌≡◌, List, length, map, Option, None, Some, sym, subst, ◌∙◌}
use Rattle.std.specs.Prelude.{MatchOption, IfSome}
use Rattle.source_feed.specs.Planned.{FeedValue}
use Rattle.board_laws.specs.Meaning.{Meaning}
use Rattle.board_laws.specs.Lawful.{IsLawful}
use Rattle.stream_worker.specs.declared.seat.Seat.{Seat}
use Rattle.stream_worker.specs.declared.shared.Shared.{Shared}
use Rattle.stream_worker.specs.declared.seat_run.Ran.{Ran}
use Rattle.apply_core.specs.declared.run_refusal.RunRefusal.{RunRefusal}
use Rattle.apply_core.specs.Ended.{IsFedBoard, AllHaveEnded}
use Rattle.apply_core.specs.RunRefused.{EndsRun, IsLowest}
use Rattle.stream_worker.specs.SeatOf.{AreApartSeats, AreStatesOf, AllGoOnFromSeen, SawAsMany, IsOpened}
use Rattle.stream_worker.specs.Private.SeatRuns.{AreRan, first_refusal}
use Rattle.stream_worker.proofs.PassesTakeSeats.{apart_in_order}
use Rattle.stream_worker.proofs.RunsLeaveSeats.{left-seats, left-fed, left-ended, left-refused, left-lowest}

module _ (feeds : List FeedValue) (old : Meaning) (fed : IsFedBoard feeds old) (shared : Shared) (given : List Seat) (opened : IsOpened old.streams shared given)
    (rans : List Ran) (as_many : length rans ≡ length given) (ran : AreRan shared feeds rans) (seats : List Seat) (are : seats ≡ map (λ (r : Ran). r.seat) rans) where
  count : length rans ≡ length feeds
  count = as_many ∙ opened.count ∙ fed.count

  pub run-seats : AreApartSeats shared seats
  run-seats = subst (λ (l : List Seat). AreApartSeats shared l) (sym are) (apart_in_order shared (map (λ (r : Ran). r.seat) rans) (left-seats shared feeds rans ran))

  module _ (board : Meaning) (lawful : IsLawful board) (states : AreStatesOf seats board.streams) (seen : AllGoOnFromSeen seats board.streams) (many : SawAsMany seats (length board.streams)) where
    states_of : AreStatesOf (map (λ (r : Ran). r.seat) rans) board.streams
    states_of = subst (λ (l : List Seat). AreStatesOf l board.streams) are states

    seen_of : AllGoOnFromSeen (map (λ (r : Ran). r.seat) rans) board.streams
    seen_of = subst (λ (l : List Seat). AllGoOnFromSeen l board.streams) are seen

    many_of : SawAsMany (map (λ (r : Ran). r.seat) rans) (length board.streams)
    many_of = subst (λ (l : List Seat). SawAsMany l (length board.streams)) are many

    pub run-fed : IsFedBoard feeds board
    run-fed = left-fed feeds old fed shared rans count ran board lawful states_of seen_of many_of

    pub run-outcome : (refusal : Option RunRefusal) → refusal ≡ first_refusal rans → MatchOption refusal (AllHaveEnded feeds board) (EndsRun feeds)
    run-outcome None e = left-ended feeds old fed shared rans count ran board lawful states_of seen_of many_of (sym e)
    run-outcome (Some refusal) e = left-refused feeds old fed shared rans count ran board lawful states_of seen_of many_of refusal (sym e)

    pub run-lowest : (refusal : Option RunRefusal) → refusal ≡ first_refusal rans → IfSome refusal (IsLowest feeds)
    run-lowest None e = tt
    run-lowest (Some refusal) e = left-lowest feeds old fed shared rans count ran board lawful states_of seen_of many_of refusal (sym e)
