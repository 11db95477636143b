use Rattle.std.proofs.Common.{◌≡◌, ◌<◌, ℕ, Some, slice_get}
use Rattle.source_feed.specs.Planned.{FeedValue}
use Rattle.board_laws.specs.Meaning.{State}
use Rattle.apply_core.specs.Ended.{HasEnded, IsFedBoard, AreAsBefore}
use Rattle.apply_core.proofs.alone.run_named.Given as goal

-- every stream reads its feed, the first of the named ones have ended, and those that aren't named are as they were
abbrev pub invariant-loop-i : goal.invariant-loop-i
invariant-loop-i l =
    IsFedBoard l.feeds l.board
    × ((k s : ℕ) (feed : FeedValue) (state : State) → k < l.i → slice_get l.streams k ≡ Some s → slice_get l.feeds s ≡ Some feed → slice_get l.board.streams s ≡ Some state → HasEnded feed state)
    × AreAsBefore l.streams l.initial.board l.board
