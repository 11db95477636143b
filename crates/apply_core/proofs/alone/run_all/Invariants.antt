use Rattle.std.proofs.Common.{◌≡◌, ◌<◌, ℕ, Some, slice_get}
use Rattle.source_feed.specs.Planned.{FeedValue}
use Rattle.board_laws.specs.Meaning.{State}
use Rattle.apply_core.specs.Ended.{HasEnded, IsFedBoard}
use Rattle.apply_core.proofs.alone.run_all.Given as goal

-- every stream reads its feed, and the first ones have ended
abbrev pub invariant-loop-s : goal.invariant-loop-s
invariant-loop-s l =
    IsFedBoard l.feeds l.board
    × ((t : ℕ) (feed : FeedValue) (state : State) → t < l.s → slice_get l.feeds t ≡ Some feed → slice_get l.board.streams t ≡ Some state → HasEnded feed state)
