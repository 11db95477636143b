use Rattle.std.proofs.Common.{ℕ, ◌≡◌, ◌<◌, Some, slice_get}
use Rattle.source_feed.specs.Planned.{FeedValue}
use Rattle.checkpoint_laws.specs.Resumed.{IsKnown}
use Rattle.checkpoint_laws.specs.Saved.{SavedStream}
use Rattle.apply_core.proofs.resumed_streams.judge_positions.Given as goal

-- the positions of the first streams are known
abbrev pub invariant-loop-s : goal.invariant-loop-s
invariant-loop-s l = (t : ℕ) (feed : FeedValue) (one : SavedStream) → t < l.s → slice_get l.feeds t ≡ Some feed → slice_get l.saved t ≡ Some one → IsKnown feed one
