use Rattle.std.proofs.Common.{◌≡◌, ℕ, ◌<◌, Some, map, slice_get}
use Rattle.std.specs.Arc.{arc_value}
use Rattle.source_feed.specs.Planned.{FeedValue, IsFeed}
use Rattle.apply_core.proofs.schedule.are_opened_under.Given as goal

-- the feeds so far are whole and opened under their plans
abbrev pub invariant-loop-i : goal.invariant-loop-i
invariant-loop-i l = record {
  opened : (k : ℕ) → k < l.i → slice_get (map (λ (feed : FeedValue). feed.plan) l.feeds) k ≡ slice_get (map arc_value l.plans) k;
  whole : (k : ℕ) (feed : FeedValue) → k < l.i → slice_get l.feeds k ≡ Some feed → IsFeed feed;
}
