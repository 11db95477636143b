use Rattle.std.proofs.Common.{ℕ, subst}
use Rattle.source_feed.specs.GroupValue.{Position}
use Rattle.source_feed.specs.Positions.{IsNumberAt}
use Rattle.apply_core.proofs.resumed_streams.number_of.Goals as goal

pub unreachable-requires : goal.unreachable-requires
unreachable-requires c = subst (λ (p : Position). (number : ℕ) → ¬ IsNumberAt c.args.feed.now p number) c.position.ensures c.in-None.ensures c.requires.0 c.requires.1
