use Rattle.std.proofs.Common.{◌≡◌, drop, option_map}
use Rattle.std.specs.Option.{option_or}
use Rattle.feed_ends.specs.Positions.{position_for}
use Rattle.feed_ends.proofs.end.position_for.Given as goal

-- the last one so far counts where no later one does
abbrev pub invariant-loop-end : goal.invariant-loop-end
invariant-loop-end l = position_for l.s l.ends ≡ option_or (position_for l.s (drop l.end-index l.ends)) (option_map (λ position. position.now) l.position)
