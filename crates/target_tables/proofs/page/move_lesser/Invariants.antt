use Rattle.std.proofs.Common.{◌≡◌, ◌+◌, ◌≤◌, ◌++◌, reverse, vec_len}
use Rattle.std.specs.Vec.{vec_capacity}
use Rattle.target_tables.specs.Rising.{AreBelow}
use Rattle.target_tables.proofs.page.move_lesser.Given as goal

abbrev pub invariant-loop-upper : goal.invariant-loop-upper
invariant-loop-upper g l = record {
  entries : l.lower.items ++ reverse l.upper.items ≡ l.fn.lower.items ++ reverse l.fn.upper.items;
  count : vec_len l.lower + vec_len l.upper ≡ vec_len l.fn.lower + vec_len l.fn.upper;
  below : AreBelow g.K.Ord.cmp l.key l.fn.lower.items → AreBelow g.K.Ord.cmp l.key l.lower.items;
  lower_room : vec_capacity l.fn.lower ≤ vec_capacity l.lower;
  upper_room : vec_capacity l.fn.upper ≤ vec_capacity l.upper;
}

abbrev pub decreases-loop-upper : goal.decreases-loop-upper
decreases-loop-upper g l = vec_len l.upper
