use Rattle.std.proofs.Common.{◌+◌, ◌<◌, ◌^◌, ℕ, get_or, length}
use Rattle.pk_copy.specs.KeyOrder.{key_cmp}
use Rattle.target_tables.specs.Rising.{IsRising}
use Rattle.live_session.proofs.CountLaws.{Goes}
use Rattle.live_session.proofs.counts.count_from.Given as goal

-- what is counted so far, and what is still to be counted among the other entries
abbrev pub invariant-loop-key : goal.invariant-loop-key
invariant-loop-key l = record {
  rising : IsRising key_cmp l.entries;
  few : (s : ℕ) → get_or l.counts s 0 + length l.entries < 2 ^ 64;
  goes : Goes l.initial.entries l.entries l.t l.initial.counts l.counts;
}

abbrev pub decreases-loop-key : goal.decreases-loop-key
decreases-loop-key l = length l.entries
