use Rattle.std.proofs.Common.{◌≡◌, ◌++◌, List, length, MatchOption}
use Rattle.apply_core.specs.Private.Meeting.{Met, NoneClash, IsFirstMet}
use Rattle.apply_core.proofs.join_rows.first_met.Given as goal

-- the keys that were seen, and the first rows that clash among them
abbrev pub invariant-loop-key : goal.invariant-loop-key
invariant-loop-key l =
    (seen : List Met) × (l.fn.keys ≡ seen ++ l.keys)
    × MatchOption l.first (NoneClash l.sides seen) (λ met. IsFirstMet l.sides seen met.key.now met.later met.lower)

abbrev pub decreases-loop-key : goal.decreases-loop-key
decreases-loop-key l = length l.keys
