use Rattle.std.proofs.Common.{◌≡◌, ◌≤◌, drop, length}
use Rattle.pk_copy.specs.KeyValue.{KeyValue}
use Rattle.feed_check.specs.Private.Replayed.{row_in}
use Rattle.feed_check.specs.Shared.{first_touching, histories_of, shared_from}
use Rattle.feed_check.proofs.shared.shared_of.Given as goal

-- the least of the last feeds, and at each key the first of them that touches it
abbrev pub invariant-loop-i : goal.invariant-loop-i
invariant-loop-i l =
    (l.i ≤ length l.fn.checks)
    × ((l.best ≡ shared_from l.i (histories_of (drop l.i l.fn.checks))) × ((key : KeyValue) → row_in l.owners key ≡ first_touching l.i (histories_of (drop l.i l.fn.checks)) key))

abbrev pub decreases-loop-i : goal.decreases-loop-i
decreases-loop-i l = l.i
