use Rattle.std.proofs.Common.{◌≡◌}
use Rattle.feed_check.specs.Private.SeenNames.{HasNames, texts}
use Rattle.feed_check.specs.Unknown.{unknown_in}
use Rattle.feed_check.proofs.unknown.push_changes.Given as goal

-- behind the names so far those of the changes that are left are the whole, and the set has the names so far
abbrev pub invariant-loop-change : goal.invariant-loop-change
invariant-loop-change l = record {
  whole : HasNames l.fn.seen.keys (texts l.fn.told.items) → unknown_in l.plan (texts l.told.items) l.change-iterator ≡ unknown_in l.plan (texts l.fn.told.items) l.fn.changes;
  has : HasNames l.fn.seen.keys (texts l.fn.told.items) → HasNames l.seen.keys (texts l.told.items);
}
