use Rattle.std.proofs.Common.{◌≡◌}
use Rattle.feed_check.specs.Private.SeenNames.{HasNames, texts}
use Rattle.feed_check.specs.Unknown.{unknown_behind, unknown_tables}
use Rattle.feed_check.proofs.unknown.unknown_tables.Given as goal

-- behind the names so far those of the groups that are left are the whole, and the set has the names so far
abbrev pub invariant-loop-group : goal.invariant-loop-group
invariant-loop-group g l = record {
  whole : unknown_behind l.plan (texts l.told.items) l.group-iterator ≡ unknown_tables l.plan l.groups.items;
  has : HasNames l.seen.keys (texts l.told.items);
}
