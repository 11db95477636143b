use Rattle.std.proofs.Common.{◌≡◌, take}
use Rattle.compaction.specs.Compacting.{have_unknown}
use Rattle.compaction.proofs.cut.have_unknown.Given as goal

-- of the groups so far none has such a change
abbrev pub invariant-loop-group : goal.invariant-loop-group
invariant-loop-group g l = have_unknown l.plan (take l.left l.group-iterator) ≡ have_unknown l.plan (take l.number l.groups.items)
