use Rattle.std.proofs.Common.{◌≡◌}
use Rattle.std.specs.List.{list_any}
use Rattle.compaction.specs.Compacting.{is_unknown}
use Rattle.compaction.proofs.cut.has_unknown.Given as goal

-- of the changes so far none is of such a table
abbrev pub invariant-loop-change : goal.invariant-loop-change
invariant-loop-change l = list_any (is_unknown l.plan) l.change-iterator ≡ list_any (is_unknown l.plan) l.group.changes
