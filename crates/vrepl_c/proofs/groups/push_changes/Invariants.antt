use Rattle.std.proofs.Common.{◌≡◌, ◌++◌}
use Rattle.vrepl_c.specs.Encoded.{changes_bytes}
use Rattle.vrepl_c.proofs.groups.push_changes.Given as goal

-- the bytes so far and those of the changes that are left are the whole
abbrev pub invariant-loop-change : goal.invariant-loop-change
invariant-loop-change l = l.into.items ++ changes_bytes l.change-iterator ≡ l.fn.into.items ++ changes_bytes l.fn.changes
