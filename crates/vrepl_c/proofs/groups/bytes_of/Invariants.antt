use Rattle.std.proofs.Common.{◌≡◌, ◌++◌}
use Rattle.vrepl_c.specs.Encoded.{groups_bytes}
use Rattle.vrepl_c.proofs.groups.bytes_of.Given as goal

-- the bytes so far and those of the groups that are left are the whole
abbrev pub invariant-loop-group : goal.invariant-loop-group
invariant-loop-group l = l.bytes.items ++ groups_bytes l.group-iterator ≡ groups_bytes l.fn.groups.items
