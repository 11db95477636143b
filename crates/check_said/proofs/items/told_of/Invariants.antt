use Rattle.std.proofs.Common.{◌≡◌, ◌++◌, ◌+◌, drop, map}
use Rattle.check_said.specs.Items.{told_of}
use Rattle.check_said.proofs.items.told_of.Given as goal

-- the count so far, and that of the findings that are left, are that of all
abbrev pub invariant-loop-found : goal.invariant-loop-found
invariant-loop-found l = l.count + told_of l.why l.t (drop l.found-index l.findings) ≡ told_of l.why l.t l.findings
