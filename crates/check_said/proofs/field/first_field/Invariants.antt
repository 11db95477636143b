use Rattle.std.proofs.Common.{◌≡◌, ◌+◌, drop}
use Rattle.check_said.specs.Differing.{first_message}
use Rattle.check_said.proofs.field.first_field.Given as goal

-- the first is that of the messages that are left
abbrev pub invariant-loop-i : goal.invariant-loop-i
invariant-loop-i l = first_message l.plan (l.i + 1) (drop l.i l.messages) ≡ first_message l.plan 1 l.messages
