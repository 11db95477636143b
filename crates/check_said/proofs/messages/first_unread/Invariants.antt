use Rattle.std.proofs.Common.{◌≡◌, ◌+◌, drop}
use Rattle.check_said.specs.Messages.{first_unread}
use Rattle.check_said.proofs.messages.first_unread.Given as goal

-- the first is that of the messages that are left
abbrev pub invariant-loop-i : goal.invariant-loop-i
invariant-loop-i l = first_unread (l.i + 1) (drop l.i l.messages) ≡ first_unread 1 l.messages
