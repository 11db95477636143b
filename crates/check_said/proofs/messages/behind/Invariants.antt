use Rattle.std.proofs.Common.{◌≡◌, ◌-◌}
use Rattle.check_said.specs.Messages.{behind}
use Rattle.check_said.proofs.messages.behind.Given as goal

-- what is left of the messages stands behind those that were passed
abbrev pub invariant-loop : goal.invariant-loop
invariant-loop l = behind (l.fn.count - l.counter) l.rest ≡ behind l.fn.count l.fn.feed
