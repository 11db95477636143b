use Rattle.std.proofs.Common.{sym, ◌∙◌}
use Rattle.apply_core.proofs.PhasesTellNumbers.{copy-reached, forward-ahead}
use Rattle.apply_core.proofs.course.Course.next.Goals as goal

pub returns-in-Running : goal.returns-in-Running
returns-in-Running c = c.running.ensures c.args.self.now.to_copy

pub returns-in-FastForward : goal.returns-in-FastForward
returns-in-FastForward c = forward-ahead c.args.at.now c.requires.sound (sym c.phase.ensures ∙ c.in-FastForward.is)

pub returns-in-Copy : goal.returns-in-Copy
returns-in-Copy c = c.copy.ensures c.args.at.now c.args.groups (copy-reached c.args.at.now (sym c.phase.ensures ∙ c.in-Copy.is))
