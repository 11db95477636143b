use Rattle.std.proofs.Common.{rules}
use Rattle.filter_rule.proofs.decide.decide_once.Goals as goal

pub returns : goal.returns
returns c = search rules

pub returns-in_err-decision : goal.returns-in_err-decision
returns-in_err-decision c = search rules
