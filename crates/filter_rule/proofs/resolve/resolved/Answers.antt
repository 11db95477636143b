use Rattle.std.proofs.Common.{rules}
use Rattle.filter_rule.specs.Resolving.{resolved}
use Rattle.filter_rule.proofs.resolve.resolved.Goals as goal

pub returns : goal.returns
unfolding resolved
returns c = search rules

pub returns-in_err-check_key_types : goal.returns-in_err-check_key_types
unfolding resolved
returns-in_err-check_key_types c = search rules

pub returns-in_err-check_own_vindex : goal.returns-in_err-check_own_vindex
unfolding resolved
returns-in_err-check_own_vindex c = search rules
