use Rattle.std.proofs.Common.{rules}
use Rattle.filter_rule.specs.Document.{list_apart}
use Rattle.filter_rule.proofs.document.list_apart.Goals as goal

pub returns : goal.returns
unfolding list_apart
returns g c = search rules
