use Rattle.std.proofs.Common.{map, sym, ap, ◌∙◌}
use Rattle.std.proofs.lemmas.List.{take-map}
use Rattle.log_groups.specs.Transaction.{done_value}
use Rattle.log_groups.proofs.open.cut.Goals as goal

pub returns : goal.returns
returns c = ap (map done_value) c.truncate.ensures.items ∙ sym (take-map done_value c.args.count c.args.changes.now.items)
