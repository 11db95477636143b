use Rattle.std.proofs.Common.{map}
use Rattle.status_said.proofs.JsonLaws.{status_no_float}
use Rattle.status_said.proofs.json.status_line.Goals as goal

pub line_of-requires : goal.line_of-requires
line_of-requires c = rw c.in_ok-whole.ensures (status_no_float (map (λ name. name.now) c.args.names.now) c.args.stands.now)

pub returns : goal.returns
returns c = rw c.in_ok-whole.ensures at c.line_of.ensures
