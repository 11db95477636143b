use Rattle.std.proofs.Common.{rules}
use Rattle.vrepl_show.proofs.showing.print_hex.Goals as goal

pub returns : goal.returns
returns g c = search rules
