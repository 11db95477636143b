use Rattle.std.proofs.Common.{map}
use Rattle.tiles_said.proofs.EndLaws.{ends_said, quiet_end}
use Rattle.tiles_said.proofs.printed.tiles.Goals as goal

pub returns-in-Ok-clause-ends : goal.returns-in-Ok-clause-ends
returns-in-Ok-clause-ends g c =
    ends_said (map (λ name. name.now) c.args.names.now) (map (λ text. text.items) c.args.texts.now) c.in-Ok.said c.print_said.result (g.W.Out.written c.args.out.now) (g.W.Out.written c.print_said.new.out)
    c.in-Ok.ensures.said c.print_said.ensures

pub returns-in-Ok-clause-split : goal.returns-in-Ok-clause-split
returns-in-Ok-clause-split g c = λ is. c.in-Ok.ensures.split (quiet_end c.in-Ok.said c.print_said.result (g.W.Out.written c.args.out.now) (g.W.Out.written c.print_said.new.out) c.print_said.ensures is)
