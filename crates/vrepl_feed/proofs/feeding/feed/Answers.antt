use Rattle.vrepl_feed.proofs.EndLaws.{printed_ends}
use Rattle.vrepl_feed.proofs.feeding.feed.Goals as goal

pub returns-in-Ok-clause-ends : goal.returns-in-Ok-clause-ends
returns-in-Ok-clause-ends g c =
    printed_ends c.args.inputs.now c.in-Ok.feed.items c.print_feed.result (g.W.Out.written c.args.out.now) (g.W.Out.written c.print_feed.new.out) (g.E.Out.written c.args.err.now) (g.E.Out.written c.print_feed.new.err)
    c.in-Ok.ensures (rw c.deref.ensures.value at c.print_feed.ensures.ends)
