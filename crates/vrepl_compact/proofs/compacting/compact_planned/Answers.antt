use Rattle.std.proofs.Common.{sym, subst}
use Rattle.vrepl_compact.specs.Compacted.{IsCompacted, RefusesCompact}
use Rattle.vrepl_compact.proofs.EndLaws.{printed_ends, refused_ends}
use Rattle.vrepl_compact.proofs.compacting.compact_planned.Goals as goal

pub returns-in-Ok-clause-ends : goal.returns-in-Ok-clause-ends
returns-in-Ok-clause-ends g c =
    let made = c.in-Ok.compacted.made in
    printed_ends c.args.inputs.now made.groups made.rows made.feed c.print_feed.result (g.W.Out.written c.args.out.now) (g.W.Out.written c.print_feed.new.out) (g.E.Out.written c.args.err.now) (g.E.Out.written c.print_feed.new.err)
    (subst (λ asked. IsCompacted c.args.inputs.now asked made.groups made.rows made.feed) (sym c.requires) c.in-Ok.ensures.compacted) c.print_feed.ensures.ends

pub returns-in-Err-clause-ends : goal.returns-in-Err-clause-ends
returns-in-Err-clause-ends g c =
    refused_ends c.args.inputs.now c.in-Err.uncompacted c.refuse_uncompacted.result (g.W.Out.written c.args.out.now) (g.E.Out.written c.args.err.now) (g.E.Out.written c.refuse_uncompacted.new.err)
    (subst (RefusesCompact c.args.inputs.now c.in-Err.uncompacted) (sym c.requires) c.in-Err.ensures.refused) c.refuse_uncompacted.ensures.status c.refuse_uncompacted.ensures.line
