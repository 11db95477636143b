use Rattle.vrepl_compact.proofs.EndLaws.{refused_ends}
use Rattle.vrepl_compact.proofs.compacting.compact.Goals as goal

pub returns-in-Ok-clause-ends : goal.returns-in-Ok-clause-ends
returns-in-Ok-clause-ends g c = c.compact_planned.ensures.ends

pub returns-in-Err-clause-ends : goal.returns-in-Err-clause-ends
returns-in-Err-clause-ends g c =
    refused_ends c.args.inputs.now c.in-Err.uncompacted c.refuse_uncompacted.result (g.W.Out.written c.args.out.now) (g.E.Out.written c.args.err.now) (g.E.Out.written c.refuse_uncompacted.new.err)
    c.in-Err.ensures.refused c.refuse_uncompacted.ensures.status c.refuse_uncompacted.ensures.line
