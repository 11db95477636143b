use Rattle.std.proofs.Common.{◌∙◌, arith}
use Rattle.std.proofs.IntoIterSteps.{All-taken}
use Rattle.checkpoint_core.proofs.FramedLaws.{put_between}
use Rattle.checkpoint_core.proofs.framed.put_before.Goals as goal

pub splice-requires-clause-in_bounds : goal.splice-requires-clause-in_bounds
splice-requires-clause-in_bounds c = omega (arith, c.requires, c.args.out.now.ok.0)

pub returns : goal.returns
returns c before behind long is =
    let put = c.in_ok-splice.ensures.items in
    put.4 ∙ put_between c.args.out.now.items before behind put.1 c.args.head.items c.args.start long is (All-taken put.0 put.1 put.3 ∙ put.2.0)
