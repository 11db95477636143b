use Rattle.std.proofs.Common.{map, ◌∙◌}
use Rattle.tiles_said.proofs.SaidLaws.{misfits-more}
use Rattle.tiles_said.proofs.cover.say_misfits.Goals as goal

pub loop-misfit-preserved : goal.loop-misfit-preserved
loop-misfit-preserved c =
    misfits-more (map (λ name. name.now) c.args.names.now) c.args.source.now c.args.table.now c.args.found.now c.loop-misfit.misfit-index c.misfit-item.result c.deref.result.now c.deref-in-loop-misfit.result.now c.loop-misfit.said c.say.new.said _
    c.loop-misfit-test.true c.misfit-item.is c.in_ok-say.ensures (c.deref-in-loop-misfit.ensures ∙ c.in_ok-line.ensures) (c.deref.ensures ∙ c.in_ok-what.ensures) c.loop-misfit.invariant
