use Rattle.std.proofs.Common.{map, subst, sym}
use Rattle.std.specs.Arc.{arc_value}
use Rattle.filter_rule.specs.PlanValue.{PlanValue}
use Rattle.vrepl_transcribe.specs.Private.Steps.{EndsUnder}
use Rattle.vrepl_transcribe.proofs.EndLaws.{stream_stops, under_asked, workflow_fails}
use Rattle.vrepl_transcribe.proofs.transcribing.transcribe_to.Goals as goal

pub returns-in-Err : goal.returns-in-Err
returns-in-Err g c = workflow_fails c.args.inputs (g.L.LogFiles.gives c.args.files.now) (g.L.LogFiles.many c.args.files.now) c.in-Err.fault (rw c.deref.ensures.value at c.in-Err.ensures.reads)

pub returns-in-Some : goal.returns-in-Some
returns-in-Some g c =
    under_asked c.args.inputs (g.L.LogFiles.gives c.args.files.now) (g.L.LogFiles.many c.args.files.now) (map arc_value c.in-Ok.plans.items) _ (rw c.deref.ensures.value at c.in-Ok.ensures.reads) (sym (rw c.deref-2.ensures.value at c.in-Some.ensures)) c.write_under.result (g.W.Out.written c.args.out.now) (g.W.Out.written c.write_under.new.out)
    (subst (λ (plan : PlanValue). EndsUnder c.args.inputs plan (g.L.LogFiles.gives c.args.files.now) (g.L.LogFiles.many c.args.files.now) c.write_under.result (g.W.Out.written c.args.out.now) (g.W.Out.written c.write_under.new.out)) c.deref-in-Some.ensures c.write_under.ensures)

pub returns-in-None : goal.returns-in-None
returns-in-None g c = stream_stops c.args.inputs (g.L.LogFiles.gives c.args.files.now) (g.L.LogFiles.many c.args.files.now) (map arc_value c.in-Ok.plans.items) (rw c.deref.ensures.value at c.in-Ok.ensures.reads) (sym (rw c.deref-2.ensures.value at c.in-None.ensures))
