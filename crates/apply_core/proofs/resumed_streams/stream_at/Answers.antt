use Rattle.std.proofs.Common.{◌∙◌, map, sym, subst}
use Rattle.std.specs.Arc.{arc_value}
use Rattle.stream_core.specs.Standing.{Standing}
use Rattle.checkpoint_laws.specs.Resumed.{IsResumedAt}
use Rattle.apply_core.proofs.ResumeLaws.{is_resumed, is_stream, unsound_by}
use Rattle.apply_core.proofs.StreamLaws.{stands-behind}
use Rattle.apply_core.proofs.resumed_streams.stream_at.Goals as goal

pub returns-in-Err-clause-err : goal.returns-in-Err-clause-err
returns-in-Err-clause-err c = rw c.refusal_of.ensures (unsound_by c.args.feed.now c.args.saved.now c.number_of-number.result c.number_of-number.ensures c.in-Err.fault c.in-Err.ensures.refused)

pub invariant_of-result : goal.invariant_of-result
invariant_of-result c =
    stands-behind (arc_value c.in_ok-plan.plan) (map arc_value c.in-Ok.list.items) _ c.number_of-number.result c.in_ok-marks.marks _ _ c.in-Ok.ensures.groups.are
    (is_stream c.args.feed.now c.args.saved.now c.number_of-number.result (map arc_value c.in-Ok.list.items) (arc_value c.in_ok-plan.plan) c.in_ok-marks.marks (c.in_ok-plan.ensures.cases ∙ c.plan.ensures.value) (c.in_ok-marks.ensures ∙ c.marks.ensures)
    c.in-Ok.ensures.groups c.number_of-number.ensures c.plan.ensures.whole c.requires.sound c.new.result (c.new.ensures.kept (map arc_value c.in-Ok.list.items)))
    _ c.cursor_behind-cursor.ensures

pub returns-clause-ok : goal.returns-clause-ok
returns-clause-ok c =
    subst (λ (s : Standing). IsResumedAt c.args.feed.now c.args.saved.now (record { plan = arc_value c.in_ok-plan.plan; list = map arc_value c.in-Ok.list.items; applied = s.applied; marks = c.in_ok-marks.marks; snapshot = s.snapshot })) (sym c.cursor_behind-cursor.ensures)
    (is_resumed c.args.feed.now c.args.saved.now c.number_of-number.result (map arc_value c.in-Ok.list.items) (arc_value c.in_ok-plan.plan) c.in_ok-marks.marks (c.in_ok-plan.ensures.cases ∙ c.plan.ensures.value) (c.in_ok-marks.ensures ∙ c.marks.ensures)
    c.in-Ok.ensures.groups c.number_of-number.ensures)
