use Rattle.std.proofs.Common.{◌∙◌, map, take, ap, sym, subst, arith}
use Rattle.std.proofs.lemmas.Result.{err_from_is_err_and}
use Rattle.std.specs.Arc.{arc_value}
use Rattle.stream_core.specs.Standing.{Standing}
use Rattle.source_feed.specs.SoundGroups.{sound_groups}
use Rattle.board_laws.specs.Extended.{marks_of_more}
use Rattle.apply_core.specs.Private.Adding.{IsExtendedBy}
use Rattle.apply_core.proofs.AddLaws.{wanted_behind, made_extended, made_stream}
use Rattle.apply_core.proofs.StreamLaws.{stands-behind}
use Rattle.apply_core.proofs.added_streams.extended_stream.Goals as goal

pub marks_with-requires : goal.marks_with-requires
marks_with-requires c = omega (arith, c.is_sound.ensures.tables, c.requires.more, c.tables_under.ensures)

pub invariant_of-result : goal.invariant_of-result
invariant_of-result c =
    stands-behind (arc_value c.in_ok-plan.plan) (map arc_value c.in_ok-list.list.items) _ c.applied_of.result c.in_ok-marks.marks _ _ (c.in_ok-list.ensures.ok.are ∙ sym (ap (λ n. take n (sound_groups c.args.feed.now)) c.applied_of.ensures))
    (made_stream c.args.feed.now c.args.stream.now (map arc_value c.in_ok-list.list.items) (arc_value c.in_ok-plan.plan) c.applied_of.result c.in_ok-marks.marks c.in_ok-list.ensures.ok (c.in_ok-plan.ensures.cases ∙ c.plan.ensures.value)
    c.applied_of.ensures (c.in_ok-marks.ensures ∙ ap (λ n. marks_of_more n c.args.stream.now.marks) c.tables_under.ensures) c.extended_streams_are_sound.ensures.sound c.is_sound.ensures c.plan.ensures.whole c.requires c.new.result
    (c.new.ensures.kept (map arc_value c.in_ok-list.list.items)))
    _ c.cursor_behind-cursor.ensures

pub returns-clause-ok : goal.returns-clause-ok
returns-clause-ok c =
    subst (λ (s : Standing). IsExtendedBy c.args.feed.now c.args.stream.now (record { plan = arc_value c.in_ok-plan.plan; list = map arc_value c.in_ok-list.list.items; applied = s.applied; marks = c.in_ok-marks.marks; snapshot = s.snapshot })) (sym c.cursor_behind-cursor.ensures)
    (made_extended c.args.feed.now c.args.stream.now (map arc_value c.in_ok-list.list.items) (arc_value c.in_ok-plan.plan) c.applied_of.result c.in_ok-marks.marks c.in_ok-list.ensures.ok (c.in_ok-plan.ensures.cases ∙ c.plan.ensures.value)
    c.applied_of.ensures (c.in_ok-marks.ensures ∙ ap (λ n. marks_of_more n c.args.stream.now.marks) c.tables_under.ensures))

pub returns-in_err-plan-clause-err : goal.returns-in_err-plan-clause-err
returns-in_err-plan-clause-err c =
    let p = err_from_is_err_and c.from_residual-in_err-plan.result c.from_residual-in_err-plan.ensures.1 in
    rw (p.1, p.2) (wanted_behind c.args.feed.now c.args.stream.now c.in_ok-list.ensures.ok.go_on)

pub returns-in_err-marks-clause-err : goal.returns-in_err-marks-clause-err
returns-in_err-marks-clause-err c =
    let p = err_from_is_err_and c.from_residual-in_err-marks.result c.from_residual-in_err-marks.ensures.1 in
    rw (p.1, p.2) (wanted_behind c.args.feed.now c.args.stream.now c.in_ok-list.ensures.ok.go_on)
