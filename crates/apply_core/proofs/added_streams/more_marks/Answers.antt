use Rattle.std.proofs.Common.{◌≡◌, ◌<◌, ◌∙◌, Some, sym, ap, subst, arith}
use Rattle.pk_copy.specs.Marks.{Marks, mark_of, next_table, moved_to}
use Rattle.pk_copy.specs.MarkView.{mark_value}
use Rattle.apply_core.proofs.AddLaws.{waits_at, key_at, not_done_at, past_there, marks_done, marks_upto}
use Rattle.apply_core.proofs.added_streams.more_marks.Goals as goal

pub finish_table-requires : goal.finish_table-requires
finish_table-requires c =
    subst (λ (m : Marks). m.done < m.tables) (sym c.loop-t.invariant) (omega (arith, c.loop-t-test.true, c.done-done.ensures, c.mark-current.ensures.sound.within, c.requires))

pub loop-t-preserved : goal.loop-t-preserved
loop-t-preserved c = c.finish_table.ensures.moved ∙ ap next_table c.loop-t.invariant

pub returns-in-Waiting : goal.returns-in-Waiting
returns-in-Waiting c =
    let at : c.loop-t._t ≡ c.args.marks.now.done = omega (arith, c.loop-t-test.false, c.loop-t.auto._t-end, c.done-done.ensures) in
    marks_done c.args.tables c.loop-t._t c.args.marks.now c.loop-t.more c.loop-t.invariant at
    (waits_at c.args.marks.now (mark_value c.mark-current.result) (c.mark-current.ensures.mark ∙ ap (mark_of c.args.marks.now) c.done-done.ensures) (ap mark_value c.in-Waiting.is))

pub move_to-requires : goal.move_to-requires
move_to-requires c =
    let at : c.loop-t._t ≡ c.args.marks.now.done = omega (arith, c.loop-t-test.false, c.loop-t.auto._t-end, c.done-done.ensures) in
    past_there c.args.tables c.loop-t._t c.args.marks.now c.loop-t.more c.in_ok-key-in-Upto.key c.loop-t.invariant at c.requires c.mark-current.ensures.sound
    (key_at c.args.marks.now (mark_value c.mark-current.result) c.in-Upto.last.now (c.mark-current.ensures.mark ∙ ap (mark_of c.args.marks.now) c.done-done.ensures) (ap mark_value c.in-Upto.is) ∙ ap Some (sym c.in_ok-key-in-Upto.ensures))

pub returns-in_ok-key-in-Upto : goal.returns-in_ok-key-in-Upto
returns-in_ok-key-in-Upto c =
    let at : c.loop-t._t ≡ c.args.marks.now.done = omega (arith, c.loop-t-test.false, c.loop-t.auto._t-end, c.done-done.ensures) in
    marks_upto c.args.tables c.loop-t._t c.args.marks.now c.move_to.new.self c.in_ok-key-in-Upto.key (c.move_to.ensures.moved ∙ ap (moved_to c.in_ok-key-in-Upto.key) c.loop-t.invariant) at
    (key_at c.args.marks.now (mark_value c.mark-current.result) c.in-Upto.last.now (c.mark-current.ensures.mark ∙ ap (mark_of c.args.marks.now) c.done-done.ensures) (ap mark_value c.in-Upto.is) ∙ ap Some (sym c.in_ok-key-in-Upto.ensures))

pub returns-in-Done : goal.returns-in-Done
returns-in-Done c = not_done_at c.args.marks.now (mark_value c.mark-current.result) (c.mark-current.ensures.mark ∙ ap (mark_of c.args.marks.now) c.done-done.ensures) (ap mark_value c.in-Done.is)
