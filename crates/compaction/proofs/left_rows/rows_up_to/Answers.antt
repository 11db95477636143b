use Rattle.std.proofs.Common.{◌<◌, ◌∙◌, Err, length, sym, ap, arith}
use Rattle.std.proofs.lemmas.Result.{err_from_is_err_and}
use Rattle.std.specs.Arc.{arc_value}
use Rattle.source_feed.specs.FaultNumber.{meant_of}
use Rattle.source_feed.proofs.SoundGroupLaws.{first_stops, if_meant}
use Rattle.compaction.proofs.LeftLaws.{one_more, first_of_left, some_sound, some_sound-ok, one_error}
use Rattle.compaction.proofs.left_rows.rows_up_to.Goals as goal

pub loop-done-preserved : goal.loop-done-preserved
loop-done-preserved g c =
    let inside : c.loop-done.done < length c.args.feed.now.groups = omega (arith, c.loop-done-test.true, c.requires) in
    one_more c.args.feed.now c.loop-done.done (arc_value c.in_ok-group.group) c.deref.result.now c.loop-done.rows c.advance.new.self inside c.in_ok-group.ensures.exact c.deref.ensures c.in_ok-advance.ensures.left c.loop-done.invariant

pub returns-in_err-group-clause-refused : goal.returns-in_err-group-clause-refused
returns-in_err-group-clause-refused g c =
    let p = err_from_is_err_and c.from_residual.result c.from_residual.ensures.1 in
    let inside : c.loop-done.done < length c.args.feed.now.groups = omega (arith, c.loop-done-test.true, c.requires) in
    rw (p.1, p.2) (if_meant (meant_of c.in_err-group.field-0.0) (λ fault e. first_stops c.args.feed.now c.loop-done.done c.args.number _ fault inside c.loop-done-test.true e (first_of_left c.args.feed.now c.loop-done.done c.loop-done.rows c.loop-done.invariant)) c.in_err-group.ensures.exact)

pub returns-in_err-group-clause-memory : goal.returns-in_err-group-clause-memory
returns-in_err-group-clause-memory g c e =
    let p = err_from_is_err_and c.from_residual.result c.from_residual.ensures.1 in
    let inside : c.loop-done.done < length c.args.feed.now.groups = omega (arith, c.loop-done-test.true, c.requires) in
    some_sound-ok c.args.feed.now c.loop-done.done inside c.loop-done.invariant.sound (c.in_err-group.ensures.memory (ap Err (sym p.2 ∙ one_error c.from_residual.result _ _ p.1 e)))

pub returns-in_err-advance-clause-memory : goal.returns-in_err-advance-clause-memory
returns-in_err-advance-clause-memory g c e =
    let inside : c.loop-done.done < length c.args.feed.now.groups = omega (arith, c.loop-done-test.true, c.requires) in
    some_sound c.args.feed.now c.loop-done.done (arc_value c.in_ok-group.group) inside c.loop-done.invariant.sound c.in_ok-group.ensures.exact
