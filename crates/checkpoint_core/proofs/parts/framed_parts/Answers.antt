use Rattle.std.proofs.lemmas.Result.{err_from_is_err_and}
use Rattle.checkpoint_core.specs.Private.Reading.{IsPartOf, AreFramed}
use Rattle.checkpoint_core.proofs.Items.{nothing_by}
use Rattle.checkpoint_core.proofs.ReadLaws.{no_part_yet, no_broken_frame, no_broken_part}
use Rattle.checkpoint_core.proofs.parts.framed_parts.Goals as goal

pub loop-parts-init : goal.loop-parts-init
loop-parts-init c = no_part_yet c.args.rest.now c.new-frames.result c.new-parts.result.items c.new-frames.ensures.reading c.new-parts.ensures.items

pub returns-in-Err-clause-err : goal.returns-in-Err-clause-err
returns-in-Err-clause-err c = λ others h.
    no_broken_frame c.args.rest.now c.args.count c.loop-parts.frames c.loop-parts.parts.items c.loop-parts.invariant others h c.in-Err.field-0 c.in-Err.ensures.1

pub returns-in_err-part_of-in-Ok-Some-clause-err : goal.returns-in_err-part_of-in-Ok-Some-clause-err
returns-in_err-part_of-in-Ok-Some-clause-err c =
    let p = err_from_is_err_and c.from_residual.result c.from_residual.ensures.1 in
    let next = rw c.in-Ok-Some.field-0-is at c.in-Ok-Some.ensures in
    rw (p.1, p.2) (nothing_by (IsPartOf c.in-Ok-Some.message.now) (AreFramed c.args.rest.now c.args.count)
    (λ none others h. no_broken_part c.args.rest.now c.args.count c.loop-parts.frames c.loop-parts.parts.items c.loop-parts.invariant others h c.in-Ok-Some.message.now c.next_frame.new.self.items next.0 none)
    c.in_err-part_of-in-Ok-Some.field-0.0 c.in_err-part_of-in-Ok-Some.ensures.err)
