use Rattle.std.proofs.Common.{◌≡◌, ◌<◌, length, Some, slice_get, refl, sym, ap, ◌∙◌, arith}
use Rattle.std.proofs.lemmas.Bool.{false≢true}
use Rattle.std.proofs.lemmas.Option.{slice_get_read, slice_get_within}
use Rattle.std.specs.Option.{option_copied}
use Rattle.vevent.specs.CheckpointPart.{StreamPartValue}
use Rattle.checkpoint_core.proofs.Items.{up_to_more}
use Rattle.checkpoint_core.proofs.names.all_as_many.Goals as goal

pub returns-then-not-has_as_many : goal.returns-then-not-has_as_many
returns-then-not-has_as_many c =
    let at : slice_get c.args.parts.now c.loop-part.part-index ≡ Some c.part-item.result = slice_get_read c.args.parts.now (length c.args.parts.now) c.loop-part.part-index c.part-item.result refl c.loop-part-test.true c.part-item.is in
    let front : slice_get c.args.parts.now 0 ≡ Some c.in-Some.first.now = sym c.first.ensures.value ∙ ap option_copied c.in-Some.is in (
      λ is. absurd (false≢true is),
      λ same. sym c.if-not-has_as_many.true ∙ c.has_as_many.ensures.1 (same c.loop-part.part-index 0 c.part-item.result c.in-Some.first.now at front),
    )

pub loop-part-preserved : goal.loop-part-preserved
loop-part-preserved c =
    let at : slice_get c.args.parts.now c.loop-part.part-index ≡ Some c.part-item.result = slice_get_read c.args.parts.now (length c.args.parts.now) c.loop-part.part-index c.part-item.result refl c.loop-part-test.true c.part-item.is in
    up_to_more (λ i (part : StreamPartValue). length part.tables ≡ length c.in-Some.first.now.tables) c.args.parts.now c.loop-part.part-index c.part-item.result at (c.has_as_many.ensures.0 c.if-not-has_as_many.false) c.loop-part.invariant

pub returns : goal.returns
returns c = (
  λ _ s t one other p q.
      let inside : s < length c.args.parts.now = slice_get_within c.args.parts.now s one p in
      let also : t < length c.args.parts.now = slice_get_within c.args.parts.now t other q in
      c.loop-part.invariant s one (omega (arith, inside, c.loop-part-test.false)) p ∙ sym (c.loop-part.invariant t other (omega (arith, also, c.loop-part-test.false)) q),
  λ _. refl,
)
