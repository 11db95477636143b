use Rattle.std.proofs.Common.{◌∙◌, ℕ, List, length, map, sym, subst}
use Rattle.std.proofs.lemmas.Bool.{true≢false}
use Rattle.std.proofs.lemmas.List.{length-map}
use Rattle.std.proofs.lemmas.Result.{err_from_is_err_and}
use Rattle.std.specs.Arc.{arc_value}
use Rattle.vevent.specs.CheckpointPart.{StreamPartValue}
use Rattle.checkpoint_laws.specs.declared.version.Version.{Version}
use Rattle.checkpoint_laws.specs.Said.{HaveAsMany, IsCheckpoint}
use Rattle.checkpoint_core.specs.Private.Reading.{AreSoManyParts, SayStreams}
use Rattle.checkpoint_core.proofs.Items.{nothing_by}
use Rattle.checkpoint_core.proofs.ReadLaws.{checkpoint_said, streams_of_checkpoint, many_of_checkpoint}
use Rattle.checkpoint_core.proofs.reading.read_checkpoint.Goals as goal

pub returns-in_err-parts-clause-refused : goal.returns-in_err-parts-clause-refused
returns-in_err-parts-clause-refused c =
    let p = err_from_is_err_and c.from_residual.result c.from_residual.ensures.1 in
    rw (p.1, p.2) (nothing_by (λ (found : Version × List StreamPartValue). AreSoManyParts found.0 c.args.bytes.now (length c.args.plans.now) found.1) (IsCheckpoint (map arc_value c.args.plans.now) c.args.bytes.now)
    (λ none saved h. none (h.version, h.parts) (record { are = h.are; long = h.count ∙ length-map c.args.plans.now arc_value }))
    c.in_err-parts.field-0.0 c.in_err-parts.ensures.err)

pub returns-then-not-have_as_many-clause-refused : goal.returns-then-not-have_as_many-clause-refused
returns-then-not-have_as_many-clause-refused c = λ saved h.
    true≢false
    (sym (c.have_as_many.ensures.1 (subst (HaveAsMany c.in_ok-parts.parts.version) (sym c.deref.ensures.value)
    (many_of_checkpoint c.in_ok-parts.parts.version (map arc_value c.args.plans.now) c.args.bytes.now c.in_ok-parts.parts.streams.items saved c.in_ok-parts.ensures.ok.are h)))
    ∙ c.if-not-have_as_many.true)

pub returns-in_err-saved-clause-refused : goal.returns-in_err-saved-clause-refused
returns-in_err-saved-clause-refused c =
    let p = err_from_is_err_and c.from_residual-in_err-saved.result c.from_residual-in_err-saved.ensures.1 in
    rw (p.1, p.2) (nothing_by (SayStreams c.in_ok-parts.parts.version (map arc_value c.args.plans.now) c.in_ok-parts.parts.streams.items) (IsCheckpoint (map arc_value c.args.plans.now) c.args.bytes.now)
    (λ none saved h. none saved (streams_of_checkpoint c.in_ok-parts.parts.version (map arc_value c.args.plans.now) c.args.bytes.now c.in_ok-parts.parts.streams.items saved c.in_ok-parts.ensures.ok.are h))
    c.in_err-saved.field-0.0 (rw c.deref-2.ensures.value at c.in_err-saved.ensures.err))

pub returns-clause-said : goal.returns-clause-said
returns-clause-said c =
    checkpoint_said c.in_ok-parts.parts.version (map arc_value c.args.plans.now) c.args.bytes.now c.in_ok-parts.parts.streams.items c.in_ok-saved.saved.items
    (subst (λ (n : ℕ). AreSoManyParts c.in_ok-parts.parts.version c.args.bytes.now n c.in_ok-parts.parts.streams.items) (sym (length-map c.args.plans.now arc_value)) c.in_ok-parts.ensures.ok)
    (subst (HaveAsMany c.in_ok-parts.parts.version) c.deref.ensures.value (c.have_as_many.ensures.0 c.if-not-have_as_many.false))
    (rw c.deref-2.ensures.value at c.in_ok-saved.ensures.ok)
