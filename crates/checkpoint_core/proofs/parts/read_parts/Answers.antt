use Rattle.std.proofs.Common.{◌≡◌, ◌++◌, List, ℕ}
use Rattle.std.proofs.lemmas.Result.{err_from_is_err_and}
use Rattle.vevent.specs.CheckpointPart.{StreamPartValue}
use Rattle.checkpoint_laws.specs.declared.version.Version.{Version}
use Rattle.checkpoint_laws.specs.Written.{opening}
use Rattle.checkpoint_core.specs.Private.Reading.{AreFramed, AreSoManyParts}
use Rattle.checkpoint_core.proofs.Items.{nothing_by}
use Rattle.checkpoint_core.proofs.ReadLaws.{parts_there, parts_framed}
use Rattle.checkpoint_core.proofs.parts.read_parts.Goals as goal

pub returns-in_err-opened-clause-err : goal.returns-in_err-opened-clause-err
returns-in_err-opened-clause-err c =
    let p = err_from_is_err_and c.from_residual.result c.from_residual.ensures.1 in
    rw (p.1, p.2) (nothing_by (λ (found : Version × List ℕ). c.args.bytes.now ≡ opening found.0 ++ found.1) (λ (found : Version × List StreamPartValue). AreSoManyParts found.0 c.args.bytes.now c.args.count found.1)
    (λ none parts h. none (parts.0, h.are.rest) h.are.opened) c.in_err-opened.field-0.0 c.in_err-opened.ensures.err)

pub returns-in_err-streams-clause-err : goal.returns-in_err-streams-clause-err
returns-in_err-streams-clause-err c =
    let p = err_from_is_err_and c.from_residual-in_err-streams.result c.from_residual-in_err-streams.ensures.1 in
    rw (p.1, p.2) (nothing_by (AreFramed c.in_ok-opened.opened.rest.now c.args.count) (λ (found : Version × List StreamPartValue). AreSoManyParts found.0 c.args.bytes.now c.args.count found.1)
    (λ none parts h. none parts.1 (parts_framed c.in_ok-opened.opened.version parts.0 c.args.bytes.now c.in_ok-opened.opened.rest.now c.args.count parts.1 c.in_ok-opened.ensures.ok h))
    c.in_err-streams.field-0.0 c.in_err-streams.ensures.err)

pub returns-clause-ok : goal.returns-clause-ok
returns-clause-ok c =
    parts_there c.in_ok-opened.opened.version c.args.bytes.now c.in_ok-opened.opened.rest.now c.args.count c.in_ok-streams.streams.items c.in_ok-opened.ensures.ok c.in_ok-streams.ensures.ok
