use Rattle.std.proofs.Common.{◌∙◌, ap, sym}
use Rattle.std.specs.Prelude.{pos}
use Rattle.std.proofs.lemmas.Result.{err_from_is_err_and}
use Rattle.dump.proofs.KeyTextLaws.{parts_split}
use Rattle.pk_copy.specs.KeyValue.{KeyValue}
use Rattle.pk_copy.specs.declared.part.KeyPart.TheVariants.{Number}
use Rattle.printing.proofs.PrintLaws.{adding_breaks, then_adds}
use Rattle.dump.specs.KeyText.{parts_text}
use Rattle.vdiff.proofs.TextLaws.{adds_as, breaks_as}
use Rattle.vdiff.proofs.keys.add_key.Goals as goal

pub returns-in_err-add_part-in-len1-up : goal.returns-in_err-add_part-in-len1-up
returns-in_err-add_part-in-len1-up g c =
    let p = err_from_is_err_and c.from_residual.result c.from_residual.ensures.1 in
    let is = ap (λ (key : KeyValue). parts_text key.parts) (sym c.view-view.ensures) ∙ ap parts_text (sym c.parts.ensures.parts) ∙ parts_split c.parts.result.now (Number (pos 0)) c.in-len1-up.len_at_least in
    rw p.1 (breaks_as _ _ _ _ _ (sym is) (adding_breaks _ _ c.args.text.now _ _ c.in_err-add_part-in-len1-up.ensures))

pub returns-in_ok-add_part-in-len1-up : goal.returns-in_ok-add_part-in-len1-up
returns-in_ok-add_part-in-len1-up g c =
    let is = ap (λ (key : KeyValue). parts_text key.parts) (sym c.view-view.ensures) ∙ ap parts_text (sym c.parts.ensures.parts) ∙ parts_split c.parts.result.now (Number (pos 0)) c.in-len1-up.len_at_least in
    adds_as c.add_more_parts.result _ _ _ _ _ _ (sym is) (then_adds c.add_more_parts.result _ _ _ _ _ _ _ _ c.in_ok-add_part-in-len1-up.ensures c.add_more_parts.ensures)
