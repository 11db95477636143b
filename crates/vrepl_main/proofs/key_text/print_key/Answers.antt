use Rattle.std.proofs.Common.{◌∙◌, ap, sym, subst}
use Rattle.std.proofs.lemmas.Result.{err_from_is_err_and}
use Rattle.dump.proofs.KeyTextLaws.{parts_split}
use Rattle.pk_copy.specs.KeyValue.{KeyValue}
use Rattle.dump.specs.KeyText.{parts_text}
use Rattle.vrepl_main.specs.Adding.{IsBegun, AddsText}
use Rattle.vrepl_main.proofs.AddLaws.{first_stops, then_prints}
use Rattle.vrepl_main.proofs.key_text.print_key.Goals as goal

pub returns-in_err-print_part-in-len1-up : goal.returns-in_err-print_part-in-len1-up
returns-in_err-print_part-in-len1-up g c =
    let p = err_from_is_err_and c.from_residual.result c.from_residual.ensures.1 in
    let is = ap (λ (key : KeyValue). parts_text key.parts) (sym c.view-view.ensures) ∙ ap parts_text (sym c.parts.ensures.parts) ∙ parts_split c.parts.result.now _ c.in-len1-up.len_at_least in
    rw p.1 (subst (IsBegun _ _) (sym is) (first_stops _ _ _ _ c.in_err-print_part-in-len1-up.ensures))

pub returns-in_ok-print_part-in-len1-up : goal.returns-in_ok-print_part-in-len1-up
returns-in_ok-print_part-in-len1-up g c =
    let is = ap (λ (key : KeyValue). parts_text key.parts) (sym c.view-view.ensures) ∙ ap parts_text (sym c.parts.ensures.parts) ∙ parts_split c.parts.result.now _ c.in-len1-up.len_at_least in
    subst (AddsText c.print_more_parts.result _ _) (sym is) (then_prints c.print_more_parts.result _ _ _ _ _ c.in_ok-print_part-in-len1-up.ensures c.print_more_parts.ensures)
