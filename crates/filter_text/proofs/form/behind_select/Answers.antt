use Rattle.std.proofs.Common.{Some, map, sym, ap, ◌∙◌}
use Rattle.filter_text.specs.Views.{lexeme}
use Rattle.filter_text.proofs.SelectionLaws.{all_long, all_read}
use Rattle.filter_text.proofs.form.behind_select.Goals as goal

pub returns-in_default-tokens_of : goal.returns-in_default-tokens_of
returns-in_default-tokens_of c = all_long c.args.text.now c.in-Some.rest.now c.in-Some.ensures.some c.in_default-tokens_of.ensures.none

pub returns-in-Some : goal.returns-in-Some
returns-in-Some c =
    all_read c.args.text.now c.in-Some.rest.now (map lexeme c.as_slice.result.now) c.table_rows.result c.in-Some.ensures.some (c.in-Some-tokens_of.ensures.some ∙ ap (λ ts. Some (map lexeme ts)) (sym c.as_slice.ensures.value)) c.table_rows.ensures
