use Rattle.std.proofs.Common.{sym, ◌∙◌, arith}
use Rattle.std.proofs.lemmas.Bool.{eqb-true}
use Rattle.row_view.proofs.SpelledLaws.{few_values, more_values}
use Rattle.row_view.proofs.spelled.are_values.Goals as goal

pub returns-else-from-size : goal.returns-else-from-size
returns-else-from-size c long =
    few_values c.args.field.now c.args.size c.in-len2-up.len_at_least c.if-tag-ne-VALUES_TAG.false (sym c.from.ensures ∙ c.if-from-size.false) (eqb-true _ _ long) c.if-size-eq0.false c.if-size-lt128.true

pub returns-else-from-size-3 : goal.returns-else-from-size-3
returns-else-from-size-3 c long =
    more_values c.args.field.now c.args.size c.in-len3-up.len_at_least c.if-tag-ne-VALUES_TAG-2.false (sym c.from-in-len3-up.ensures ∙ c.if-from-size-2.false) (sym c.from-else-from-size-2.ensures ∙ c.if-from-size-3.false) (eqb-true _ _ long) (omega (arith, c.if-size-lt128-2.false)) c.requires
