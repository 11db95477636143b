use Rattle.std.proofs.Common.{◌∙◌, sym, subst}
use Rattle.std.proofs.lemmas.Bool.{false≢true}
use Rattle.compaction.specs.Private.Sized.{HasSizes}
use Rattle.compaction.proofs.SizedLaws.{has_sizes, unfitting}
use Rattle.compaction.proofs.sized_row.SizedRow.of.Goals as goal

pub invariant_of-result : goal.invariant_of-result
invariant_of-result c =
    let sizes = c.in_ok-sizes.sizes in
    subst (λ row. HasSizes row sizes.lengths sizes.values) (sym c.copy.ensures)
    (has_sizes c.args.row.now sizes.columns sizes.lengths sizes.values c.in_ok-sizes.ensures.columns c.in_ok-sizes.ensures.lengths c.in_ok-sizes.ensures.values (c.is_within.ensures.0 c.if-is_within.true))

pub returns-then-is_within-clause-within : goal.returns-then-is_within-clause-within
returns-then-is_within-clause-within c =
    let sizes = c.in_ok-sizes.sizes in
    (has_sizes c.args.row.now sizes.columns sizes.lengths sizes.values c.in_ok-sizes.ensures.columns c.in_ok-sizes.ensures.lengths c.in_ok-sizes.ensures.values (c.is_within.ensures.0 c.if-is_within.true)).within

pub returns-else-is_within-clause-long : goal.returns-else-is_within-clause-long
returns-else-is_within-clause-long c =
    let sizes = c.in_ok-sizes.sizes in
    unfitting c.args.row.now sizes.columns sizes.lengths sizes.values c.in_ok-sizes.ensures.columns c.in_ok-sizes.ensures.lengths c.in_ok-sizes.ensures.values
    (λ within. false≢true (sym c.if-is_within.false ∙ c.is_within.ensures.1 within))
