use Rattle.std.proofs.Common.{◌∙◌, arith, length, sym, ap}
use Rattle.row_view.specs.WrittenRow.{written_row}
use Rattle.compaction.proofs.SizedLaws.{row_long}
use Rattle.compaction.proofs.sized_row.SizedRow.size.Goals as goal

pub row_size-requires-clause-lengths : goal.row_size-requires-clause-lengths
row_size-requires-clause-lengths c = c.self.invariant.lengths_short

pub returns-clause-size : goal.returns-clause-size
returns-clause-size c =
    c.row_size.ensures.size ∙ sym (row_long c.self.inside.row c.self.inside.lengths c.self.inside.values c.self.invariant) ∙ ap (λ row. length (written_row row)) c.self.view_is

pub returns-clause-few : goal.returns-clause-few
returns-clause-few c = omega (arith, c.row_size.ensures.size, row_long c.self.inside.row c.self.inside.lengths c.self.inside.values c.self.invariant, c.self.invariant.within.short)
