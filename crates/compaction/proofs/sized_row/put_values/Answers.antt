use Rattle.std.proofs.Common.{◌≡◌, ◌∙◌, ◌++◌, sym, ap, subst}
use Rattle.row_view.specs.WrittenRow.{written_values}
use Rattle.json_pieces.specs.Telling.{IsToldUpTo, at}
use Rattle.json_pieces.proofs.TellLaws.{starts, moves, ends}
use Rattle.compaction.proofs.sized_row.put_values.Goals as goal

pub loop-column-init : goal.loop-column-init
loop-column-init g c =
    let here = at (g.O.Out.written c.args.out.now) c.args.line.now in
    let made = c.into_iter-column-iterator.ensures in
    let columns = c.columns-column-items.ensures in
    let all : c.args.row.now ≡ c.into_iter-column-iterator.result = cc in
    subst (λ left. IsToldUpTo here here (written_values c.args.row.now) (written_values left)) all (starts here (written_values c.args.row.now))

pub loop-column-preserved : goal.loop-column-preserved
loop-column-preserved g c =
    moves _ _ _ _ _ c.value_of.result.now (written_values c.next.new.self) (ap written_values c.in-Some.ensures.steps ∙ ap (λ value. value ++ written_values c.next.new.self) (sym c.value_of.ensures)) c.loop-column.invariant c.put.ensures

pub returns : goal.returns
returns g c = ends _ _ _ _ (ap written_values c.in-None.ensures.steps.0) c.loop-column.invariant
