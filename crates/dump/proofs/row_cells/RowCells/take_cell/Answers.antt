use Rattle.std.proofs.Common.{subst, arith}
use Rattle.dump.specs.Private.Reading.{TakesCell}
use Rattle.dump.specs.Private.Spans.{columns_at}
use Rattle.dump.specs.DumpRowsValue.{RowValue}
use Rattle.dump.proofs.SpanLaws.{value_taken}
use Rattle.dump.proofs.row_cells.RowCells.take_cell.Goals as goal

pub returns-in_ok-push-in-120-clause-taken : goal.returns-in_ok-push-in-120-clause-taken
returns-in_ok-push-in-120-clause-taken c =
    let new : RowValue = columns_at c.push_bytes.new.bytes.items c.push-in-120.new.self.items in
    subst (λ (row : RowValue). TakesCell row new c.args.text.now c.in_ok-behind-in-120.behind.now) c.self.view_is
    (value_taken _ _ _ _ _ _ _ _ _ _ c.in-Some.ensures.cases.0 c.in-120.is c.in_ok-behind-in-120.ensures.pushed (omega (arith, c.len-start.ensures, c.self.inside.values.ok.0)) (omega (arith, c.len-end.ensures, c.push_bytes.new.bytes.ok.0)) c.in_ok-push-in-120.ensures.items c.self.invariant)
