use Rattle.std.proofs.Common.{◌-◌}
use Rattle.dump.specs.Private.Reading.{TakesSoFar}
use Rattle.dump.proofs.row_cells.RowCells.take_cells.Given as goal

abbrev pub invariant-loop : goal.invariant-loop
invariant-loop l = TakesSoFar l.fn.count (l.fn.count - l.counter) l.fn.self l.self l.fn.text l.rest
