use Rattle.std.proofs.Common.{Ok}
use Rattle.stream_core.specs.declared.step.Step.TheVariants.{Offer, Advance, OpenAt, CopyRows, Close, Restart}
use Rattle.stream_core.specs.StepTable.{row_of}
use Rattle.stream_core.proofs.RowLaws.{in_order}
use Rattle.stream_core.proofs.table.decide.Goals as goal

pub returns-in-Offer-clause-in_order : goal.returns-in-Offer-clause-in_order
returns-in-Offer-clause-in_order c = rw c.in-Offer.is (in_order (row_of c.args.cursor.now (Offer c.in-Offer.number)) c.offer.result c.offer.ensures)

pub returns-in-Advance-clause-in_order : goal.returns-in-Advance-clause-in_order
returns-in-Advance-clause-in_order c = rw c.in-Advance.is (in_order (row_of c.args.cursor.now Advance) c.advance.result c.advance.ensures)

pub returns-in-OpenAt-clause-in_order : goal.returns-in-OpenAt-clause-in_order
returns-in-OpenAt-clause-in_order c = rw c.in-OpenAt.is (in_order (row_of c.args.cursor.now (OpenAt c.in-OpenAt.group)) c.open_at.result c.open_at.ensures)

pub returns-in-CopyRows-clause-in_order : goal.returns-in-CopyRows-clause-in_order
returns-in-CopyRows-clause-in_order c = rw c.in-CopyRows.is (in_order (row_of c.args.cursor.now (CopyRows c.in-CopyRows.count)) c.copy_rows.result c.copy_rows.ensures)

pub returns-in-Close-clause-in_order : goal.returns-in-Close-clause-in_order
returns-in-Close-clause-in_order c = rw c.in-Close.is (in_order (row_of c.args.cursor.now Close) c.close.result c.close.ensures)

pub returns-in-Restart-clause-in_order : goal.returns-in-Restart-clause-in_order
returns-in-Restart-clause-in_order c = rw c.in-Restart.is (in_order (row_of c.args.cursor.now Restart) (Ok c.restart.result) c.restart.ensures)
