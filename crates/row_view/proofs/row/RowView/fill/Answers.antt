use Rattle.std.proofs.Common.{arith}
use Rattle.row_view.proofs.RowLaws.{row_of_message-too_long, row_of_message-broken}
use Rattle.row_view.proofs.FilledLaws.{too_many, past_values, filled, still_kept}
use Rattle.row_view.proofs.row.RowView.fill.Goals as goal

pub returns-then-bytes-gt-ROW_BYTES : goal.returns-then-bytes-gt-ROW_BYTES
returns-then-bytes-gt-ROW_BYTES c = row_of_message-too_long c.args.bytes.now (omega (arith, c.if-bytes-gt-ROW_BYTES.true))

pub invariant_of-self : goal.invariant_of-self
invariant_of-self c = still_kept _ _ _ _ c.found_in.new.marks _ c.self.invariant c.self.view_is c.requires

pub returns-in-Err : goal.returns-in-Err
returns-in-Err c = row_of_message-broken c.args.bytes.now c.in-Err.fault (omega (arith, c.if-bytes-gt-ROW_BYTES.false)) c.in-Err.ensures

pub invariant_of-self-then-found-from : goal.invariant_of-self-then-found-from
invariant_of-self-then-found-from c = still_kept _ _ _ _ c.found_in.new.marks _ c.self.invariant c.self.view_is c.requires

pub returns-then-found-from : goal.returns-then-found-from
returns-then-found-from c = too_many c.args.bytes.now c.in-Ok.found.values.now c.in-Ok.found.count c.found_in.new.marks (omega (arith, c.if-bytes-gt-ROW_BYTES.false)) c.in-Ok.ensures (omega (arith, c.if-found-from.true, c.from.ensures))

pub invariant_of-self-then-found : goal.invariant_of-self-then-found
invariant_of-self-then-found c = still_kept _ _ _ _ c.found_in.new.marks _ c.self.invariant c.self.view_is c.requires

pub returns-then-found : goal.returns-then-found
returns-then-found c = past_values c.args.bytes.now c.in-Ok.found.values.now c.in-Ok.found.count c.found_in.new.marks (omega (arith, c.if-bytes-gt-ROW_BYTES.false)) c.in-Ok.ensures (omega (arith, c.if-found-from.false, c.from.ensures)) (omega (arith, c.if-found.true))

pub invariant_of-self-2 : goal.invariant_of-self-2
invariant_of-self-2 c = filled c.args.bytes.now c.in-Ok.found.values.now c.in-Ok.found.count c.found_in.new.marks (omega (arith, c.if-bytes-gt-ROW_BYTES.false)) c.in-Ok.ensures (omega (arith, c.if-found-from.false, c.from.ensures)) (omega (arith, c.if-found.false))

pub returns : goal.returns
returns c = (filled c.args.bytes.now c.in-Ok.found.values.now c.in-Ok.found.count c.found_in.new.marks (omega (arith, c.if-bytes-gt-ROW_BYTES.false)) c.in-Ok.ensures (omega (arith, c.if-found-from.false, c.from.ensures)) (omega (arith, c.if-found.false))).good
