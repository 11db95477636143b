use Rattle.std.proofs.Common.{sym, ◌∙◌}
use Rattle.log_rows.proofs.RowLaws.{are_all-none, are_all-more, are_all-not}
use Rattle.log_rows.proofs.head.are_all.Goals as goal

pub loop-place-init : goal.loop-place-init
loop-place-init c = are_all-none c.args.bits.now

pub loop-place-preserved : goal.loop-place-preserved
loop-place-preserved c = are_all-more c.loop-place.place c.args.bits.now (sym c.bit_of.ensures ∙ c.if-not-bit_of.false) c.loop-place.invariant

pub returns-then-not-bit_of : goal.returns-then-not-bit_of
returns-then-not-bit_of c = sym (are_all-not c.args.count c.loop-place.place c.args.bits.now c.loop-place-test.true (sym c.bit_of.ensures ∙ c.if-not-bit_of.true))
