use Rattle.std.proofs.Common.{◌^◌, ◌<◌, length, sym, ◌∙◌, arith}
use Rattle.std.proofs.lemmas.Bool.Decides.{nat_tests}
use Rattle.vindex.proofs.NumberLemmas.{decimal_below-refused, value-more, all-more, decimal_below-done}
use Rattle.vindex.proofs.numbers.natural_of.Goals as goal

pub returns-in_err-magnitude : goal.returns-in_err-magnitude
returns-in_err-magnitude c =
    c.from_residual.ensures
    ∙ sym (decimal_below-refused (2 ^ 64) c.args.digits.now c.loop-digit.digit-index c.loop-digit.magnitude (omega arith) c.loop-digit.invariant.1 c.in_err-magnitude.ensures)

pub loop-digit-preserved : goal.loop-digit-preserved
loop-digit-preserved c =
    let more = c.in_ok-magnitude.ensures in (
      all-more c.args.digits.now c.loop-digit.digit-index (omega arith) more.0.0 c.loop-digit.invariant.0,
      more.1 ∙ sym (value-more c.args.digits.now c.loop-digit.digit-index c.loop-digit.magnitude (omega arith) more.0.0 c.loop-digit.invariant.1),
      omega arith,
    )

pub returns : goal.returns
returns c =
    let some : 0 < length c.args.digits.now = grind (arith, nat_tests) in
    sym (decimal_below-done (2 ^ 64) c.args.digits.now c.loop-digit.digit-index c.loop-digit.magnitude some c.loop-digit-test.false c.loop-digit.invariant.0 c.loop-digit.invariant.1 c.loop-digit.invariant.2)
