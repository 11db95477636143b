use Rattle.std.proofs.Common.{◌<◌, ◌∙◌, ap, arith}
use Rattle.dump.specs.Private.Reading.{digit_of}
use Rattle.dump.proofs.DigitValues.{some_digit, no_digit}
use Rattle.dump.proofs.row_cells.digit_value.Goals as goal

pub returns-then-value-gt15-clause-value : goal.returns-then-value-gt15-clause-value
returns-then-value-gt15-clause-value c =
    let fits : c.from.result < 256 = omega (arith, c.ranges.character.fits, c.from.ensures) in
    no_digit c.from.result fits (omega (arith, c.if-value-gt15.true)) ∙ ap digit_of c.from.ensures

pub returns-clause-value : goal.returns-clause-value
returns-clause-value c =
    let fits : c.from.result < 256 = omega (arith, c.ranges.character.fits, c.from.ensures) in
    some_digit c.from.result fits (omega (arith, c.if-value-gt15.false)) ∙ ap digit_of c.from.ensures
