use Rattle.std.proofs.Common.{arith}
use Rattle.gtid_set.proofs.HexFours.{four-some, four-none}
use Rattle.gtid_set.proofs.digits.hex_four.Goals as goal

pub returns-then-four-lt65536-clause-value : goal.returns-then-four-lt65536-clause-value
returns-then-four-lt65536-clause-value c =
    rw c.from.ensures
    (four-some c.args.first c.args.second c.args.third c.args.fourth c.hex_value.result c.hex_value-2.result c.hex_value-3.result c.hex_value-4.result
    c.hex_value.ensures.value c.hex_value-2.ensures.value c.hex_value-3.ensures.value c.hex_value-4.ensures.value c.if-four-lt65536.true)

pub returns-else-four-lt65536-clause-value : goal.returns-else-four-lt65536-clause-value
returns-else-four-lt65536-clause-value c =
    four-none c.args.first c.args.second c.args.third c.args.fourth c.hex_value.result c.hex_value-2.result c.hex_value-3.result c.hex_value-4.result
    c.hex_value.ensures.value c.hex_value-2.ensures.value c.hex_value-3.ensures.value c.hex_value-4.ensures.value (omega (arith, c.if-four-lt65536.false))
