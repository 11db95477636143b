use Rattle.std.proofs.Common.{◌≡◌, ◌*◌, ◌+◌, ◌^◌, ◌≤◌, ap, ◌∙◌, arith}
use Rattle.log_values.specs.Decimal.{plain_byte}
use Rattle.log_values.proofs.BigLaws.{small, no_plain, one_more_plain}
use Rattle.log_values.proofs.decimal.group_number.Goals as goal

pub loop-i-init : goal.loop-i-init
loop-i-init c = no_plain c.args.bytes.now c.args.place

pub overflow_mul-number : goal.overflow_mul-number
overflow_mul-number c =
    let fits : c.loop-i.number * 256 + 256 ≤ 2 ^ 48 = small c.loop-i.i c.loop-i.number c.loop-i.invariant.below (omega arith) in
    omega arith

pub overflow_add-number : goal.overflow_add-number
overflow_add-number c =
    let fits : c.loop-i.number * 256 + 256 ≤ 2 ^ 48 = small c.loop-i.i c.loop-i.number c.loop-i.invariant.below (omega arith) in
    omega arith

pub loop-i-preserved : goal.loop-i-preserved
loop-i-preserved c =
    let place : c.from.result + c.from-in-loop-i.result ≡ c.args.place + c.loop-i.i = omega arith in
    let is : c.plain_byte.result ≡ plain_byte c.args.bytes.now (c.args.place + c.loop-i.i) = c.plain_byte.ensures.value ∙ ap (plain_byte c.args.bytes.now) place in
    one_more_plain c.args.bytes.now c.args.place c.loop-i.i c.loop-i.number c.plain_byte.result c.loop-i.invariant is c.plain_byte.ensures.below
