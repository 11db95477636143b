use Rattle.std.proofs.Common.{◌≡◌, ◌*◌, ◌+◌, ◌^◌, ◌≤◌, slice_index, ap, ◌∙◌, arith}
use Rattle.log_values.proofs.BigLaws.{small, no_bytes, one_more}
use Rattle.log_values.proofs.big.big_at.Goals as goal

pub loop-i-init : goal.loop-i-init
loop-i-init c = no_bytes c.args.place c.args.bytes.now

pub overflow_mul-number : goal.overflow_mul-number
overflow_mul-number c =
    let fits : c.loop-i.number * 256 + 256 ≤ 2 ^ 48 = small c.loop-i.i c.loop-i.number c.loop-i.invariant.below (omega arith) in
    omega arith

pub overflow_add-number : goal.overflow_add-number
overflow_add-number c =
    let fits : c.loop-i.number * 256 + 256 ≤ 2 ^ 48 = small c.loop-i.i c.loop-i.number c.loop-i.invariant.below (omega arith) in
    omega arith

pub loop-i-preserved : goal.loop-i-preserved
loop-i-preserved c =
    let place : c.from.result + c.from-in-loop-i.result ≡ c.args.place + c.loop-i.i = omega arith in
    let is : c.byte_at.result ≡ slice_index c.args.bytes.now (c.args.place + c.loop-i.i) = c.byte_at.ensures.value ∙ ap (slice_index c.args.bytes.now) place in
    one_more c.args.place c.loop-i.i c.args.bytes.now c.loop-i.number c.byte_at.result c.loop-i.invariant is c.byte_at.ensures.below
