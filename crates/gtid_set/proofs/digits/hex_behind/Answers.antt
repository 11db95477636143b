use Rattle.std.proofs.Common.{◌≡◌, ℕ, ◌≤◌, ◌+◌, ◌-◌, ◌*◌, ◌^◌, ◌%◌, ◌∙◌, sym, ap, subst, arith, List, length}
use Rattle.std.proofs.lemmas.List.{take_rest}
use Rattle.gtid_set.specs.Digits.{hex_digit_of, number_behind}
use Rattle.gtid_set.proofs.DigitLaws.{room-value}
use Rattle.gtid_set.proofs.HexFours.{four-next, four-ends, left-length, room-four}
use Rattle.gtid_set.proofs.digits.hex_behind.Goals as goal

pub overflow_mul-number : goal.overflow_mul-number
overflow_mul-number c =
    let l = length c.loop-rest.rest.now in
    let next = room-four c.loop-rest.number 0 l (2 ^ 64) (omega arith) c.in-len4-up.len_at_least (omega (arith, c.requires.room, c.loop-rest.invariant.room)) in
    let fits = room-value (c.loop-rest.number * 65536 + 0) (l - 4) (2 ^ 64) next in
    omega arith

pub overflow_add-number : goal.overflow_add-number
overflow_add-number c =
    let l = length c.loop-rest.rest.now in
    let n = c.in_ok-number.field-0 in
    let next = room-four c.loop-rest.number n l (2 ^ 64) c.in_ok-number.ensures.small c.in-len4-up.len_at_least (omega (arith, c.requires.room, c.loop-rest.invariant.room)) in
    let fits = room-value (c.loop-rest.number * 65536 + n) (l - 4) (2 ^ 64) next in
    omega arith

pub returns-in_err-number-clause-value : goal.returns-in_err-number-clause-value
returns-in_err-number-clause-value c =
    c.from_residual.ensures ∙ sym (sym c.loop-rest.invariant.number ∙ four-ends c.loop-rest.number c.loop-rest.rest.now c.in-len4-up.len_at_least c.in_err-number.ensures.value)

pub loop-rest-preserved : goal.loop-rest-preserved
loop-rest-preserved c =
    let rest = c.loop-rest.rest.now in
    let some = c.in-len4-up.len_at_least in
    let n = c.in_ok-number.field-0 in
    let left = sym (left-length rest) in
    let limit = (c.args.front + 1) * 16 ^ length c.args.text.now in
    record {
      number = ap (λ (s : List ℕ). number_behind hex_digit_of 16 (c.loop-rest.number * 65536 + n) s) (take_rest rest 4) ∙ sym (four-next c.loop-rest.number rest n some c.in_ok-number.ensures.value) ∙ c.loop-rest.invariant.number;
      room = subst (λ (k : ℕ). (c.loop-rest.number * 65536 + n + 1) * 16 ^ k ≤ limit) left (room-four c.loop-rest.number n (length rest) limit c.in_ok-number.ensures.small some c.loop-rest.invariant.room);
      fours = subst (λ (k : ℕ). k % 4 ≡ 0) left (omega (arith, c.loop-rest.invariant.fours, some));
    }
