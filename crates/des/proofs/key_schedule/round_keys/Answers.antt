use Rattle.std.proofs.Common.{◌≡◌, ◌+◌, ◌*◌, ◌/◌, ◌%◌, ◌^◌, ◌<◌, refl, sym, ap, ◌∙◌, arith}
use Rattle.des.specs.Des.{selected}
use Rattle.des.specs.Tables.{permuted_choice_1, permuted_choice_2}
use Rattle.des.proofs.KeyHalves.{few_places, first_halves, scheduled_more}
use Rattle.des.proofs.Moved.{selected_fits}
use Rattle.des.proofs.key_schedule.round_keys.Goals as goal

pub overflow_cast-left : goal.overflow_cast-left
overflow_cast-left c =
    let fits : c.selected-state.result < 2 ^ 56 = rw c.selected-state.ensures (selected_fits permuted_choice_1 64 c.args.key) in
    omega arith

pub loop-round-init : goal.loop-round-init
loop-round-init c =
    let fits : c.selected-state.result < 2 ^ 56 = rw c.selected-state.ensures (selected_fits permuted_choice_1 64 c.args.key) in
    record {
      is_left = ap (λ n. n / 2 ^ 28) c.selected-state.ensures ∙ sym (first_halves c.args.key).0;
      is_right = ap (λ n. n % 2 ^ 28) c.selected-state.ensures ∙ sym (first_halves c.args.key).1;
      left_fits = omega arith;
      right_fits = omega arith;
      odd_length = refl;
      even_length = refl;
      odd_words = λ n none. absurd (omega arith);
      even_words = λ n none. absurd (omega arith);
    }

pub rotated-right-requires-clause-few : goal.rotated-right-requires-clause-few
rotated-right-requires-clause-few c = few_places c.loop-round.round (omega arith)

pub loop-round-preserved : goal.loop-round-preserved
loop-round-preserved c =
    let state : c.from.result * 2 ^ 28 % 2 ^ 64 + c.from-in-loop-round.result ≡ c.rotated-left.result * 2 ^ 28 + c.rotated-right.result = omega arith in
    scheduled_more c.args.key c.loop-round.round c.loop-round.left c.loop-round.right c.loop-round.odd c.loop-round.even c.loop-round.invariant
    (omega arith) c.rotated-left.result c.rotated-right.result c.selected-round_key.result c.odd_word.result c.even_word.result
    c.rotated-left.ensures.value c.rotated-left.ensures.within c.rotated-right.ensures.value c.rotated-right.ensures.within
    (c.selected-round_key.ensures ∙ ap (selected permuted_choice_2 56) state) c.odd_word.ensures c.even_word.ensures
