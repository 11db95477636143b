use Rattle.std.proofs.Common.{◌≡◌, suc, ◌+◌, ◌*◌, ◌/◌, ◌%◌, ◌^◌, ◌<◌, sym, ap, ◌∙◌, arith}
use Rattle.std.specs.Int.{w32, rotate_left}
use Rattle.des.specs.Des.{selected, round_key, round_halves}
use Rattle.des.specs.Private.Words.{turned}
use Rattle.des.specs.Tables.{final_permutation}
use Rattle.des.proofs.Rolled.{turned_back}
use Rattle.des.proofs.RoundHalves.{halves_fit, first_left, first_right, next_left, next_right, enciphered_is}
use Rattle.des.proofs.rounds.enciphered.Goals as goal

pub loop-round-init : goal.loop-round-init
unfolding turned
loop-round-init c = λ key has.
    let block = c.args.block in (
      c.rotate_right-left.ensures ∙ ap turned (ap (λ n. n / 2 ^ 32) c.initially_permuted-permuted.ensures ∙ sym (first_left key block)),
      c.rotate_right-right.ensures ∙ ap turned (ap (λ n. n % 2 ^ 32) c.initially_permuted-permuted.ensures ∙ sym (first_right key block)),
    )

pub loop-round-preserved : goal.loop-round-preserved
loop-round-preserved c = λ key has.
    let block = c.args.block in
    let n = c.loop-round.round in
    let below : c.loop-round.round < 16 = omega arith in
    let plus : suc c.loop-round.round ≡ c.loop-round.round + 1 = omega arith in
    let before = c.loop-round.invariant key has in
    let mixed =
    c.mixed.ensures (round_halves key block n).right (round_key key (suc n)) (halves_fit key block n).1 before.1 (has.odd_words n below)
    (has.even_words n below) in (
      before.1 ∙ ap turned (sym (next_left key block n)) ∙ ap (λ k. turned (round_halves key block k).left) plus,
      next_right key block n c.loop-round.left c.mixed.result before.0 mixed ∙ ap (λ k. turned (round_halves key block k).right) plus,
    )

pub returns : goal.returns
returns c = λ key has.
    let block = c.args.block in
    let sixteen : c.loop-round.round ≡ 16 = omega arith in
    let last = c.loop-round.invariant key has in
    let fit = halves_fit key block 16 in
    let is_left : c.loop-round.left ≡ turned (round_halves key block 16).left = last.0 ∙ ap (λ k. turned (round_halves key block k).left) sixteen in
    let is_right : c.loop-round.right ≡ turned (round_halves key block 16).right = last.1 ∙ ap (λ k. turned (round_halves key block k).right) sixteen in
    let left : c.rotate_left-left.result ≡ (round_halves key block 16).left =
    c.rotate_left-left.ensures ∙ ap (λ n. rotate_left w32 n 1) is_left ∙ turned_back (round_halves key block 16).left fit.0 in
    let right : c.rotate_left-right.result ≡ (round_halves key block 16).right =
    c.rotate_left-right.ensures ∙ ap (λ n. rotate_left w32 n 1) is_right ∙ turned_back (round_halves key block 16).right fit.1 in
    let state : c.from.result * 2 ^ 32 % 2 ^ 64 + c.from-2.result ≡ (round_halves key block 16).right * 2 ^ 32 + (round_halves key block 16).left =
    omega (arith, left, right, fit.1) in
    c.finally_permuted.ensures ∙ ap (selected final_permutation 64) state ∙ enciphered_is key block
