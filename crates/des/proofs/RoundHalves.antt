-- The halves of a block behind each round.
use Rattle.std.proofs.Common.{◌≡◌, ℕ, zero, suc, ◌+◌, ◌*◌, ◌/◌, ◌%◌, ◌^◌, ◌<◌, refl, arith}
use Rattle.std.specs.Prelude.{bit_xor}
use Rattle.std.proofs.lemmas.Nat.{xor_lt}
use Rattle.des.specs.Des.{selected, cipher_function, substituted, round_key, round_halves, enciphered}
use Rattle.des.specs.Private.Words.{turned}
use Rattle.des.specs.Tables.{initial_permutation, final_permutation, permutation, expansion}
use Rattle.des.proofs.Moved.{selected_fits}
use Rattle.des.proofs.Rolled.{turned-xor}

pub function_fits : (right key : ℕ) → cipher_function right key < 2 ^ 32
unfolding cipher_function
function_fits right key = selected_fits permutation 32 (substituted (bit_xor key (selected expansion 32 right)))

pub halves_fit : (key block n : ℕ) → ((round_halves key block n).left < 2 ^ 32) × ((round_halves key block n).right < 2 ^ 32)
unfolding round_halves
halves_fit key block zero =
    let permuted : selected initial_permutation 64 block < 2 ^ 64 = selected_fits initial_permutation 64 block in
    (omega arith, omega arith)
halves_fit key block (suc n) =
    let before = halves_fit key block n in
    let halves = round_halves key block n in
    (before.1, xor_lt 32 halves.left (cipher_function halves.right (round_key key (suc n))) before.0 (function_fits halves.right (round_key key (suc n))))

pub first_left : (key block : ℕ) → (round_halves key block 0).left ≡ selected initial_permutation 64 block / 2 ^ 32
unfolding round_halves
first_left key block = refl

pub first_right : (key block : ℕ) → (round_halves key block 0).right ≡ selected initial_permutation 64 block % 2 ^ 32
unfolding round_halves
first_right key block = refl

pub next_left : (key block n : ℕ) → (round_halves key block (suc n)).left ≡ (round_halves key block n).right
unfolding round_halves
next_left key block n = refl

-- the right half behind a round, of turned halves
pub next_right : (key block n left mixed : ℕ) → left ≡ turned (round_halves key block n).left
    → mixed ≡ turned (cipher_function (round_halves key block n).right (round_key key (suc n)))
    → bit_xor left mixed ≡ turned (round_halves key block (suc n)).right
unfolding round_halves
next_right key block n left mixed is_left is_mixed =
    let halves = round_halves key block n in
    rw (is_left, is_mixed)
    (turned-xor halves.left (cipher_function halves.right (round_key key (suc n))) (halves_fit key block n).0
    (function_fits halves.right (round_key key (suc n))))

pub enciphered_is : (key block : ℕ)
    → selected final_permutation 64 ((round_halves key block 16).right * 2 ^ 32 + (round_halves key block 16).left) ≡ enciphered key block
unfolding enciphered
enciphered_is key block = refl
