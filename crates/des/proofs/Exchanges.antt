-- The exchanges of bits that are IP and its inverse.
use Rattle.std.proofs.Common.{◌≡◌, ℕ, ◌*◌, ◌/◌, ◌%◌, ◌^◌, ◌<◌, refl}
use Rattle.std.specs.Prelude.{bit_and, bit_xor}
use Rattle.des.specs.Des.{selected}
use Rattle.des.specs.Private.Exchange.{exchanged}
use Rattle.des.specs.Tables.{initial_permutation, final_permutation}
use Rattle.des.proofs.Linear.{IsLinear, linear_itself, linear_after, linear_xor, linear_masked, linear_shr, linear_low, linear_shl, same_from_powers}
use Rattle.des.proofs.Moved.{linear_selected}

linear_exchanged : (places mask : ℕ) → IsLinear (λ n. exchanged n places mask)
unfolding exchanged
linear_exchanged places mask =
    let differing : ℕ → ℕ = λ n. bit_and (bit_xor n (n / 2 ^ places)) mask in
    let of_differing : IsLinear differing =
    linear_after (λ n. bit_and n mask) (λ n. bit_xor n (n / 2 ^ places)) (linear_masked mask)
    (linear_xor (λ n. n) (λ n. n / 2 ^ places) linear_itself (linear_shr places)) in
    linear_xor (λ n. bit_xor n (differing n)) (λ n. differing n * 2 ^ places % 2 ^ 64)
    (linear_xor (λ n. n) differing linear_itself of_differing)
    (linear_after (λ n. n % 2 ^ 64) (λ n. differing n * 2 ^ places) (linear_low 64)
    (linear_after (λ n. n * 2 ^ places) differing (linear_shl places) of_differing))

two : (p m q n : ℕ) → IsLinear (λ k. exchanged (exchanged k p m) q n)
two p m q n = linear_after (λ k. exchanged k q n) (λ k. exchanged k p m) (linear_exchanged q n) (linear_exchanged p m)

abbrev pub initially : ℕ → ℕ
initially n =
    exchanged
    (exchanged (exchanged (exchanged (exchanged n 3 0x1111_1111_1111_1111) 6 0x0303_0303_0303_0303) 9 0x0055_0055_0055_0055)
    18 0x0000_3333_0000_3333) 36 0x0000_0000_0f0f_0f0f

abbrev pub finally : ℕ → ℕ
finally n =
    exchanged
    (exchanged (exchanged (exchanged (exchanged n 36 0x0000_0000_0f0f_0f0f) 18 0x0000_3333_0000_3333) 9 0x0055_0055_0055_0055)
    6 0x0303_0303_0303_0303) 3 0x1111_1111_1111_1111

linear_initially : IsLinear initially
linear_initially =
    linear_after (λ n. exchanged (exchanged (exchanged n 9 0x0055_0055_0055_0055) 18 0x0000_3333_0000_3333) 36 0x0000_0000_0f0f_0f0f)
    (λ n. exchanged (exchanged n 3 0x1111_1111_1111_1111) 6 0x0303_0303_0303_0303)
    (linear_after (λ n. exchanged (exchanged n 18 0x0000_3333_0000_3333) 36 0x0000_0000_0f0f_0f0f) (λ n. exchanged n 9 0x0055_0055_0055_0055)
    (two 18 0x0000_3333_0000_3333 36 0x0000_0000_0f0f_0f0f) (linear_exchanged 9 0x0055_0055_0055_0055))
    (two 3 0x1111_1111_1111_1111 6 0x0303_0303_0303_0303)

linear_finally : IsLinear finally
linear_finally =
    linear_after (λ n. exchanged (exchanged (exchanged n 9 0x0055_0055_0055_0055) 6 0x0303_0303_0303_0303) 3 0x1111_1111_1111_1111)
    (λ n. exchanged (exchanged n 36 0x0000_0000_0f0f_0f0f) 18 0x0000_3333_0000_3333)
    (linear_after (λ n. exchanged (exchanged n 6 0x0303_0303_0303_0303) 3 0x1111_1111_1111_1111) (λ n. exchanged n 9 0x0055_0055_0055_0055)
    (two 6 0x0303_0303_0303_0303 3 0x1111_1111_1111_1111) (linear_exchanged 9 0x0055_0055_0055_0055))
    (two 36 0x0000_0000_0f0f_0f0f 18 0x0000_3333_0000_3333)

pub initially_is : (n : ℕ) → n < 2 ^ 64 → initially n ≡ selected initial_permutation 64 n
unfolding selected exchanged
initially_is n small = same_from_powers initially (selected initial_permutation 64) linear_initially (linear_selected initial_permutation 64) 64 refl n small

pub finally_is : (n : ℕ) → n < 2 ^ 64 → finally n ≡ selected final_permutation 64 n
unfolding selected exchanged
finally_is n small = same_from_powers finally (selected final_permutation 64) linear_finally (linear_selected final_permutation 64) 64 refl n small
