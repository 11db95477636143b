-- Bits by a table's places are linear.
use Rattle.std.proofs.Common.{◌≡◌, ℕ, zero, suc, ◌+◌, ◌-◌, ◌*◌, ◌/◌, ◌%◌, ◌^◌, ◌<◌, ◌≤◌, List, [], ◌∷◌, length, get_or, map, take, refl, sym, ap, ◌∙◌, arith}
use Rattle.std.specs.Prelude.{bit_xor}
use Rattle.std.specs.Int.{bit_at}
use Rattle.std.specs.Int.Digits.{number_from_digits, number_from_digits_after, AllBelowBase}
use Rattle.std.proofs.lemmas.Int.Digits.{number_lt, number_more}
use Rattle.std.proofs.lemmas.List.{length-map, length-take-le, get_or-map, take_all}
use Rattle.std.proofs.Math.Nat.{pow-le-pow_right}
use Rattle.std.proofs.lemmas.Nat.{xor_shr, xor_mod, xor_block}
use Rattle.std.proofs.lemmas.Nat.Bits.{bit_at-lt}
use Rattle.des.specs.Des.{selected}
use Rattle.des.proofs.Linear.{IsLinear}

-- ---- bits by places

bit_xor_at : (a b i : ℕ) → bit_at (bit_xor a b) i ≡ bit_xor (bit_at a i) (bit_at b i)
bit_xor_at a b i = ap (λ n. n % 2 ^ 1) (xor_shr a b i) ∙ xor_mod (a / 2 ^ i) (b / 2 ^ i) 1

digit_beside : (m n r s : ℕ) → r < 2 → s < 2 → bit_xor m n * 2 + bit_xor r s ≡ bit_xor (m * 2 + r) (n * 2 + s)
digit_beside m n r s small also = sym (xor_block 1 m n r s small also)

picked_after : (table : List ℕ) (width a b m n : ℕ)
    → number_from_digits_after 2 (bit_xor m n) (map (λ place. bit_at (bit_xor a b) (width - place)) table)
    ≡ bit_xor (number_from_digits_after 2 m (map (λ place. bit_at a (width - place)) table))
    (number_from_digits_after 2 n (map (λ place. bit_at b (width - place)) table))
picked_after [] width a b m n = refl
picked_after (place ∷ table) width a b m n =
    let i = width - place in
    let step : bit_xor m n * 2 + bit_at (bit_xor a b) i ≡ bit_xor (m * 2 + bit_at a i) (n * 2 + bit_at b i) =
    rw (bit_xor_at a b i) (digit_beside m n (bit_at a i) (bit_at b i) (bit_at-lt a i) (bit_at-lt b i)) in
    ap (λ bits. number_from_digits_after 2 bits (map (λ other. bit_at (bit_xor a b) (width - other)) table)) step
    ∙ picked_after table width a b (m * 2 + bit_at a i) (n * 2 + bit_at b i)

pub linear_selected : (table : List ℕ) (width : ℕ) → IsLinear (selected table width)
unfolding selected
linear_selected table width = record { of_xor = λ a b. picked_after table width a b 0 0 }

-- ---- how many bits they are

bits_below : (table : List ℕ) (width block : ℕ) → AllBelowBase 2 (map (λ place. bit_at block (width - place)) table)
bits_below [] width block = tt
bits_below (place ∷ table) width block = (bit_at-lt block (width - place), bits_below table width block)

pub selected_fits : (table : List ℕ) (width block : ℕ) → selected table width block < 2 ^ length table
unfolding selected
selected_fits table width block =
    let digits = map (λ place. bit_at block (width - place)) table in
    let all : length digits ≡ length table = length-map table (λ place. bit_at block (width - place)) in
    rw all at (number_lt 2 digits (bits_below table width block))

-- ---- bits that are taken one after another

-- what the first places of a table give
abbrev pub front : List ℕ → ℕ → ℕ → ℕ → ℕ
front table width block i = number_from_digits 2 (take i (map (λ place. bit_at block (width - place)) table))

front_bits : (digits : List ℕ) (i : ℕ) → AllBelowBase 2 digits → AllBelowBase 2 (take i digits)
front_bits digits zero all = tt
front_bits [] (suc i) all = tt
front_bits (digit ∷ digits) (suc i) all = (all.0, front_bits digits i all.1)

front_below : (table : List ℕ) (width block i : ℕ) → i ≤ length table → front table width block i < 2 ^ i
front_below table width block i within =
    let digits = map (λ place. bit_at block (width - place)) table in
    let beginning : length (take i digits) ≡ i = length-take-le i digits (rw (length-map table (λ place. bit_at block (width - place))) within) in
    rw beginning at (number_lt 2 (take i digits) (front_bits digits i (bits_below table width block)))

-- there is room for one bit more
pub front_room : (table : List ℕ) (width block i bits : ℕ) → bits ≡ front table width block i → i ≤ length table → i < 64
    → bits * 2 + 1 < 2 ^ 64
front_room table width block i bits is within few =
    let small : bits < 2 ^ i = rw is (front_below table width block i within) in
    let most : i ≤ 63 = omega arith in
    let power : 2 ^ i ≤ 2 ^ 63 = pow-le-pow_right {n = 2} (omega arith) most in
    omega arith

pub front_more : (table : List ℕ) (width block i bits place : ℕ) → bits ≡ front table width block i → i < length table
    → place ≡ get_or table i 0 → bits * 2 + bit_at block (width - place) ≡ front table width block (i + 1)
front_more table width block i bits place is within here =
    let bit : ℕ → ℕ = λ k. bit_at block (width - k) in
    let long : i < length (map bit table) = rw (length-map table bit) within in
    rw (is, here)
    (sym (number_more 2 (map bit table) i long ∙ ap (λ digit. front table width block i * 2 + digit) (get_or-map bit table i 0 0 within)))

pub front_all : (table : List ℕ) (width block i : ℕ) → length table ≤ i → front table width block i ≡ selected table width block
unfolding selected
front_all table width block i all =
    let bit : ℕ → ℕ = λ place. bit_at block (width - place) in
    ap (number_from_digits 2) (take_all i (map bit table) (rw (length-map table bit) all))
