-- Digits that are looked up side by side.
use Rattle.std.proofs.Common.{◌≡◌, ℕ, ◌+◌, ◌*◌, ◌/◌, ◌%◌, ◌^◌, ◌<◌, List, [], ◌∷◌, map, length, get_or, slice_index, replicate, bit_and, refl, sym, ap, ◌∙◌, arith, w8, Fits}
use Rattle.std.proofs.lemmas.List.{get_or-map, length-map, ext_get_or}
use Rattle.std.proofs.lemmas.Nat.{and_mask, and_le_r}
use Rattle.std.proofs.lemmas.Simd.{Each1-all, Each1-weaker, Each1-zip2, Each1-get_or, Each2-splat, below_from_Fits, length-zip2, swz_l, SwzOk, SwzOk-from_below, length-swz_l, get_or-swz_l_below, get_or-chunk, length-chunk}
use lib.Lanes.{zip2, chunk, Each1}
use Rattle.hex.specs.Hex.{lower_digits}

abbrev pub IsBlock : List ℕ → Type 0
IsBlock v = (length v ≡ 16) × Each1 (Fits w8) v

abbrev pub down : ℕ → ℕ → ℕ
down a b = a / 2 ^ b

-- ---- each half is the place of a digit

pub high_ok : (v : List ℕ) → IsBlock v → SwzOk w8 16 16 0 (zip2 down v (replicate 16 4))
high_ok v fits =
    let small = Each1-weaker (λ a. a < 256) (λ a. a / 16 < 16) (λ a h. omega arith) v (below_from_Fits w8 v fits.1) in
    SwzOk-from_below w8 16 1 16 0 (zip2 down v (replicate 16 4)) refl (omega (arith, length-zip2 down v (replicate 16 4) fits.0))
    (Each1-zip2 down (λ j. j < 16) v (replicate 16 4) (Each2-splat (λ a b. down a b < 16) v 16 4 small))

pub low_ok : (v : List ℕ) → IsBlock v → SwzOk w8 16 16 0 (zip2 bit_and v (replicate 16 15))
low_ok v fits =
    let small = Each1-all (λ a. bit_and a 15 < 16) (λ a. omega (arith, and_le_r a 15)) v in
    SwzOk-from_below w8 16 1 16 0 (zip2 bit_and v (replicate 16 15)) refl (omega (arith, length-zip2 bit_and v (replicate 16 15) fits.0))
    (Each1-zip2 bit_and (λ j. j < 16) v (replicate 16 15) (Each2-splat (λ a b. bit_and a b < 16) v 16 15 small))

-- ---- the digits at these places

pub looked_up : (half : ℕ → ℕ) (v js : List ℕ) → IsBlock v → js ≡ map half v → ((x : ℕ) → x < 256 → half x < 16) → swz_l w8 16 lower_digits 0 js ≡ map (λ x. slice_index lower_digits (half x)) v
looked_up half v js fits e small =
    let long : length js ≡ 16 = ap length e ∙ length-map v half ∙ fits.0 in
    ext_get_or 0 _ _ (length-swz_l w8 16 lower_digits 0 js ∙ long ∙ sym (length-map v (λ x. slice_index lower_digits (half x)) ∙ fits.0)) (λ i h.
    let lt : i < 16 = omega (arith, length-swz_l w8 16 lower_digits 0 js) in
    let within : i < length v = omega (arith, fits.0) in
    let is : get_or js i 0 ≡ half (get_or v i 0) = ap (λ l. get_or l i 0) e ∙ get_or-map half v i 0 0 within in
    let byte : get_or v i 0 < 256 = Each1-get_or (λ x. x < 256) v i 0 within (below_from_Fits w8 v fits.1) in
    let below : get_or js i 0 < 16 = omega (arith, is, small (get_or v i 0) byte) in
    let first : 16 * ((0 + i) / 16) + get_or js i 0 ≡ half (get_or v i 0) = omega (arith, lt, is) in
    get_or-swz_l_below w8 16 lower_digits 0 js i (omega arith) below
    ∙ ap (λ k. get_or lower_digits k 0) first
    ∙ sym (get_or-map (λ x. slice_index lower_digits (half x)) v i 0 0 within))

pub masked : (v : List ℕ) → map (λ x. bit_and x 15) v ≡ map (λ x. x % 16) v
masked [] = refl
masked (x ∷ xs) = rw (and_mask x 4, masked xs) refl

-- what is looked up for a byte of a block
pub lane_of : (digit : ℕ → ℕ) (block lanes : List ℕ) (i : ℕ) → length block ≡ 16 → i < 16 → lanes ≡ map digit (chunk 0 16 block) → slice_index lanes i ≡ digit (slice_index block i)
lane_of digit block lanes i long lt e =
    let same : 0 + i ≡ i = omega arith in
    ap (λ l. slice_index l i) e
    ∙ get_or-map digit (chunk 0 16 block) i 0 0 (omega (arith, length-chunk 0 16 block (omega arith)))
    ∙ ap digit (get_or-chunk 0 16 block i 0 lt ∙ ap (λ k. get_or block k 0) same)
