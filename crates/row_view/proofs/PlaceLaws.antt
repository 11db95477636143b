-- Where what is left of a message stands in it.
use Rattle.std.proofs.Common.{◌≡◌, ℕ, zero, suc, ℤ, ◌+◌, ◌-◌, ◌≤◌, List, [], ◌∷◌, ◌++◌, length, take, drop, refl, sym, ap, ◌∙◌, append_assoc, length-append, arith}
use Rattle.std.proofs.lemmas.List.{take_at, drop_at}
use Rattle.row_view.specs.Row.{size_of, size_of_all}
use Rattle.row_view.specs.Private.Marks.{IsPlace, EndsIn, lengths_left, lengths_from}

-- the two parts are found by their places
pub place_parts : (message packed fields : List ℕ) (at end : ℕ) → IsPlace message packed fields at end → (drop at (take end message) ≡ packed) × (drop end message ≡ fields)
place_parts message packed fields at end place =
    let whole : message ≡ (place.front ++ packed) ++ fields = place.is ∙ sym (append_assoc place.front packed fields) in
    let before : take end message ≡ place.front ++ packed = ap (take end) whole ∙ take_at (place.front ++ packed) fields end (sym place.end_is) in
    (ap (drop at) before ∙ drop_at place.front packed at (sym place.at_is), ap (drop end) whole ∙ drop_at (place.front ++ packed) fields end (sym place.end_is))

pub place_lengths : (message packed fields : List ℕ) (at end : ℕ) → IsPlace message packed fields at end → lengths_from message at end ≡ lengths_left packed fields
place_lengths message packed fields at end place =
    let parts = place_parts message packed fields at end place in
    rw (parts.0, parts.1) refl

pub place_within : (message packed fields : List ℕ) (at end : ℕ) → IsPlace message packed fields at end → end ≤ length message
place_within message packed fields at end place =
    let whole : length message ≡ length (place.front ++ (packed ++ fields)) = ap length place.is in
    omega (arith, whole, place.end_is, length-append place.front packed, length-append place.front (packed ++ fields), length-append packed fields)

-- how many bytes there are before each
pub ends_long : (message packed fields : List ℕ) → EndsIn message packed fields → length packed + length fields ≤ length message
ends_long message packed fields ends =
    let whole : length message ≡ length (ends.front ++ (packed ++ fields)) = ap length ends.is in
    omega (arith, whole, length-append ends.front (packed ++ fields), length-append packed fields)

pub ends_place : (message packed fields : List ℕ) (at end : ℕ) → EndsIn message packed fields → end ≡ length message - length fields → at ≡ end - length packed → IsPlace message packed fields at end
ends_place message packed fields at end ends end_is at_is =
    let whole : length message ≡ length (ends.front ++ (packed ++ fields)) = ap length ends.is in
    record {
      front = ends.front;
      is = ends.is;
      at_is = omega (arith, whole, end_is, at_is, length-append ends.front (packed ++ fields), length-append packed fields);
      end_is = omega (arith, whole, end_is, at_is, length-append ends.front packed, length-append ends.front (packed ++ fields), length-append packed fields);
    }

-- one byte or more further on
pub ends_further : (message packed fields front rest : List ℕ) → EndsIn message packed fields → packed ≡ front ++ rest → EndsIn message rest fields
ends_further message packed fields front rest ends is = record {
  front = ends.front ++ front;
  is = ends.is ∙ ap (λ (p : List ℕ). ends.front ++ (p ++ fields)) is ∙ ap (λ (p : List ℕ). ends.front ++ p) (append_assoc front rest fields) ∙ sym (append_assoc ends.front front (rest ++ fields));
}

-- ---- one length further on

pub drop_next : (c : ℕ) (ns left : List ℤ) (n : ℤ) → drop c ns ≡ n ∷ left → (drop (suc c) ns ≡ left) × (size_of_all (take (suc c) ns) ≡ size_of_all (take c ns) + size_of n)
drop_next zero [] left n e = absurd cc
drop_next zero (m ∷ ms) left n e =
    let first : m ≡ n = cc in
    let others : ms ≡ left = cc in
    let one : size_of m ≡ size_of n = ap size_of first in
    (others, omega (arith, one))
drop_next (suc c) [] left n e = absurd cc
drop_next (suc c) (m ∷ ms) left n e =
    let next = drop_next c ms left n e in
    (next.0, omega (arith, next.1))
