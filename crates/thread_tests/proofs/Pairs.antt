-- Two seats out of a list, and as a list.
use Rattle.std.proofs.Common.{◌≡◌, ℕ, zero, suc, List, [], ◌∷◌, ◌++◌, length, length-append, Some, slice_get, refl, sym, ap, ◌∙◌, subst, arith}
use Rattle.std.proofs.lemmas.Option.{same_Some}
use Rattle.stream_worker.specs.declared.seat.Seat.{Seat}
use Rattle.stream_worker.specs.declared.shared.Shared.{Shared}
use Rattle.stream_worker.specs.SeatOf.{IsSeatOf, AreApartSeats}

-- the two that are taken off the end of a list of two
pub of_two : {A : Type 0} (all one none : List A) (first last : A) → all ≡ one ++ last ∷ [] → one ≡ none ++ first ∷ [] → length all ≡ 2 → (slice_get all 0 ≡ Some first) × (slice_get all 1 ≡ Some last)
of_two {A} all one [] first last split more long =
    let is : all ≡ first ∷ last ∷ [] = split ∙ ap (λ (l : List A). l ++ last ∷ []) more in
    (ap (λ (l : List A). slice_get l 0) is, ap (λ (l : List A). slice_get l 1) is)
of_two {A} all one (x ∷ none) first last split more long =
    let a = ap length split ∙ length-append one (last ∷ []) in
    let b = ap length more ∙ length-append (x ∷ none) (first ∷ []) in
    absurd (omega (arith, a, b, long))

-- two seats of the first two streams, the second one first
pub two_seats : (shared : Shared) (one two : Seat) → IsSeatOf shared one × (one.stream ≡ 0) → IsSeatOf shared two × (two.stream ≡ 1) → AreApartSeats shared (two ∷ one ∷ [])
two_seats shared one two first second = record { each = each; apart = apart }
  where
    each : (k : ℕ) (seat : Seat) → slice_get (two ∷ one ∷ []) k ≡ Some seat → IsSeatOf shared seat
    each zero seat e = subst (λ (s : Seat). IsSeatOf shared s) (same_Some two seat e) second.0
    each (suc zero) seat e = subst (λ (s : Seat). IsSeatOf shared s) (same_Some one seat e) first.0
    each (suc (suc k)) seat e = cc

    differ : (a b : Seat) → Some two ≡ Some a → Some one ≡ Some b → a.stream ≡ b.stream → zero ≡ suc zero
    differ a b at there e =
        let is : two.stream ≡ a.stream = ap (λ (s : Seat). s.stream) (same_Some two a at) in
        let be : one.stream ≡ b.stream = ap (λ (s : Seat). s.stream) (same_Some one b there) in
        sym first.1 ∙ be ∙ sym e ∙ sym is ∙ second.1

    apart : (j k : ℕ) (a b : Seat) → slice_get (two ∷ one ∷ []) j ≡ Some a → slice_get (two ∷ one ∷ []) k ≡ Some b → a.stream ≡ b.stream → j ≡ k
    apart zero zero a b at there e = refl
    apart zero (suc zero) a b at there e = differ a b at there e
    apart zero (suc (suc k)) a b at there e = cc
    apart (suc zero) zero a b at there e = sym (differ b a there at (sym e))
    apart (suc zero) (suc zero) a b at there e = refl
    apart (suc zero) (suc (suc k)) a b at there e = cc
    apart (suc (suc j)) k a b at there e = cc
