-- What each stream answered is noted, the last answer first.
use Rattle.std.proofs.Common.{◌≡◌, ℕ, zero, suc, ◌≤◌, Bool, inl, inr, List, [], ◌∷◌, ◌++◌, length, map, take, get_or, length-append, Result, Some, slice_get, set, refl, sym, ap, ◌∙◌, arith}
use Rattle.std.proofs.Math.Nat.{eq-or-lt_of_le}
use Rattle.std.proofs.lemmas.Option.{same_Some}
use Rattle.list_laws.proofs.Places.{slice_get-set_same, slice_get-set_other}
use Rattle.board_laws.specs.declared.step_refusal.StepRefusal.{StepRefusal}
use Rattle.live_session.specs.Answered.{noted, unstepped}
use Rattle.live_session.specs.declared.seat.Seat.{Seat}

-- the last of the first n + 1, and those before it
pub last-of : {A : Type 0} (all rest : List A) (n : ℕ) (x : A) → take (suc n) all ≡ rest ++ x ∷ [] → suc n ≤ length all → (rest ≡ take n all) × (slice_get all n ≡ Some x)
last-of [] rest n x is h = absurd (omega (arith, h))
last-of (a ∷ others) [] zero x is h = (refl, cc)
last-of (a ∷ []) [] (suc n) x is h = absurd (omega (arith, h))
last-of (a ∷ b ∷ others) [] (suc n) x is h = absurd (let size = ap length is in omega (arith, size))
last-of (a ∷ others) (r ∷ rs) zero x is h = absurd (let size = ap length is in omega (arith, size, length-append rs (x ∷ [])))
last-of {A} (a ∷ others) (r ∷ rs) (suc n) x is h =
    let first : r ≡ a = cc in
    let behind : take (suc n) others ≡ rs ++ x ∷ [] = cc in
    let later = last-of others rs n x behind (omega (arith, h)) in
    (ap (λ (y : A). y ∷ rs) first ∙ ap (λ (ys : List A). a ∷ ys) later.0, later.1)

-- the answers from a number on are noted
abbrev pub AreNotedFrom : ℕ → List (Result Bool StepRefusal) → List Seat → Type 0
AreNotedFrom s answers seats = (i : ℕ) (answer : Result Bool StepRefusal) (seat : Seat) → s ≤ i → slice_get answers i ≡ Some answer → slice_get seats i ≡ Some seat → seat.step ≡ noted answer

-- and the one before them
pub noted-one : (s : ℕ) (answers : List (Result Bool StepRefusal)) (seats : List Seat) (x : Result Bool StepRefusal) (before after : Seat) → slice_get answers s ≡ Some x → slice_get seats s ≡ Some before → after.step ≡ noted x → AreNotedFrom (suc s) answers seats
    → AreNotedFrom s answers (set seats s after)
noted-one s answers seats x before after there place step behind i answer seat within at found =
    elim (eq-or-lt_of_le within) [
      | inl same ↦
          let answer_is : x ≡ answer = same_Some x answer (sym there ∙ (ap (λ n. slice_get answers n) same ∙ at)) in
          let seat_is : after ≡ seat = same_Some after seat (sym (slice_get-set_same seats s after before place) ∙ (ap (λ n. slice_get (set seats s after) n) same ∙ found)) in
          ap (λ (one : Seat). one.step) (sym seat_is) ∙ (step ∙ ap noted answer_is)
      | inr later ↦ behind i answer seat (omega (arith, later)) at (sym (slice_get-set_other seats s after i (λ e. omega (arith, e, later))) ∙ found)
    ]

-- a seat that is as it was but for its step leaves all as they were but for their steps
pub stepped-set : (seats : List Seat) (s : ℕ) (item after : Seat) → item ≡ get_or seats s item → unstepped after ≡ unstepped item → map unstepped (set seats s after) ≡ map unstepped seats
stepped-set [] s item after is same = refl
stepped-set (x ∷ xs) zero item after is same = ap (λ (seat : Seat). seat ∷ map unstepped xs) (same ∙ ap unstepped is)
stepped-set (x ∷ xs) (suc s) item after is same = ap (λ (rest : List Seat). unstepped x ∷ rest) (stepped-set xs s item after is same)
