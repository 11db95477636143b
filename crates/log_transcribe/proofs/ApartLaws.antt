-- A position that doesn't overlap a transaction has none of its numbers.
use Rattle.std.proofs.Common.{◌≡◌, ℕ, Bool, true, false, List, [], ◌∷◌, refl, inl, inr, arith}
use Rattle.std.proofs.lemmas.Bool.{cases_Bool, or_cases, or_left, or_right, false≢true}
use Rattle.std.proofs.lemmas.Bool.Decides.{nat_tests}
use Rattle.std.specs.Prelude.{◌&&◌, ◌||◌, not}
use Rattle.std.specs.List.{list_any}
use Rattle.gtid_set.specs.declared.interval.Interval.{Interval}
use Rattle.gtid_set.specs.Position.{holds, has, holds_interval, within_of}
use Rattle.gtid_set.proofs.Within.{within-pairs}
use Rattle.log_transcribe.specs.Apart.{shared, meets, clashes, overlaps, IsApart}

-- what two intervals hold they share, and an interval with all that they share holds it
meets_at : (i j : Interval) (u n : ℕ) → holds i u n ≡ true → holds j u n ≡ true → meets i j ≡ true
meets_at i j u n a b = grind (arith, nat_tests)

holds_shared : (k i j : Interval) (u n : ℕ) → holds i u n ≡ true → holds j u n ≡ true → holds_interval k (shared i j) ≡ true → holds k u n ≡ true
holds_shared k i j u n a b c = grind (arith, nat_tests)

held_by : (before : List Interval) (i j : Interval) (u n : ℕ) → holds i u n ≡ true → holds j u n ≡ true → list_any (λ k. holds_interval k (shared i j)) before ≡ true → has before u n ≡ true
held_by [] i j u n a b e = absurd (false≢true e)
held_by (k ∷ before) i j u n a b e = elim (or_cases (holds_interval k (shared i j)) (list_any (λ k. holds_interval k (shared i j)) before) e) [
  | inl covers ↦ or_left (holds k u n) (has before u n) (holds_shared k i j u n a b covers)
  | inr others ↦ or_right (holds k u n) (has before u n) (held_by before i j u n a b others)
]

not_false : (b : Bool) → not b ≡ false → b ≡ true
not_false true e = refl
not_false false e = cc

unclashed : (m b : Bool) → m ≡ true → (m && not b) ≡ false → b ≡ true
unclashed true b m e = not_false b e
unclashed false b m e = cc

neither : (a b : Bool) → (a || b) ≡ false → (a ≡ false) × (b ≡ false)
neither true b e = cc
neither false b e = (refl, e)

not_clashing : (before : List Interval) (i j : Interval) (u n : ℕ) → holds i u n ≡ true → holds j u n ≡ true → clashes before i j ≡ false → has before u n ≡ true
not_clashing before i j u n a b e =
    held_by before i j u n a b (unclashed (meets i j) (list_any (λ k. holds_interval k (shared i j)) before) (meets_at i j u n a b) e)

apart_one : (before position : List Interval) (i : Interval) (u n : ℕ) → holds i u n ≡ true → list_any (λ j. clashes before i j) position ≡ false → has position u n ≡ true → has before u n ≡ true
apart_one before [] i u n a e h = absurd (false≢true h)
apart_one before (j ∷ position) i u n a e h =
    let none = neither (clashes before i j) (list_any (λ j. clashes before i j) position) e in
    elim (or_cases (holds j u n) (has position u n) h) [
      | inl here ↦ not_clashing before i j u n a here none.0
      | inr other ↦ apart_one before position i u n a none.1 other
    ]

apart_all : (before position had : List Interval) (u n : ℕ) → list_any (λ i. list_any (λ j. clashes before i j) position) had ≡ false → has had u n ≡ true → has position u n ≡ true → has before u n ≡ true
apart_all before position [] u n e h k = absurd (false≢true h)
apart_all before position (i ∷ had) u n e h k =
    let none = neither (list_any (λ j. clashes before i j) position) (list_any (λ i. list_any (λ j. clashes before i j) position) had) e in
    elim (or_cases (holds i u n) (has had u n) h) [
      | inl here ↦ apart_one before position i u n here none.0 k
      | inr other ↦ apart_all before position had u n none.1 other k
    ]

pub apart : (had before position : List Interval) → overlaps had before position ≡ false → IsApart had before position
apart had before position e u n h k = elim (cases_Bool (within_of had before)) [
  | inl within ↦ within-pairs had before within u n h
  | inr beyond ↦ (let rest : list_any (λ i. list_any (λ j. clashes before i j) position) had ≡ false = (let r = rw beyond at e in r) in apart_all before position had u n rest h k)
]
