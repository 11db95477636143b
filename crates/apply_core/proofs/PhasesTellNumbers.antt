-- What a stream's phase says of its numbers.
use Rattle.std.proofs.Common.{◌≡◌, ◌≢◌, ◌==◌, ℕ, ◌<◌, ◌≤◌, Bool, true, false, cond, Option, Some, None, refl, ap, arith}
use Rattle.std.proofs.lemmas.Bool.{eqb-false}
use borrow.Author.Tests.{eqb-true}
use Rattle.std.specs.Prelude.{IfSome, is_some, not}
use Rattle.stream_core.specs.declared.phase.Phase.{Phase}
use Rattle.stream_core.specs.declared.phase.Phase.TheVariants.{Running, Copy, FastForward, CatchUp}
use Rattle.stream_core.specs.Standing.{Standing, IsSound, IsOpenAt, phase_of, is_open_at}
use Rattle.apply_core.specs.Courses.{IsAtEnd}

abbrev code : Phase → ℕ
code Running = 0
code Copy = 1
code FastForward = 2
code CatchUp = 3

other : {P : Type 0} (p q : Phase) → p ≡ q → (code p ≡ code q → ⊥) → P
other p q e clash = absurd (clash (ap code e))

-- all tables are copied
pub running-done : (at : Standing) → phase_of at ≡ Running → at.done ≡ at.tables
running-done at e = by (at.done == at.tables) (not (is_some at.snapshot)) (is_open_at at.applied at.snapshot) refl e
  where
    by : (b c d : Bool) → (at.done == at.tables) ≡ b → cond b Running (cond c CatchUp (cond d Copy FastForward)) ≡ Running → at.done ≡ at.tables
    by true c d q e = eqb-true at.done at.tables q
    by false true d q e = other CatchUp Running e (λ h. omega (arith, h))
    by false false true q e = other Copy Running e (λ h. omega (arith, h))
    by false false false q e = other FastForward Running e (λ h. omega (arith, h))

-- so no snapshot is open
pub running-closed : (at : Standing) → IsSound at → phase_of at ≡ Running → at.snapshot ≡ None
running-closed at sound e = by at.snapshot sound.snapshot
  where
    by : (o : Option ℕ) → IfSome o (IsOpenAt at) → o ≡ None
    by None h = refl
    by (Some m) h = absurd (let all : at.done ≡ at.tables = running-done at e in let less : at.done < at.tables = h.copying in omega (arith, all, less))

-- an open snapshot is reached
pub copy-reached : (at : Standing) → phase_of at ≡ Copy → at.snapshot ≡ Some at.applied
copy-reached at e = by (at.done == at.tables) at.snapshot refl e
  where
    open_at : (m : ℕ) (d : Bool) → (m == at.applied) ≡ d → cond d Copy FastForward ≡ Copy → Some m ≡ Some at.applied
    open_at m true q e = ap (λ (n : ℕ). Some n) (eqb-true m at.applied q)
    open_at m false q e = other FastForward Copy e (λ h. omega (arith, h))

    by : (b : Bool) (o : Option ℕ) → at.snapshot ≡ o → cond b Running (cond (not (is_some o)) CatchUp (cond (is_open_at at.applied o) Copy FastForward)) ≡ Copy → o ≡ Some at.applied
    by true o q e = other Running Copy e (λ h. omega (arith, h))
    by false None q e = other CatchUp Copy e (λ h. omega (arith, h))
    by false (Some m) q e = open_at m (m == at.applied) refl e

-- an open snapshot is ahead of what is applied
pub forward-ahead : (at : Standing) → IsSound at → phase_of at ≡ FastForward → (at.applied < at.read) × (is_open_at at.applied at.snapshot ≡ false)
forward-ahead at sound e = by (at.done == at.tables) at.snapshot sound.snapshot e
  where
    open_at : (m : ℕ) → IsOpenAt at m → (d : Bool) → (m == at.applied) ≡ d → cond d Copy FastForward ≡ FastForward → (at.applied < at.read) × (d ≡ false)
    open_at m h true q e = other Copy FastForward e (λ h. omega (arith, h))
    open_at m h false q e =
        let ne : m ≢ at.applied = eqb-false m at.applied q in
        let least : at.applied ≤ m = h.not_behind in
        let most : m ≤ at.read = h.is_read in
        (omega (arith, ne, least, most), refl)

    by : (b : Bool) (o : Option ℕ) → IfSome o (IsOpenAt at) → cond b Running (cond (not (is_some o)) CatchUp (cond (is_open_at at.applied o) Copy FastForward)) ≡ FastForward
        → (at.applied < at.read) × (is_open_at at.applied o ≡ false)
    by true o h e = other Running FastForward e (λ h. omega (arith, h))
    by false None h e = other CatchUp FastForward e (λ h. omega (arith, h))
    by false (Some m) h e = open_at m h (m == at.applied) refl e

-- a stream that is running, and has read and applied all
pub at-end : (at : Standing) (groups : ℕ) → IsSound at → phase_of at ≡ Running → at.read ≤ at.applied → groups ≤ at.read → at.read ≤ groups → IsAtEnd at groups
at-end at groups sound running none_left none_more within = record {
  running = running;
  read = omega (arith, none_more, within);
  applied = let most : at.applied ≤ at.read = sound.applied in omega (arith, most, none_left, none_more, within);
}
