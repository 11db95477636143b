-- Parts that are read one after another.
use Rattle.std.proofs.Common.{◌≡◌, ℕ, ◌+◌, ◌<◌, Bool, true, false, eqb, refl, sym, ◌∙◌, ap, subst, arith, List, [], ◌∷◌, ◌++◌, append_assoc, append-nil, length, Option, Some, None, Result, Ok, Err}
use Rattle.std.specs.Borrow.{Bor}
use Rattle.std.specs.Option.{option_map}
use Rattle.gtid_set.specs.declared.interval.Interval.{Interval}
use Rattle.gtid_set.specs.declared.fault.GtidFault.{GtidFault}
use Rattle.list_laws.specs.Outcome.{◌>>=◌}
use Rattle.gtid_set.specs.declared.named.Named.{Named}
use Rattle.gtid_set.specs.Inner.Kept.{Keeps}
use Rattle.gtid_set.specs.Blank.{cut, parts_between}
use Rattle.gtid_set.specs.Text.{all_of, put_before}
use Rattle.gtid_set.proofs.Parts.{parts_after, parts_between-cut}

abbrev pub size_left : Option (List ℕ) → ℕ
size_left None = 0
size_left (Some rest) = length rest + 1

-- what stands behind a cut is shorter
pub cut-smaller : (c : ℕ) (text : List ℕ) → size_left (cut c text).1 < length text + 1
cut-smaller c [] = omega arith
cut-smaller c (b ∷ text) = by_test (eqb b c) refl (cut-smaller c text)
  where
    by_test : (t : Bool) → eqb b c ≡ t → size_left (cut c text).1 < length text + 1 → size_left (cut c (b ∷ text)).1 < length (b ∷ text) + 1
    by_test true e h = rw e (omega arith)
    by_test false e h = rw e (omega arith)

behind-none : (front : List Interval) → put_before front (Ok []) ≡ Ok front
behind-none front = ap (λ (l : List Interval). Ok l) (append-nil front)

-- one part more
behind-both : (front : List Interval) (one rest : Result (List Interval) GtidFault) → put_before front (one >>= λ x. rest >>= λ y. Ok (x ++ y)) ≡ (put_before front one >>= λ x. put_before x rest)
behind-both front (Err e) rest = refl
behind-both front (Ok x) (Err e) = refl
behind-both front (Ok x) (Ok y) = ap (λ (l : List Interval). Ok l) (sym (append_assoc front x y))

pub behind-part : (step : List ℕ → Result (List Interval) GtidFault) (c : ℕ) (front : List Interval) (text : List ℕ)
    → put_before front (all_of step (parts_between c text)) ≡ (put_before front (step (cut c text).0) >>= λ x. put_before x (all_of step (parts_after c (cut c text).1)))
behind-part step c front text =
    ap (λ (parts : List (List ℕ)). put_before front (all_of step parts)) (parts_between-cut c text)
    ∙ behind-both front (step (cut c text).0) (all_of step (parts_after c (cut c text).1))

-- ---- a loop over parts

first_of : (c : ℕ) (text piece : List ℕ) (rest : Option (List ℕ)) → ◌≡◌ {A = List ℕ × Option (List ℕ)} (piece, rest) (cut c text) → ((cut c text).0 ≡ piece) × ((cut c text).1 ≡ rest)
first_of c text piece rest e = (ap (λ (p : List ℕ × Option (List ℕ)). p.0) (sym e), ap (λ (p : List ℕ × Option (List ℕ)). p.1) (sym e))

next_part : (step : List ℕ → Result (List Interval) GtidFault) (c : ℕ) (front new : List Interval) (text piece : List ℕ) (rest : Option (List ℕ)) (total : Result (List Interval) GtidFault)
    → ◌≡◌ {A = List ℕ × Option (List ℕ)} (piece, rest) (cut c text) → put_before front (step piece) ≡ Ok new → put_before front (all_of step (parts_between c text)) ≡ total → put_before new (all_of step (parts_after c rest)) ≡ total
next_part step c front new text piece rest total e read so_far =
    let p = first_of c text piece rest e in
    let one : put_before front (step (cut c text).0) ≡ Ok new = ap (λ (t : List ℕ). put_before front (step t)) p.0 ∙ read in
    ap (λ (o : Option (List ℕ)). put_before new (all_of step (parts_after c o))) (sym p.1)
    ∙ sym (behind-part step c front text ∙ ap (λ (r : Result (List Interval) GtidFault). r >>= λ x. put_before x (all_of step (parts_after c (cut c text).1))) one)
    ∙ so_far

bad_part : (step : List ℕ → Result (List Interval) GtidFault) (c : ℕ) (front : List Interval) (text piece : List ℕ) (rest : Option (List ℕ)) (total : Result (List Interval) GtidFault) (fault : GtidFault)
    → ◌≡◌ {A = List ℕ × Option (List ℕ)} (piece, rest) (cut c text) → put_before front (step piece) ≡ Err fault → put_before front (all_of step (parts_between c text)) ≡ total → total ≡ Err fault
bad_part step c front text piece rest total fault e refused so_far =
    let p = first_of c text piece rest e in
    let one : put_before front (step (cut c text).0) ≡ Err fault = ap (λ (t : List ℕ). put_before front (step t)) p.0 ∙ refused in
    sym so_far
    ∙ behind-part step c front text
    ∙ ap (λ (r : Result (List Interval) GtidFault). r >>= λ x. put_before x (all_of step (parts_after c (cut c text).1))) one

smaller_part : (c : ℕ) (text piece : List ℕ) (rest : Option (List ℕ)) → ◌≡◌ {A = List ℕ × Option (List ℕ)} (piece, rest) (cut c text) → size_left rest < length text + 1
smaller_part c text piece rest e = subst (λ (o : Option (List ℕ)). size_left o < length text + 1) (first_of c text piece rest e).1 (cut-smaller c text)

-- what is left where something is left
at_some : (step : List ℕ → Result (List Interval) GtidFault) (c : ℕ) (front : List Interval) (rest : Option (Bor (List ℕ))) (pieces : Bor (List ℕ)) (total : Result (List Interval) GtidFault)
    → rest ≡ Some pieces → put_before front (all_of step (parts_after c (option_map (λ (r : Bor (List ℕ)). r.now) rest))) ≡ total → put_before front (all_of step (parts_between c pieces.now)) ≡ total
at_some step c front rest pieces total e h = subst (λ (o : Option (Bor (List ℕ))). put_before front (all_of step (parts_after c (option_map (λ (r : Bor (List ℕ)). r.now) o))) ≡ total) e h

pub smaller_some : (c : ℕ) (rest rest' : Option (Bor (List ℕ))) (pieces : Bor (List ℕ)) (piece : List ℕ) → rest ≡ Some pieces
    → ◌≡◌ {A = List ℕ × Option (List ℕ)} (piece, option_map (λ (r : Bor (List ℕ)). r.now) rest') (cut c pieces.now)
    → size_left (option_map (λ (r : Bor (List ℕ)). r.now) rest') < size_left (option_map (λ (r : Bor (List ℕ)). r.now) rest)
smaller_some c rest rest' pieces piece e h =
    let k = smaller_part c pieces.now piece (option_map (λ (r : Bor (List ℕ)). r.now) rest') h in
    subst (λ (o : Option (Bor (List ℕ))). size_left (option_map (λ (r : Bor (List ℕ)). r.now) rest') < size_left (option_map (λ (r : Bor (List ℕ)). r.now) o)) (sym e) k

-- ---- what was read is kept

-- what is kept and what is left give what the whole gives
abbrev pub SoFar : Named → (List ℕ → Result (List Interval) GtidFault) → ℕ → Option (Bor (List ℕ)) → Result (List Interval) GtidFault → Type 0
SoFar named step c rest total =
    (front : List Interval) × Keeps named front × (put_before front (all_of step (parts_after c (option_map (λ (r : Bor (List ℕ)). r.now) rest))) ≡ total)

pub read_next : (step : List ℕ → Result (List Interval) GtidFault) (c : ℕ) (named new : Named) (rest rest' : Option (Bor (List ℕ))) (pieces : Bor (List ℕ)) (piece : List ℕ) (total : Result (List Interval) GtidFault)
    → rest ≡ Some pieces → ◌≡◌ {A = List ℕ × Option (List ℕ)} (piece, option_map (λ (r : Bor (List ℕ)). r.now) rest') (cut c pieces.now)
    → ((front : List Interval) → Keeps named front → (all : List Interval) × (put_before front (step piece) ≡ Ok all) × Keeps new all)
    → SoFar named step c rest total → SoFar new step c rest' total
read_next step c named new rest rest' pieces piece total is e read so_far =
    let one = read so_far.0 so_far.1 in
    (one.0, one.2, next_part step c so_far.0 one.0 pieces.now piece (option_map (λ (r : Bor (List ℕ)). r.now) rest') total e one.1 (at_some step c so_far.0 rest pieces total is so_far.2))

pub read_bad : (step : List ℕ → Result (List Interval) GtidFault) (c : ℕ) (named : Named) (rest rest' : Option (Bor (List ℕ))) (pieces : Bor (List ℕ)) (piece : List ℕ) (total : Result (List Interval) GtidFault) (fault : GtidFault)
    → rest ≡ Some pieces → ◌≡◌ {A = List ℕ × Option (List ℕ)} (piece, option_map (λ (r : Bor (List ℕ)). r.now) rest') (cut c pieces.now)
    → ((front : List Interval) → Keeps named front → put_before front (step piece) ≡ Err fault)
    → SoFar named step c rest total → total ≡ Err fault
read_bad step c named rest rest' pieces piece total fault is e refused so_far =
    bad_part step c so_far.0 pieces.now piece (option_map (λ (r : Bor (List ℕ)). r.now) rest') total fault e (refused so_far.0 so_far.1) (at_some step c so_far.0 rest pieces total is so_far.2)

pub read_all : (step : List ℕ → Result (List Interval) GtidFault) (c : ℕ) (named : Named) (rest : Option (Bor (List ℕ))) (total : Result (List Interval) GtidFault)
    → ((x : Bor (List ℕ)) → rest ≡ Some x → ⊥) → SoFar named step c rest total → (all : List Interval) × (total ≡ Ok all) × Keeps named all
read_all step c named None total none so_far = (so_far.0, sym so_far.2 ∙ behind-none so_far.0, so_far.1)
read_all step c named (Some x) total none so_far = absurd (none x refl)
