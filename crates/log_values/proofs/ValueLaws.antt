-- One value: what each course of the tests leaves.
use Rattle.std.proofs.Common.{◌≡◌, ℕ, ◌<◌, ◌≤◌, true, false, ltb, List, ◌++◌, length, take, drop, Ok, Err, refl, sym, ap, ◌∙◌}
use Rattle.std.proofs.lemmas.Bool.{lt-ltb, le-ltb}
use Rattle.log_values.specs.declared.fault.ValueFault.TheVariants.{CutValue, OutOfRange}
use Rattle.log_values.specs.declared.kind.Kind.{Kind}
use Rattle.log_values.specs.Value.{value_size, fits, text, value_at, PutsValue}

pub value_cut : (kind : Kind) (labels : List (List ℕ)) (bytes : List ℕ) → length bytes < value_size kind bytes → value_at kind labels bytes ≡ Err CutValue
unfolding value_at
value_cut kind labels bytes less = let test : ltb (length bytes) (value_size kind bytes) ≡ true = lt-ltb _ _ less in rw test refl

pub value_out : (kind : Kind) (labels : List (List ℕ)) (bytes value : List ℕ) → value_size kind bytes ≤ length bytes → value ≡ take (value_size kind bytes) bytes → fits kind labels value ≡ false → value_at kind labels bytes ≡ Err OutOfRange
unfolding value_at
value_out kind labels bytes value le is no_fit =
    let test : ltb (length bytes) (value_size kind bytes) ≡ false = le-ltb _ _ le in
    let range : fits kind labels (take (value_size kind bytes) bytes) ≡ false = ap (fits kind labels) (sym is) ∙ no_fit in
    rw (test, range) refl

pub value_there : (kind : Kind) (labels : List (List ℕ)) (bytes value rest old new : List ℕ) → value_size kind bytes ≤ length bytes → value ≡ take (value_size kind bytes) bytes → rest ≡ drop (value_size kind bytes) bytes
    → fits kind labels value ≡ true → new ≡ old ++ text kind labels value → PutsValue (value_at kind labels bytes) old new (Ok rest)
unfolding value_at
value_there kind labels bytes value rest old new le is behind fit written =
    let test : ltb (length bytes) (value_size kind bytes) ≡ false = le-ltb _ _ le in
    let range : fits kind labels (take (value_size kind bytes) bytes) ≡ true = ap (fits kind labels) (sym is) ∙ fit in
    (text kind labels value, (let front : Ok (text kind labels (take (value_size kind bytes) bytes), drop (value_size kind bytes) bytes) ≡ Ok (text kind labels value, rest) = rw (is, behind) refl in rw (test, range) front), written)
