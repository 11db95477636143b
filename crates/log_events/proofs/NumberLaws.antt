-- Numbers by their parts, and in a front of the bytes.
use Rattle.std.proofs.Common.{◌≡◌, ℕ, zero, suc, ◌+◌, ◌-◌, ◌*◌, ◌^◌, ◌≤◌, List, [], ◌∷◌, ◌++◌, length, take, drop, length-drop, refl, ap, ◌∙◌, arith}
use Rattle.std.proofs.Math.Nat.{pow-suc}
use Rattle.std.proofs.lemmas.List.{drop-take, take-take, drop-append-le, take-append-le}
use Rattle.log_events.specs.Number.{little, number}

take_none : (n : ℕ) → ◌≡◌ {A = List ℕ} (take n []) []
take_none zero = refl
take_none (suc n) = refl

-- a number is its low bytes and its high ones
pub little_parts : (a b n : ℕ) (bytes : List ℕ) → n ≡ a + b → little (take n bytes) ≡ little (take a bytes) + 256 ^ a * little (take b (drop a bytes))
unfolding little
little_parts zero b n bytes e =
    let same : n ≡ b = omega arith in
    rw same (omega arith)
little_parts (suc a) b zero bytes e = absurd (omega arith)
little_parts (suc a) b (suc n) [] e = rw (take_none b) (omega arith)
little_parts (suc a) b (suc n) (x ∷ bytes) e =
    let rest = little_parts a b n bytes (omega arith) in
    let power : 256 ^ suc a ≡ 256 ^ a * 256 = pow-suc 256 a in
    rw (power, rest) (omega arith)

-- a number of a front of the bytes
pub number-take : (place size n : ℕ) (bytes : List ℕ) → place + size ≤ n → number place size (take n bytes) ≡ number place size bytes
number-take place size n bytes h =
    let split : n ≡ place + (n - place) = omega arith in
    let behind : drop place (take n bytes) ≡ take (n - place) (drop place bytes) = ap (λ (k : ℕ). drop place (take k bytes)) split ∙ drop-take place (n - place) bytes in
    ap (λ (xs : List ℕ). little (take size xs)) behind ∙ ap little (take-take size (n - place) (drop place bytes) (omega arith))

pub number-front : (place size : ℕ) (front rest : List ℕ) → place + size ≤ length front → number place size (front ++ rest) ≡ number place size front
number-front place size front rest h =
    let behind : drop place (front ++ rest) ≡ drop place front ++ rest = drop-append-le place front rest (omega arith) in
    ap (λ (xs : List ℕ). little (take size xs)) behind ∙ ap little (take-append-le size (drop place front) rest (omega (arith, length-drop place front)))

-- a number that is read in two parts
pub parts_are : (a b n : ℕ) (bytes rest : List ℕ) (low high weight : ℕ) → n ≡ a + b → weight ≡ 256 ^ a → rest ≡ drop a bytes → low ≡ number 0 a bytes → high ≡ number 0 b rest
    → low + high * weight ≡ number 0 n bytes
parts_are a b n bytes rest low high weight e w r l h =
    let parts : number 0 n bytes ≡ number 0 a bytes + 256 ^ a * number 0 b (drop a bytes) = little_parts a b n bytes e in
    let high_is : high ≡ number 0 b (drop a bytes) = h ∙ ap (number 0 b) r in
    rw (parts, ← l, ← high_is, ← w) (omega arith)
