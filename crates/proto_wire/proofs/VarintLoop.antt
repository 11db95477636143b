-- Reading one varint, byte after byte.
use Rattle.std.proofs.Common.{◌≡◌, ℕ, zero, suc, ◌+◌, ◌-◌, ◌*◌, ◌^◌, ◌<◌, ◌≤◌, true, false, ltb, List, [], ◌∷◌, Result, Ok, Err, refl, sym, ap, ◌∙◌, arith}
use Rattle.std.proofs.lemmas.Bool.{lt-ltb, le-ltb}
use Rattle.std.proofs.Math.Nat.{pow-suc, one-le-pow, mul-le-mul_left}
use Rattle.proto_wire.specs.declared.fault.WireFault.{WireFault}
use Rattle.proto_wire.specs.declared.fault.WireFault.TheVariants.{Truncated, VarintTooLong}
use Rattle.list_laws.specs.Outcome.{◌>>=◌}
use Rattle.proto_wire.specs.Varint.{varint_within, varint_at}

abbrev pub Read : Type 0
Read = Result (ℕ × List ℕ) WireFault

-- what is read, times a weight and on top of a value
abbrev pub shifted : ℕ → ℕ → Read → Read
shifted value weight read = read >>= λ x. Ok (value + x.0 * weight, x.1)

-- Some bytes are read, and at most one byte and then `more` others are to come: the value of what is
-- read is below the weight of the next group.
pub record Reads (bytes : List ℕ) (value weight more : ℕ) (rest : List ℕ) : Type 0 where
  pub left : weight * 128 ^ more ≡ 2 ^ 63
  pub below : value < weight
  pub read : shifted value weight (varint_within more rest) ≡ varint_at bytes

shifted-by_one : (r : Read) → shifted 0 1 r ≡ r
shifted-by_one (Ok x) = let e : 0 + x.0 * 1 ≡ x.0 = omega arith in ap (λ (n : ℕ). Ok (n, x.1)) e
shifted-by_one (Err f) = refl

pub starts : (bytes : List ℕ) → Reads bytes 0 1 9 bytes
unfolding varint_at
starts bytes = record { left = refl; below = omega arith; read = shifted-by_one (varint_within 9 bytes) }

within-none : (more : ℕ) → varint_within more [] ≡ Err Truncated
unfolding varint_within
within-none zero = refl
within-none (suc more) = refl

pub cut_short : (bytes : List ℕ) (value weight more : ℕ) (rest : List ℕ) → Reads bytes value weight more rest → rest ≡ [] → varint_at bytes ≡ Err Truncated
cut_short bytes value weight more rest h e =
    let none : varint_within more rest ≡ Err Truncated = rw e (within-none more) in
    sym h.read ∙ ap (shifted value weight) none

pub last_byte : (bytes : List ℕ) (value weight more b : ℕ) (after : List ℕ) → Reads bytes value weight (suc more) (b ∷ after) → b < 128 → varint_at bytes ≡ Ok (value + b * weight, after)
unfolding varint_within
last_byte bytes value weight more b after h lt =
    let test : ltb b 128 ≡ true = lt-ltb b 128 lt in
    let one : varint_within (suc more) (b ∷ after) ≡ Ok (b, after) = rw test refl in
    sym h.read ∙ ap (shifted value weight) one

-- the weight of a group below the tenth
pub weight_fits : (weight more : ℕ) → weight * 128 ^ suc more ≡ 2 ^ 63 → weight * 128 ≤ 2 ^ 63
weight_fits weight more e =
    let power : 128 ^ suc more ≡ 128 ^ more * 128 = pow-suc 128 more in
    let whole : weight * (128 ^ more * 128) ≡ 2 ^ 63 = ap (λ (n : ℕ). weight * n) (sym power) ∙ e in
    let grows : weight * 1 ≤ weight * 128 ^ more = mul-le-mul_left weight (one-le-pow more 128 (omega arith)) in
    grind arith

pub group_fits : (value weight b : ℕ) → value < weight → b < 128 → value + b * weight < weight * 128
group_fits value weight b below lt = grind arith

shifted-again : (value weight low : ℕ) (r : Read) → shifted (value + low * weight) (weight * 128) r ≡ shifted value weight (r >>= λ high. Ok (low + 128 * high.0, high.1))
shifted-again value weight low (Ok x) =
    let e : value + low * weight + x.0 * (weight * 128) ≡ value + (low + 128 * x.0) * weight = omega arith in
    ap (λ (n : ℕ). Ok (n, x.1)) e
shifted-again value weight low (Err f) = refl

pub another_byte : (bytes : List ℕ) (value weight more b : ℕ) (after : List ℕ) → Reads bytes value weight (suc more) (b ∷ after) → 128 ≤ b → b < 256 → Reads bytes (value + (b - 128) * weight) (weight * 128) more after
unfolding varint_within
another_byte bytes value weight more b after h le lt =
    let test : ltb b 128 ≡ false = le-ltb b 128 le in
    let one : varint_within (suc more) (b ∷ after) ≡ (varint_within more after >>= λ high. Ok (b - 128 + 128 * high.0, high.1)) = rw test refl in
    record {
      left = let power : 128 ^ suc more ≡ 128 ^ more * 128 = pow-suc 128 more in
          let whole : weight * (128 ^ more * 128) ≡ 2 ^ 63 = ap (λ (n : ℕ). weight * n) (sym power) ∙ h.left in omega arith;
      below = group_fits value weight (b - 128) h.below (omega arith);
      read = shifted-again value weight (b - 128) (varint_within more after) ∙ ap (shifted value weight) (sym one) ∙ h.read;
    }

pub tenth_byte : (bytes : List ℕ) (value weight b : ℕ) (after : List ℕ) → Reads bytes value weight 0 (b ∷ after) → b ≤ 1 → varint_at bytes ≡ Ok (value + b * weight, after)
unfolding varint_within
tenth_byte bytes value weight b after h le =
    let test : ltb b 2 ≡ true = lt-ltb b 2 (omega arith) in
    let one : varint_within 0 (b ∷ after) ≡ Ok (b, after) = rw test refl in
    sym h.read ∙ ap (shifted value weight) one

pub tenth_above : (bytes : List ℕ) (value weight b : ℕ) (after : List ℕ) → Reads bytes value weight 0 (b ∷ after) → 1 < b → varint_at bytes ≡ Err VarintTooLong
unfolding varint_within
tenth_above bytes value weight b after h lt =
    let test : ltb b 2 ≡ false = le-ltb b 2 lt in
    let one : varint_within 0 (b ∷ after) ≡ Err VarintTooLong = rw test refl in
    sym h.read ∙ ap (shifted value weight) one
