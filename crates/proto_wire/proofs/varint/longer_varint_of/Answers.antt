use Rattle.std.proofs.Common.{◌≡◌, ℕ, suc, ◌+◌, ◌-◌, ◌*◌, ◌^◌, ◌<◌, ◌≤◌, List, ◌∷◌, subst, arith}
use Rattle.std.proofs.lemmas.List.{nil_from_length}
use Rattle.proto_wire.proofs.VarintLoop.{Reads, starts, cut_short, last_byte, weight_fits, group_fits, another_byte, tenth_byte, tenth_above}
use Rattle.proto_wire.proofs.varint.longer_varint_of.Goals as goal

pub loop-init : goal.loop-init
loop-init c = starts c.args.bytes.now

pub returns-in_default : goal.returns-in_default
returns-in_default c =
    cut_short c.args.bytes.now c.loop.value c.loop.weight (9 - c.loop.counter) c.loop.rest.now c.loop.invariant (nil_from_length c.loop.rest.now c.in_default.ensures.cases)

-- the state at this turn, with the byte that was taken
state : (bytes rest after : List ℕ) (value weight counter b : ℕ) → Reads bytes value weight (9 - counter) rest → counter < 9 → rest ≡ b ∷ after → Reads bytes value weight (suc (9 - (counter + 1))) (b ∷ after)
state bytes rest after value weight counter b h lt e =
    let more : 9 - counter ≡ suc (9 - (counter + 1)) = omega arith in
    subst (λ (n : ℕ). Reads bytes value weight n (b ∷ after)) more (subst (λ (r : List ℕ). Reads bytes value weight (9 - counter) r) e h)

fits_below : (value weight b more : ℕ) → value < weight → b < 128 → weight * 128 ^ suc more ≡ 2 ^ 63 → value + b * weight < 2 ^ 64
fits_below value weight b more below lt left =
    let one = group_fits value weight b below lt in
    let two = weight_fits weight more left in
    omega arith

pub overflow_mul-result : goal.overflow_mul-result
overflow_mul-result c =
    let s = state c.args.bytes.now c.loop.rest.now c.in-Some.after.now c.loop.value c.loop.weight c.loop.counter c.in-Some.byte.now c.loop.invariant c.loop-test.true c.in-Some.ensures.cases.0 in
    let fits : c.loop.value + c.from-byte.result * c.loop.weight < 2 ^ 64 = fits_below c.loop.value c.loop.weight c.from-byte.result (9 - (c.loop.counter + 1)) s.below c.if-byte-lt128.true s.left in
    omega arith

pub overflow_add-result : goal.overflow_add-result
overflow_add-result c =
    let s = state c.args.bytes.now c.loop.rest.now c.in-Some.after.now c.loop.value c.loop.weight c.loop.counter c.in-Some.byte.now c.loop.invariant c.loop-test.true c.in-Some.ensures.cases.0 in
    let fits : c.loop.value + c.from-byte.result * c.loop.weight < 2 ^ 64 = fits_below c.loop.value c.loop.weight c.from-byte.result (9 - (c.loop.counter + 1)) s.below c.if-byte-lt128.true s.left in
    omega arith

pub returns-then-byte-lt128 : goal.returns-then-byte-lt128
returns-then-byte-lt128 c =
    let s = state c.args.bytes.now c.loop.rest.now c.in-Some.after.now c.loop.value c.loop.weight c.loop.counter c.in-Some.byte.now c.loop.invariant c.loop-test.true c.in-Some.ensures.cases.0 in
    rw c.from-byte.ensures (last_byte c.args.bytes.now c.loop.value c.loop.weight (9 - (c.loop.counter + 1)) c.in-Some.byte.now c.in-Some.after.now s (omega arith))

pub overflow_mul-value : goal.overflow_mul-value
overflow_mul-value c =
    let s = state c.args.bytes.now c.loop.rest.now c.in-Some.after.now c.loop.value c.loop.weight c.loop.counter c.in-Some.byte.now c.loop.invariant c.loop-test.true c.in-Some.ensures.cases.0 in
    let fits : c.loop.value + (c.from-byte.result - 128) * c.loop.weight < 2 ^ 64 = fits_below c.loop.value c.loop.weight (c.from-byte.result - 128) (9 - (c.loop.counter + 1)) s.below (omega arith) s.left in
    omega arith

pub overflow_add-value : goal.overflow_add-value
overflow_add-value c =
    let s = state c.args.bytes.now c.loop.rest.now c.in-Some.after.now c.loop.value c.loop.weight c.loop.counter c.in-Some.byte.now c.loop.invariant c.loop-test.true c.in-Some.ensures.cases.0 in
    let fits : c.loop.value + (c.from-byte.result - 128) * c.loop.weight < 2 ^ 64 = fits_below c.loop.value c.loop.weight (c.from-byte.result - 128) (9 - (c.loop.counter + 1)) s.below (omega arith) s.left in
    omega arith

pub overflow_mul-weight : goal.overflow_mul-weight
overflow_mul-weight c =
    let s = state c.args.bytes.now c.loop.rest.now c.in-Some.after.now c.loop.value c.loop.weight c.loop.counter c.in-Some.byte.now c.loop.invariant c.loop-test.true c.in-Some.ensures.cases.0 in
    let fits = weight_fits c.loop.weight (9 - (c.loop.counter + 1)) s.left in
    omega arith

pub loop-preserved : goal.loop-preserved
loop-preserved c =
    let s = state c.args.bytes.now c.loop.rest.now c.in-Some.after.now c.loop.value c.loop.weight c.loop.counter c.in-Some.byte.now c.loop.invariant c.loop-test.true c.in-Some.ensures.cases.0 in
    rw c.from-byte.ensures (another_byte c.args.bytes.now c.loop.value c.loop.weight (9 - (c.loop.counter + 1)) c.in-Some.byte.now c.in-Some.after.now s (omega arith) (omega arith))

-- the state after nine bytes
ninth : (bytes rest : List ℕ) (value weight counter : ℕ) → Reads bytes value weight (9 - counter) rest → counter ≡ 9 → Reads bytes value weight 0 rest
ninth bytes rest value weight counter h e =
    let none : 9 - counter ≡ 0 = omega arith in
    subst (λ (n : ℕ). Reads bytes value weight n rest) none h

tenth : (bytes rest after : List ℕ) (value weight counter b : ℕ) → Reads bytes value weight (9 - counter) rest → counter ≡ 9 → rest ≡ b ∷ after → Reads bytes value weight 0 (b ∷ after)
tenth bytes rest after value weight counter b h e cons =
    subst (λ (r : List ℕ). Reads bytes value weight 0 r) cons (ninth bytes rest value weight counter h e)

tenth_fits : (value weight b : ℕ) → value < weight → weight * 128 ^ 0 ≡ 2 ^ 63 → b ≤ 1 → value + b * weight < 2 ^ 64
tenth_fits value weight b below left le =
    let one : weight ≡ 2 ^ 63 = omega (arith, left) in
    grind (arith, one)

pub returns-in_default-split_first : goal.returns-in_default-split_first
returns-in_default-split_first c =
    cut_short c.args.bytes.now c.loop.value c.loop.weight (9 - c.loop.counter) c.loop.rest.now c.loop.invariant (nil_from_length c.loop.rest.now c.in_default-split_first.ensures.cases)

pub returns-then-tenth-gt1 : goal.returns-then-tenth-gt1
returns-then-tenth-gt1 c =
    let s = tenth c.args.bytes.now c.loop.rest.now c.in-Some-split_first.after.now c.loop.value c.loop.weight c.loop.counter c.in-Some-split_first.tenth.now c.loop.invariant (omega arith) c.in-Some-split_first.ensures.cases.0 in
    tenth_above c.args.bytes.now c.loop.value c.loop.weight c.in-Some-split_first.tenth.now c.in-Some-split_first.after.now s c.if-tenth-gt1.true

pub overflow_add-result-2 : goal.overflow_add-result-2
overflow_add-result-2 c =
    let s = ninth c.args.bytes.now c.loop.rest.now c.loop.value c.loop.weight c.loop.counter c.loop.invariant (omega arith) in
    let fits : c.loop.value + c.from.result * c.loop.weight < 2 ^ 64 = tenth_fits c.loop.value c.loop.weight c.from.result s.below s.left (omega arith) in
    omega arith

pub returns : goal.returns
returns c =
    let s = tenth c.args.bytes.now c.loop.rest.now c.in-Some-split_first.after.now c.loop.value c.loop.weight c.loop.counter c.in-Some-split_first.tenth.now c.loop.invariant (omega arith) c.in-Some-split_first.ensures.cases.0 in
    rw c.from.ensures (tenth_byte c.args.bytes.now c.loop.value c.loop.weight c.in-Some-split_first.tenth.now c.in-Some-split_first.after.now s (omega arith))
