-- A uuid's number by halves: digits behind a number weigh it by their count.
use Rattle.std.proofs.Common.{◌≡◌, ℕ, ◌+◌, ◌*◌, ◌^◌, refl, sym, ◌∙◌, ap, arith, true, List, [], ◌∷◌, length, take, drop, Option, Some, None}
use Rattle.std.specs.Option.{option_and_then, option_map}
use Rattle.std.proofs.lemmas.Grind.{pow_more}
use Rattle.gtid_set.specs.Digits.{hex_digit_of, number_behind, is_hyphenated, uuid_of}

abbrev behind : ℕ → List ℕ → Option ℕ
behind front text = number_behind hex_digit_of 16 front text

power_more : (h : ℕ) (text : List ℕ) (b : ℕ) → h * 16 * 16 ^ length text ≡ h * 16 ^ length (b ∷ text)
power_more h text b =
    let k : length (b ∷ text) ≡ length text + 1 = omega arith in
    let e : 16 ^ length (b ∷ text) ≡ 16 ^ length text * 16 = ap (λ (k : ℕ). 16 ^ k) k ∙ pow_more 16 (length text) in
    rw e (omega arith)

-- a number in front adds its weight
pub behind-weight : (h f : ℕ) (text : List ℕ) → behind (h + f) text ≡ option_map (λ n. h * 16 ^ length text + n) (behind f text)
behind-weight h f [] = ap Some (omega arith)
behind-weight h f (b ∷ text) = by_digit (hex_digit_of b) refl (λ d.
    let parts : (h + f) * 16 + d ≡ h * 16 + (f * 16 + d) = omega arith in
    ap (λ v. behind v text) parts ∙ behind-weight (h * 16) (f * 16 + d) text
    ∙ ap (λ w. option_map (λ n. w + n) (behind (f * 16 + d) text)) (power_more h text b))
  where
    by_digit : (o : Option ℕ) → hex_digit_of b ≡ o → ((d : ℕ) → behind ((h + f) * 16 + d) text ≡ option_map (λ n. h * 16 ^ length (b ∷ text) + n) (behind (f * 16 + d) text))
        → option_and_then (λ d. behind ((h + f) * 16 + d) text) (hex_digit_of b) ≡ option_map (λ n. h * 16 ^ length (b ∷ text) + n) (option_and_then (λ d. behind (f * 16 + d) text) (hex_digit_of b))
    by_digit None e rest = rw e refl
    by_digit (Some d) e rest = rw e (rest d)

pub with_front : (h : ℕ) (text : List ℕ) (o : Option ℕ) → behind 0 text ≡ o → behind h text ≡ option_map (λ n. h * 16 ^ length text + n) o
with_front h text o e =
    let plain : h ≡ h + 0 = omega arith in
    ap (λ v. behind v text) plain ∙ behind-weight h 0 text ∙ ap (option_map (λ n. h * 16 ^ length text + n)) e

-- the digits of the lower half
abbrev low_half : ℕ → List ℕ → List ℕ → Option ℕ
low_half front clock node = option_and_then (λ c. behind c node) (behind front clock)

pub no-clock : (high : ℕ) (clock node : List ℕ) → None ≡ behind 0 clock → None ≡ low_half high clock node
no-clock high clock node e = rw (with_front high clock None (sym e)) refl

pub no-node : (high c : ℕ) (clock node : List ℕ) → Some c ≡ behind 0 clock → None ≡ behind c node → None ≡ low_half high clock node
no-node high c clock node e none =
    let first = with_front high clock (Some c) (sym e) in
    let second = behind-weight (high * 16 ^ length clock) c node ∙ ap (option_map (λ n. high * 16 ^ length clock * 16 ^ length node + n)) (sym none) in
    rw (first, second) refl

pub both-halves : (high c low : ℕ) (clock node : List ℕ) → length clock ≡ 4 → length node ≡ 12 → Some c ≡ behind 0 clock → Some low ≡ behind c node → Some (high * 2 ^ 64 + low) ≡ low_half high clock node
both-halves high c low clock node four twelve e some =
    let first = with_front high clock (Some c) (sym e) in
    let second = behind-weight (high * 16 ^ length clock) c node ∙ ap (option_map (λ n. high * 16 ^ length clock * 16 ^ length node + n)) (sym some) in
    rw (first, second, four, twelve) (ap Some (omega arith))

-- a uuid's number behind its upper half
pub uuid_of-high : (text : List ℕ) (low mid high : ℕ) → is_hyphenated text ≡ true → Some low ≡ behind 0 (take 8 text) → Some mid ≡ behind low (take 4 (drop 9 text)) → Some high ≡ behind mid (take 4 (drop 14 text))
    → low_half high (take 4 (drop 19 text)) (take 12 (drop 24 text)) ≡ uuid_of text
unfolding uuid_of
uuid_of-high text low mid high hyphens a b c = rw (hyphens, ← a, ← b, ← c) refl
