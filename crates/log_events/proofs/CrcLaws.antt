-- The check over bytes one after another, and that of an event.
use Rattle.std.proofs.Common.{◌≡◌, ◌≢◌, ℕ, ◌+◌, ◌-◌, ◌<◌, ◌≤◌, ◌%◌, ◌/◌, ◌^◌, List, [], ◌∷◌, ◌++◌, length, get_or, take, drop, eqb, true, false, refl, sym, ap, ap₂, ◌∙◌, arith}
use Rattle.std.specs.Prelude.{bit_xor}
use Rattle.std.proofs.lemmas.Bool.{eq-eqb, ne_eqb}
use Rattle.std.proofs.lemmas.List.{take_all, drop_all, append-nil, drop_more, take-append-drop}
use Rattle.log_events.specs.Number.{number}
use Rattle.log_events.specs.Crc.{crc_ahead, crc_byte, crc_from, crc32}
use Rattle.log_events.specs.Event.{without_first, settled}
use Rattle.log_events.proofs.CrcAhead.{eight_ahead}

-- a remainder over two parts
pub crc_from-append : (c : ℕ) (xs ys : List ℕ) → crc_from c (xs ++ ys) ≡ crc_from (crc_from c xs) ys
unfolding crc_from
crc_from-append c [] ys = refl
crc_from-append c (x ∷ xs) ys = crc_from-append (crc_byte c x) xs ys

-- over no bytes, and one byte on
pub crc_from-none : (c : ℕ) → crc_from c [] ≡ c
unfolding crc_from
crc_from-none c = refl

pub crc_from-first : (c b : ℕ) (bytes : List ℕ) → crc_from c (b ∷ bytes) ≡ crc_from (crc_byte c b) bytes
unfolding crc_from
crc_from-first c b bytes = refl

-- over bytes that are cut in two
pub crc_from-cut : (c n : ℕ) (bytes front back : List ℕ) → front ≡ take n bytes → back ≡ drop n bytes → crc_from (crc_from c front) back ≡ crc_from c bytes
crc_from-cut c n bytes front back left right =
    sym (crc_from-append c front back) ∙ ap (crc_from c) (ap₂ (λ (xs ys : List ℕ). xs ++ ys) left right ∙ take-append-drop n bytes)

eight_of : (bytes : List ℕ) → length bytes ≡ 8
    → bytes ≡ get_or bytes 0 0 ∷ get_or bytes 1 0 ∷ get_or bytes 2 0 ∷ get_or bytes 3 0 ∷ get_or bytes 4 0 ∷ get_or bytes 5 0 ∷ get_or bytes 6 0 ∷ get_or bytes 7 0 ∷ []
eight_of bytes long =
    let more : (i : ℕ) → i < 8 → drop i bytes ≡ get_or bytes i 0 ∷ drop (i + 1) bytes = λ i less. drop_more bytes i 0 (omega (arith, long)) in
    let none : drop 8 bytes ≡ [] = drop_all 8 bytes (omega (arith, long)) in
    let first : (i : ℕ) → List ℕ → List ℕ = λ i rest. get_or bytes i 0 ∷ rest in
    more 0 (omega arith) ∙ ap (first 0) (more 1 (omega arith) ∙ ap (first 1) (more 2 (omega arith) ∙ ap (first 2) (more 3 (omega arith) ∙ ap (first 3) (more 4 (omega arith)
    ∙ ap (first 4) (more 5 (omega arith) ∙ ap (first 5) (more 6 (omega arith) ∙ ap (first 6) (more 7 (omega arith) ∙ ap (first 7) none)))))))

-- eight bytes by the table
pub eight_told : (s : ℕ) (bytes : List ℕ) (a b c d e f g h : ℕ) → s < 2 ^ 32 → length bytes ≡ 8 → ((i : ℕ) → get_or bytes i 0 < 256)
    → a ≡ get_or bytes 0 0 → b ≡ get_or bytes 1 0 → c ≡ get_or bytes 2 0 → d ≡ get_or bytes 3 0 → e ≡ get_or bytes 4 0 → f ≡ get_or bytes 5 0 → g ≡ get_or bytes 6 0 → h ≡ get_or bytes 7 0
    → bit_xor (crc_ahead 4 (crc_from 0 (bit_xor s a % 256 ∷ bit_xor (s / 256) b % 256 ∷ bit_xor (s / 256 / 256) c % 256 ∷ bit_xor (s / 256 / 256 / 256) d % 256 ∷ [])))
    (crc_ahead 0 (crc_from 0 (e ∷ f ∷ g ∷ h ∷ []))) ≡ crc_from s bytes
eight_told s bytes a b c d e f g h less long each a_is b_is c_is d_is e_is f_is g_is h_is =
    rw (a_is, b_is, c_is, d_is, e_is, f_is, g_is, h_is)
    (eight_ahead s _ _ _ _ _ _ _ _ less (each 0) (each 1) (each 2) (each 3) (each 4) (each 5) (each 6) (each 7) ∙ ap (crc_from s) (sym (eight_of bytes long)))

-- a byte by the table
pub by_table : (x c b : ℕ) → x ≡ crc_ahead 1 (bit_xor c b % 256) → bit_xor x (c / 256) ≡ crc_byte c b
unfolding crc_ahead crc_byte
by_table x c b e = ap (λ (n : ℕ). bit_xor n (c / 256)) e

-- one turn of the loop over bytes
pub crc_turn : (bytes : List ℕ) (i c b : ℕ) → i < length bytes → b ≡ get_or bytes i 0 → crc_from c (drop i bytes) ≡ crc_from (crc_byte c b) (drop (i + 1) bytes)
crc_turn bytes i c b less is =
    let parts : drop i bytes ≡ b ∷ drop (i + 1) bytes = drop_more bytes i 0 less ∙ ap (λ (x : ℕ). x ∷ drop (i + 1) bytes) (sym is) in
    ap (crc_from c) parts ∙ crc_from-first c b (drop (i + 1) bytes)

-- ---- the check of an event

pub settled-other : (bytes : List ℕ) → number 4 1 bytes ≢ 15 → settled bytes ≡ bytes
unfolding settled
settled-other bytes ne = let test : eqb (number 4 1 bytes) 15 ≡ false = ne_eqb _ _ ne in rw test refl

settled-is : (bytes : List ℕ) → number 4 1 bytes ≡ 15 → settled bytes ≡ take 17 bytes ++ without_first (drop 17 bytes)
unfolding settled
settled-is bytes e = let test : eqb (number 4 1 bytes) 15 ≡ true = eq-eqb _ _ e in rw test refl

pub settled-short : (bytes : List ℕ) → number 4 1 bytes ≡ 15 → length bytes ≤ 17 → settled bytes ≡ bytes
settled-short bytes e short = settled-is bytes e ∙ rw (take_all 17 bytes short, drop_all 17 bytes short) (append-nil bytes)

pub checked_in_parts : (bytes others : List ℕ) (flags ones head_sum flags_sum last : ℕ) → ones ≡ 0xffffffff → number 4 1 bytes ≡ 15 → drop 17 bytes ≡ flags ∷ others → head_sum ≡ crc_from ones (take 17 bytes)
    → flags_sum ≡ crc_from head_sum ((flags - flags % 2) ∷ []) → last ≡ crc_from flags_sum others → bit_xor last ones ≡ crc32 (settled bytes)
unfolding crc32
checked_in_parts bytes others flags ones head_sum flags_sum last all e parts head_is flags_is last_is =
    let low = flags - flags % 2 in
    let whole : settled bytes ≡ take 17 bytes ++ low ∷ others = settled-is bytes e ∙ ap (λ (xs : List ℕ). take 17 bytes ++ without_first xs) parts in
    let front : crc_from ones (take 17 bytes ++ low ∷ others) ≡ crc_from (crc_from ones (take 17 bytes)) (low ∷ others) = crc_from-append ones (take 17 bytes) (low ∷ others) in
    let middle : crc_from (crc_from ones (take 17 bytes)) (low ∷ others) ≡ crc_from (crc_from (crc_from ones (take 17 bytes)) (low ∷ [])) others = crc_from-append (crc_from ones (take 17 bytes)) (low ∷ []) others in
    let sums : last ≡ crc_from ones (settled bytes) = last_is ∙ ap (λ (c : ℕ). crc_from c others) (flags_is ∙ ap (λ (c : ℕ). crc_from c (low ∷ [])) head_is) ∙ sym middle ∙ sym front ∙ ap (crc_from ones) (sym whole) in
    rw (sums, all) refl
