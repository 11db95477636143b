-- Bytes of words, marks and blanks are apart from each other and from quotes.
use Rattle.std.proofs.Common.{ne_eqb, ◌≡◌, ℕ, ◌<◌, ◌≤◌, Bool, true, false, refl, arith}
use Rattle.std.specs.Prelude.{◌==◌, ◌||◌, nat_le}
use Rattle.std.specs.Char.{is_ascii_alphanumeric}
use Rattle.std.specs.Int.{is_in_range}
use Rattle.std.proofs.lemmas.Bool.Decides.{nat_tests}
use Rattle.std.proofs.lemmas.Bool.{and_parts}
use Rattle.filter_text.specs.Lexemes.{is_blank, is_word_byte, is_mark}

pub or_true : {P : Type 0} (a b : Bool) → (a || b) ≡ true → (a ≡ true → P) → (b ≡ true → P) → P
or_true true b h left right = left refl
or_true false b h left right = right h

pub same_byte : (b n : ℕ) → (b == n) ≡ true → b ≡ n
same_byte b n h = grind (arith, nat_tests)

pub other_byte : (b n : ℕ) → (b ≡ n → ⊥) → (b == n) ≡ false
other_byte b n h = ne_eqb b n h

at_least : (m n : ℕ) → nat_le m n ≡ true → m ≤ n
at_least m n h = grind (arith, nat_tests)

-- a mark is no quote, no backquote and no blank
pub record IsMarkByte (m : ℕ) : Type 0 where
  pub no_backquote : (m == 96) ≡ false
  pub no_quote : (m == 39) ≡ false
  pub no_blank : is_blank m ≡ false

one_mark : (m n : ℕ) → (m == n) ≡ true → IsMarkByte n → IsMarkByte m
one_mark m n h at_n = rw (same_byte m n h) at_n

pub mark_apart : (m : ℕ) → is_mark m ≡ true → IsMarkByte m
mark_apart m h =
    or_true (m == 42 || m == 40) (m == 41 || m == 44) h
    (λ a. or_true (m == 42) (m == 40) a (λ e. one_mark m 42 e (record { no_backquote = refl; no_quote = refl; no_blank = refl })) (λ e. one_mark m 40 e (record { no_backquote = refl; no_quote = refl; no_blank = refl })))
    (λ a. or_true (m == 41) (m == 44) a (λ e. one_mark m 41 e (record { no_backquote = refl; no_quote = refl; no_blank = refl })) (λ e. one_mark m 44 e (record { no_backquote = refl; no_quote = refl; no_blank = refl })))

pub record IsWordByte (b : ℕ) : Type 0 where
  pub no_backquote : (b == 96) ≡ false
  pub no_quote : (b == 39) ≡ false
  pub no_mark : is_mark b ≡ false
  pub no_blank : is_blank b ≡ false

none_of : (a b c d : Bool) → a ≡ false → b ≡ false → c ≡ false → d ≡ false → ((a || b) || (c || d)) ≡ false
none_of a b c d e f g h = rw (e, f, g, h)

-- a byte that is none of these
word_if : (b : ℕ) → (b ≡ 96 → ⊥) → (b ≡ 39 → ⊥) → (b ≡ 42 → ⊥) → (b ≡ 40 → ⊥) → (b ≡ 41 → ⊥) → (b ≡ 44 → ⊥) → (b ≡ 32 → ⊥) → (b ≡ 9 → ⊥) → (b ≡ 13 → ⊥) → (b ≡ 10 → ⊥) → IsWordByte b
word_if b a c d e f g h i j k = record {
  no_backquote = other_byte b 96 a;
  no_quote = other_byte b 39 c;
  no_mark = none_of (b == 42) (b == 40) (b == 41) (b == 44) (other_byte b 42 d) (other_byte b 40 e) (other_byte b 41 f) (other_byte b 44 g);
  no_blank = none_of (b == 32) (b == 9) (b == 13) (b == 10) (other_byte b 32 h) (other_byte b 9 i) (other_byte b 13 j) (other_byte b 10 k);
}

between : (low high b : ℕ) → is_in_range low high b ≡ true → (low ≤ b) × (b ≤ high)
between low high b h = let parts = and_parts (nat_le low b) (nat_le b high) h in (at_least low b parts.0, at_least b high parts.1)

digit_byte : (b : ℕ) → (48 ≤ b) × (b ≤ 57) → IsWordByte b
digit_byte b h = word_if b (λ e. omega arith) (λ e. omega arith) (λ e. omega arith) (λ e. omega arith) (λ e. omega arith) (λ e. omega arith) (λ e. omega arith) (λ e. omega arith) (λ e. omega arith) (λ e. omega arith)

upper_byte : (b : ℕ) → (65 ≤ b) × (b ≤ 90) → IsWordByte b
upper_byte b h = word_if b (λ e. omega arith) (λ e. omega arith) (λ e. omega arith) (λ e. omega arith) (λ e. omega arith) (λ e. omega arith) (λ e. omega arith) (λ e. omega arith) (λ e. omega arith) (λ e. omega arith)

lower_byte : (b : ℕ) → (97 ≤ b) × (b ≤ 122) → IsWordByte b
lower_byte b h = word_if b (λ e. omega arith) (λ e. omega arith) (λ e. omega arith) (λ e. omega arith) (λ e. omega arith) (λ e. omega arith) (λ e. omega arith) (λ e. omega arith) (λ e. omega arith) (λ e. omega arith)

one_word : (m n : ℕ) → (m == n) ≡ true → IsWordByte n → IsWordByte m
one_word m n h at_n = rw (same_byte m n h) at_n

pub word_apart : (b : ℕ) → is_word_byte b ≡ true → IsWordByte b
word_apart b h =
    or_true (is_ascii_alphanumeric b) (b == 95 || b == 36) h
    (λ a. or_true (is_in_range 48 57 b || is_in_range 65 90 b) (is_in_range 97 122 b) a
    (λ d. or_true (is_in_range 48 57 b) (is_in_range 65 90 b) d (λ e. digit_byte b (between 48 57 b e)) (λ e. upper_byte b (between 65 90 b e)))
    (λ e. lower_byte b (between 97 122 b e)))
    (λ a. or_true (b == 95) (b == 36) a
    (λ e. one_word b 95 e (record { no_backquote = refl; no_quote = refl; no_mark = refl; no_blank = refl }))
    (λ e. one_word b 36 e (record { no_backquote = refl; no_quote = refl; no_mark = refl; no_blank = refl })))

-- ---- they are ASCII

either_ascii : (a b : Bool) (n : ℕ) → (a || b) ≡ true → (a ≡ true → n < 128) → (b ≡ true → n < 128) → n < 128
either_ascii a b n h left right = or_true a b h left right

one_ascii : (b n : ℕ) → n < 128 → (b == n) ≡ true → b < 128
one_ascii b n small h = let e = same_byte b n h in omega arith

pub blank_ascii : (b : ℕ) → is_blank b ≡ true → b < 128
blank_ascii b h =
    either_ascii (b == 32 || b == 9) (b == 13 || b == 10) b h
    (λ a. either_ascii (b == 32) (b == 9) b a (one_ascii b 32 (omega arith)) (one_ascii b 9 (omega arith)))
    (λ a. either_ascii (b == 13) (b == 10) b a (one_ascii b 13 (omega arith)) (one_ascii b 10 (omega arith)))

below_high : (low high b : ℕ) → high < 128 → is_in_range low high b ≡ true → b < 128
below_high low high b small h = let parts = between low high b h in let top : b ≤ high = parts.1 in omega arith

pub word_ascii : (b : ℕ) → is_word_byte b ≡ true → b < 128
word_ascii b h =
    either_ascii (is_ascii_alphanumeric b) (b == 95 || b == 36) b h
    (λ a. either_ascii (is_in_range 48 57 b || is_in_range 65 90 b) (is_in_range 97 122 b) b a
    (λ d. either_ascii (is_in_range 48 57 b) (is_in_range 65 90 b) b d (below_high 48 57 b (omega arith)) (below_high 65 90 b (omega arith)))
    (below_high 97 122 b (omega arith)))
    (λ a. either_ascii (b == 95) (b == 36) b a (one_ascii b 95 (omega arith)) (one_ascii b 36 (omega arith)))
