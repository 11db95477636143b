-- The tokens of a text by the token that it begins with.
use Rattle.std.proofs.Common.{ne_eqb, ◌≡◌, ℕ, ◌<◌, suc, List, [], ◌∷◌, ◌++◌, length, get_or, true, false, Option, Some, None, option_map, option_and_then, refl, ap, ◌∙◌, arith}
use Rattle.std.specs.Prelude.{not, ◌≢◌, ◌==◌}
use Rattle.std.specs.Borrow.{Bor}
use Rattle.std.specs.List.{list_all}
use Rattle.filter_text.specs.Lexemes.{Lexeme, word, name, quoted, mark, is_blank, is_word_byte, is_mark}
use Rattle.filter_text.specs.Tokens.{tokens_of, until, with_token, with_byte, as_name, as_quoted, with_first_byte, nothing_first, begins_in_word}
use Rattle.std.proofs.lemmas.Str.Pattern.{IsSplitOnceResult, split_parts}
use Rattle.std.proofs.lemmas.Bool.Decides.{nat_tests}
use Rattle.std.proofs.lemmas.Bool.{not-true}
use Rattle.filter_text.specs.Private.Cutting.{behind, IsUntil}
use Rattle.filter_text.proofs.ByteLaws.{mark_apart, word_apart}
use Rattle.filter_text.proofs.SpanLaws.{all_parts}

-- ---- by the first byte

pub blank_first : (b : ℕ) (rest : List ℕ) → is_blank b ≡ true → tokens_of (b ∷ rest) ≡ tokens_of rest
unfolding tokens_of
blank_first b rest h = rw h

pub mark_first : (m : ℕ) (rest : List ℕ) → is_mark m ≡ true → tokens_of (m ∷ rest) ≡ with_token (mark m) (tokens_of rest)
unfolding tokens_of
mark_first m rest h = rw ((mark_apart m h).no_blank, h)

pub byte_first : (b : ℕ) (rest : List ℕ) → is_word_byte b ≡ true → tokens_of (b ∷ rest) ≡ option_map (with_byte b (begins_in_word rest)) (tokens_of rest)
unfolding tokens_of
byte_first b rest h = let apart = word_apart b h in rw (apart.no_blank, apart.no_mark, h)

pub name_first : (rest : List ℕ) → tokens_of (96 ∷ rest) ≡ option_and_then as_name (until 96 rest)
unfolding tokens_of
name_first rest = refl

pub quoted_first : (rest : List ℕ) → tokens_of (39 ∷ rest) ≡ option_map as_quoted (until 39 rest)
unfolding tokens_of
quoted_first rest = refl

pub other_first : (b : ℕ) (rest : List ℕ) → is_blank b ≡ false → is_mark b ≡ false → is_word_byte b ≡ false → (b == 96) ≡ false → (b == 39) ≡ false → tokens_of (b ∷ rest) ≡ None
unfolding tokens_of
other_first b rest blank m w back quote = rw (blank, m, w, back, quote)

-- ---- words

one_byte : (b : ℕ) (o : Option (List Lexeme)) → option_map (with_byte b false) o ≡ with_token (word (b ∷ [])) o
one_byte b None = refl
one_byte b (Some ts) = refl

one_more : (b : ℕ) (w : List ℕ) (o : Option (List Lexeme)) → option_map (with_byte b true) (with_token (word w) o) ≡ with_token (word (b ∷ w)) o
one_more b w None = refl
one_more b w (Some ts) = refl

pub word_read : (b : ℕ) (w rest : List ℕ) → list_all is_word_byte (b ∷ w) ≡ true → begins_in_word rest ≡ false → tokens_of ((b ∷ w) ++ rest) ≡ with_token (word (b ∷ w)) (tokens_of rest)
word_read b [] rest h ends =
    byte_first b rest (all_parts is_word_byte b [] h).0
    ∙ ap (λ goes_on. option_map (with_byte b goes_on) (tokens_of rest)) ends
    ∙ one_byte b (tokens_of rest)
word_read b (c ∷ w) rest h ends =
    let parts = all_parts is_word_byte b (c ∷ w) h in
    byte_first b ((c ∷ w) ++ rest) parts.0
    ∙ ap (λ goes_on. option_map (with_byte b goes_on) (tokens_of ((c ∷ w) ++ rest))) (all_parts is_word_byte c w parts.1).0
    ∙ ap (option_map (with_byte b true)) (word_read c w rest parts.1 ends)
    ∙ one_more b (c ∷ w) (tokens_of rest)

-- ---- blanks

pub blanks_read : (blanks rest : List ℕ) → list_all is_blank blanks ≡ true → tokens_of (blanks ++ rest) ≡ tokens_of rest
blanks_read [] rest h = refl
blanks_read (b ∷ blanks) rest h =
    let parts = all_parts is_blank b blanks h in
    blank_first b (blanks ++ rest) parts.0 ∙ blanks_read blanks rest parts.1

-- ---- names and quoted texts

more_behind : (b : ℕ) (front : List ℕ) (o : Option (List Lexeme)) → option_map (with_first_byte b) (option_map (behind front) o) ≡ option_map (behind (b ∷ front)) o
more_behind b front None = refl
more_behind b front (Some ts) = refl

pub until_end : (end : ℕ) (rest : List ℕ) → (end == end) ≡ true → until end (end ∷ rest) ≡ option_map nothing_first (tokens_of rest)
unfolding until
until_end end rest h = rw h

pub until_other : (end b : ℕ) (rest : List ℕ) → (b == end) ≡ false → until end (b ∷ rest) ≡ option_map (with_first_byte b) (until end rest)
unfolding until
until_other end b rest h = rw h

pub until_cut : (end : ℕ) (front rest : List ℕ) → (end == end) ≡ true → list_all (λ b. not (b == end)) front ≡ true → until end (front ++ end ∷ rest) ≡ option_map (behind front) (tokens_of rest)
until_cut end [] rest same h = until_end end rest same
until_cut end (b ∷ front) rest same h =
    let parts = all_parts (λ b. not (b == end)) b front h in
    until_other end b (front ++ end ∷ rest) (not-true (b == end) parts.0)
    ∙ ap (option_map (with_first_byte b)) (until_cut end front rest same parts.1)
    ∙ more_behind b front (tokens_of rest)

pub until_none : (end : ℕ) (s : List ℕ) → list_all (λ b. not (b == end)) s ≡ true → until end s ≡ None
unfolding until
until_none end [] h = refl
until_none end (b ∷ s) h =
    let parts = all_parts (λ b. not (b == end)) b s h in
    rw (not-true (b == end) parts.0, until_none end s parts.1)

-- ---- `split_once` at a quote

no_byte : (c : ℕ) (s : List ℕ) → ((i : ℕ) → i < length s → get_or s i 0 ≢ c) → list_all (λ b. not (b == c)) s ≡ true
no_byte c [] h = refl
no_byte c (b ∷ s) h =
    let here : (b == c) ≡ false = ne_eqb b c (h 0 (omega arith)) in
    let rest : list_all (λ b. not (b == c)) s ≡ true = no_byte c s (λ i below. h (suc i) (omega arith)) in
    rw (here, rest) refl

same_byte_test : (c : ℕ) → (c == c) ≡ true
same_byte_test c = grind (arith, nat_tests)

split_known : (c : ℕ) (s : List ℕ) (r : Option (Bor (List ℕ) × Bor (List ℕ))) → IsSplitOnceResult c s r → c < 128 → IsUntil c s r
split_known c s None h small = until_none c s (no_byte c s (split_parts c s None h small))
split_known c s (Some x) h small =
    let parts = split_parts c s (Some x) h small in
    ap (until c) parts.0 ∙ until_cut c x.0.now x.1.now (same_byte_test c) (no_byte c x.0.now parts.1)

pub until_split : (c : ℕ) (s : List ℕ) (r : Option (Bor (List ℕ) × Bor (List ℕ))) → c < 128 → IsSplitOnceResult c s r → IsUntil c s r
until_split c s r small h = split_known c s r h small

pub named_at : (n : List ℕ) (o : Option (List Lexeme)) → (length n == 0) ≡ false → option_and_then as_name (option_map (behind n) o) ≡ with_token (name n) o
named_at n None h = refl
named_at n (Some ts) h = rw h

pub unnamed_at : (n : List ℕ) (o : Option (List Lexeme)) → (length n == 0) ≡ true → option_and_then as_name (option_map (behind n) o) ≡ None
unnamed_at n None h = refl
unnamed_at n (Some ts) h = rw h

pub quoted_at : (n : List ℕ) (o : Option (List Lexeme)) → option_map as_quoted (option_map (behind n) o) ≡ with_token (quoted n) o
quoted_at n None = refl
quoted_at n (Some ts) = refl

pub name_behind : (o : Option (List ℕ × List Lexeme)) (n : List ℕ) (ts : Option (List Lexeme)) → o ≡ option_map (behind n) ts → (length n == 0) ≡ false → option_and_then as_name o ≡ with_token (name n) ts
name_behind o n ts e h = rw e (named_at n ts h)

pub no_name_behind : (o : Option (List ℕ × List Lexeme)) (n : List ℕ) (ts : Option (List Lexeme)) → o ≡ option_map (behind n) ts → (length n == 0) ≡ true → option_and_then as_name o ≡ None
no_name_behind o n ts e h = rw e (unnamed_at n ts h)

pub quoted_behind : (o : Option (List ℕ × List Lexeme)) (n : List ℕ) (ts : Option (List Lexeme)) → o ≡ option_map (behind n) ts → option_map as_quoted o ≡ with_token (quoted n) ts
quoted_behind o n ts e = rw e (quoted_at n ts)
