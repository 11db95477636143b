-- The tokens that spell a text are the tokens that are read from it.
use Rattle.std.proofs.Common.{◌≡◌, ℕ, suc, zero, ◌≤◌, ◌+◌, ◌-◌, List, [], ◌∷◌, ◌++◌, length, take, drop, Bool, true, false, cond, Option, Some, None, option_map, option_and_then, refl, sym, ap, subst, ◌∙◌, arith, append_assoc}
use Rattle.std.specs.Prelude.{◌==◌, not}
use Rattle.std.specs.List.{list_all}
use Rattle.std.proofs.lemmas.List.{append-nil, length-drop, length-append}
use Rattle.std.proofs.lemmas.Bool.Decides.{nat_tests}
use Rattle.std.proofs.lemmas.Option.{same_Some}
use Rattle.filter_text.specs.Lexemes.{Lexeme, word, name, quoted, mark, is_blank, is_word_byte, is_mark}
use Rattle.filter_text.specs.Tokens.{tokens_of, until, with_token, with_first_byte, nothing_first, as_name, as_quoted, begins_in_word, after_blanks, word_in_front, first_word, IsTokenText, EndsAt, BeginsWithToken, SpellsTokens}
use Rattle.filter_text.proofs.ByteLaws.{same_byte, word_apart}
use Rattle.filter_text.proofs.SpanLaws.{all_parts, span_len, span_all, span_stops}
use Rattle.filter_text.proofs.TokenLaws.{blank_first, mark_first, name_first, quoted_first, other_first, word_read, blanks_read, until_cut, named_at, quoted_at}
use Rattle.filter_text.proofs.CutLaws.{take_drop, not_in_word, cut_word}

-- ---- what is spelled is read

pub some_length : (n : List ℕ) → (n ≡ [] → ⊥) → (length n == 0) ≡ false
some_length [] h = absurd (h refl)
some_length (x ∷ xs) h = grind (arith, nat_tests)

abbrev closed : ℕ → List ℕ → List ℕ
closed end n = end ∷ n ++ end ∷ []

closed_apart : (end : ℕ) (n rest : List ℕ) → closed end n ++ rest ≡ end ∷ (n ++ end ∷ rest)
closed_apart end n rest = append_assoc (end ∷ n) (end ∷ []) rest

name_back : (n rest : List ℕ) → (n ≡ [] → ⊥) → list_all (λ b. not (b == 96)) n ≡ true → tokens_of (closed 96 n ++ rest) ≡ with_token (name n) (tokens_of rest)
name_back n rest some none =
    ap tokens_of (closed_apart 96 n rest)
    ∙ name_first (n ++ 96 ∷ rest)
    ∙ ap (option_and_then as_name) (until_cut 96 n rest refl none)
    ∙ named_at n (tokens_of rest) (some_length n some)

quoted_back : (q rest : List ℕ) → list_all (λ b. not (b == 39)) q ≡ true → tokens_of (closed 39 q ++ rest) ≡ with_token (quoted q) (tokens_of rest)
quoted_back q rest none =
    ap tokens_of (closed_apart 39 q rest)
    ∙ quoted_first (q ++ 39 ∷ rest)
    ∙ ap (option_map as_quoted) (until_cut 39 q rest refl none)
    ∙ quoted_at q (tokens_of rest)

pub written_read : (t : Lexeme) (front rest : List ℕ) → IsTokenText t front → EndsAt t rest → tokens_of (front ++ rest) ≡ with_token t (tokens_of rest)
written_read (word []) front rest w e = absurd (w.1 refl)
written_read (word (b ∷ v)) front rest w e = ap (λ s. tokens_of (s ++ rest)) w.0 ∙ word_read b v rest w.2 e
written_read (name n) front rest w e = ap (λ s. tokens_of (s ++ rest)) w.0 ∙ name_back n rest w.1 w.2
written_read (quoted q) front rest w e = ap (λ s. tokens_of (s ++ rest)) w.0 ∙ quoted_back q rest w.1
written_read (mark m) front rest w e = ap (λ s. tokens_of (s ++ rest)) w.0 ∙ mark_first m rest w.1

pub read_of_spelled : (ts : List Lexeme) (text : List ℕ) → SpellsTokens ts text → tokens_of text ≡ Some ts
unfolding tokens_of
read_of_spelled [] text h = ap tokens_of (sym (append-nil text)) ∙ blanks_read text [] h
read_of_spelled (t ∷ ts) text h =
    ap tokens_of h.1.whole
    ∙ blanks_read h.1.blanks (h.1.front ++ h.0) h.1.are_blanks
    ∙ written_read t h.1.front h.0 h.1.written h.1.ends
    ∙ ap (with_token t) (read_of_spelled ts h.0 h.2)

-- ---- what is read is spelled

token_spells : (text rest : List ℕ) (t : Lexeme) (ts : List Lexeme) (o : Option (List Lexeme)) → tokens_of rest ≡ o → BeginsWithToken text t rest → ((more : List Lexeme) → tokens_of rest ≡ Some more → SpellsTokens more rest) → with_token t o ≡ Some ts → SpellsTokens ts text
token_spells text rest t ts None is begins spells e = cc
token_spells text rest t ts (Some more) is begins spells e = subst (λ (x : List Lexeme). SpellsTokens x text) (same_Some (t ∷ more) ts e) (rest, begins, spells more is)

-- a token in front of the tokens of what follows
front_spells : (text rest : List ℕ) (t : Lexeme) (ts : List Lexeme) → BeginsWithToken text t rest → ((more : List Lexeme) → tokens_of rest ≡ Some more → SpellsTokens more rest) → with_token t (tokens_of rest) ≡ Some ts → SpellsTokens ts text
front_spells text rest t ts begins spells e = token_spells text rest t ts (tokens_of rest) refl begins spells e

-- the bytes before the first `end` and the tokens behind it, where they lie
pub record IsUntilEnd (end : ℕ) (s front : List ℕ) (ts : List Lexeme) : Type 0 where
  pub rest : List ℕ
  pub whole : s ≡ front ++ end ∷ rest
  pub none : list_all (λ b. not (b == end)) front ≡ true
  pub read : tokens_of rest ≡ Some ts

abbrev front_in : Option (List ℕ × List Lexeme) → List ℕ
front_in None = []
front_in (Some p) = p.0

abbrev tokens_in : Option (List ℕ × List Lexeme) → List Lexeme
tokens_in None = []
tokens_in (Some p) = p.1

until_here : (end b : ℕ) (s front : List ℕ) (ts : List Lexeme) (o : Option (List Lexeme)) → b ≡ end → tokens_of s ≡ o → option_map nothing_first o ≡ Some (front, ts) → IsUntilEnd end (b ∷ s) front ts
until_here end b s front ts None same is e = cc
until_here end b s front ts (Some more) same is e =
    let no_front : front ≡ [] = sym (ap front_in e) in
    let tokens : ts ≡ more = sym (ap tokens_in e) in
    record { rest = s; whole = rw (no_front, same) refl; none = rw no_front refl; read = is ∙ ap Some (sym tokens) }

until_further : (end b : ℕ) (s front : List ℕ) (ts : List Lexeme) (o : Option (List ℕ × List Lexeme)) → (b == end) ≡ false → ((f : List ℕ) (more : List Lexeme) → o ≡ Some (f, more) → IsUntilEnd end s f more) → option_map (with_first_byte b) o ≡ Some (front, ts) → IsUntilEnd end (b ∷ s) front ts
until_further end b s front ts None other below e = cc
until_further end b s front ts (Some p) other below e =
    let first : front ≡ b ∷ p.0 = sym (ap front_in e) in
    let tokens : ts ≡ p.1 = sym (ap tokens_in e) in
    let tail = below p.0 p.1 refl in
    record { rest = tail.rest; whole = rw first (ap (λ x. b ∷ x) tail.whole); none = rw (first, other) tail.none; read = tail.read ∙ ap Some (sym tokens) }

until_at : (x : Bool) (end b : ℕ) (s front : List ℕ) (ts : List Lexeme) → (b == end) ≡ x → ((f : List ℕ) (more : List Lexeme) → until end s ≡ Some (f, more) → IsUntilEnd end s f more)
    → cond x (option_map nothing_first (tokens_of s)) (option_map (with_first_byte b) (until end s)) ≡ Some (front, ts) → IsUntilEnd end (b ∷ s) front ts
until_at true end b s front ts is below h = until_here end b s front ts (tokens_of s) (same_byte b end is) refl h
until_at false end b s front ts is below h = until_further end b s front ts (until end s) is below h

until_parts : (end : ℕ) (s front : List ℕ) (ts : List Lexeme) → until end s ≡ Some (front, ts) → IsUntilEnd end s front ts
unfolding until
until_parts end [] front ts e = cc
until_parts end (b ∷ s) front ts e = until_at (b == end) end b s front ts refl (λ f more i. until_parts end s f more i) e

-- texts of at most n bytes are spelled by the tokens that are read from them
abbrev Below : ℕ → Type 0
Below n = (r : List ℕ) (xs : List Lexeme) → length r ≤ n → tokens_of r ≡ Some xs → SpellsTokens xs r

rest_shorter : (end n : ℕ) (s front rest : List ℕ) → s ≡ front ++ end ∷ rest → length s ≤ n → length rest ≤ n
rest_shorter end n s front rest e h = let l : length s ≡ length front + length (end ∷ rest) = ap length e ∙ length-append front (end ∷ rest) in omega arith

some_bytes : (n : List ℕ) → (length n == 0) ≡ false → n ≡ [] → ⊥
some_bytes [] h e = cc
some_bytes (x ∷ xs) h e = cc

name_found : (x : Bool) (n : ℕ) (s : List ℕ) (ts : List Lexeme) (f : List ℕ) (more : List Lexeme) → (length f == 0) ≡ x → IsUntilEnd 96 s f more → length s ≤ n → Below n → cond x None (Some (name f ∷ more)) ≡ Some ts → SpellsTokens ts (96 ∷ s)
name_found true n s ts f more none u within below e = cc
name_found false n s ts f more some u within below e =
    subst (λ (x : List Lexeme). SpellsTokens x (96 ∷ s)) (same_Some (name f ∷ more) ts e) (
      u.rest,
      record {
        blanks = [];
        front = closed 96 f;
        whole = ap (λ x. 96 ∷ x) u.whole ∙ sym (closed_apart 96 f u.rest);
        are_blanks = refl;
        written = (refl, some_bytes f some, u.none);
        ends = tt;
      },
      below u.rest more (rest_shorter 96 n s f u.rest u.whole within) u.read,
    )

name_spells : (n : ℕ) (s : List ℕ) (ts : List Lexeme) (o : Option (List ℕ × List Lexeme)) → until 96 s ≡ o → length s ≤ n → Below n → option_and_then as_name o ≡ Some ts → SpellsTokens ts (96 ∷ s)
name_spells n s ts None is within below e = cc
name_spells n s ts (Some p) is within below e = name_found (length p.0 == 0) n s ts p.0 p.1 refl (until_parts 96 s p.0 p.1 is) within below e

quoted_found : (n : ℕ) (s : List ℕ) (ts : List Lexeme) (f : List ℕ) (more : List Lexeme) → IsUntilEnd 39 s f more → length s ≤ n → Below n → Some (quoted f ∷ more) ≡ Some ts → SpellsTokens ts (39 ∷ s)
quoted_found n s ts f more u within below e =
    subst (λ (x : List Lexeme). SpellsTokens x (39 ∷ s)) (same_Some (quoted f ∷ more) ts e) (
      u.rest,
      record {
        blanks = [];
        front = closed 39 f;
        whole = ap (λ x. 39 ∷ x) u.whole ∙ sym (closed_apart 39 f u.rest);
        are_blanks = refl;
        written = (refl, u.none);
        ends = tt;
      },
      below u.rest more (rest_shorter 39 n s f u.rest u.whole within) u.read,
    )

quoted_spells : (n : ℕ) (s : List ℕ) (ts : List Lexeme) (o : Option (List ℕ × List Lexeme)) → until 39 s ≡ o → length s ≤ n → Below n → option_map as_quoted o ≡ Some ts → SpellsTokens ts (39 ∷ s)
quoted_spells n s ts None is within below e = cc
quoted_spells n s ts (Some p) is within below e = quoted_found n s ts p.0 p.1 (until_parts 39 s p.0 p.1 is) within below e

mark_spells : (n b : ℕ) (s : List ℕ) (ts : List Lexeme) → is_mark b ≡ true → length s ≤ n → Below n → tokens_of (b ∷ s) ≡ Some ts → SpellsTokens ts (b ∷ s)
mark_spells n b s ts is within below e =
    front_spells (b ∷ s) s (mark b) ts (record { blanks = []; front = b ∷ []; whole = refl; are_blanks = refl; written = (refl, is); ends = tt })
    (λ more read. below s more within read) (sym (mark_first b s is) ∙ e)

some_word : (b : ℕ) (s : List ℕ) → is_word_byte b ≡ true → take (span_len is_word_byte (b ∷ s)) (b ∷ s) ≡ [] → ⊥
some_word b s h e = let first : take (suc (span_len is_word_byte s)) (b ∷ s) ≡ [] = ap (λ x. take (cond x (suc (span_len is_word_byte s)) 0) (b ∷ s)) (sym h) ∙ e in cc

behind_word : (b : ℕ) (s : List ℕ) → is_word_byte b ≡ true → drop (span_len is_word_byte (b ∷ s)) (b ∷ s) ≡ drop (span_len is_word_byte s) s
behind_word b s h = ap (λ x. drop (cond x (suc (span_len is_word_byte s)) 0) (b ∷ s)) h

word_shorter : (n b : ℕ) (s : List ℕ) → is_word_byte b ≡ true → length s ≤ n → length (drop (span_len is_word_byte (b ∷ s)) (b ∷ s)) ≤ n
word_shorter n b s h within =
    let l : length (drop (span_len is_word_byte (b ∷ s)) (b ∷ s)) ≡ length s - span_len is_word_byte s = ap length (behind_word b s h) ∙ length-drop (span_len is_word_byte s) s in
    omega arith

word_spells : (n b : ℕ) (s : List ℕ) (ts : List Lexeme) → is_word_byte b ≡ true → length s ≤ n → Below n → tokens_of (b ∷ s) ≡ Some ts → SpellsTokens ts (b ∷ s)
word_spells n b s ts is within below e =
    let m : ℕ = span_len is_word_byte (b ∷ s) in
    let all = span_all is_word_byte (b ∷ s) in
    let ends = not_in_word (drop m (b ∷ s)) (span_stops is_word_byte (b ∷ s)) in
    front_spells (b ∷ s) (drop m (b ∷ s)) (word (take m (b ∷ s))) ts
    (record { blanks = []; front = take m (b ∷ s); whole = take_drop m (b ∷ s); are_blanks = refl; written = (refl, some_word b s is, all); ends = ends })
    (λ more read. below (drop m (b ∷ s)) more (word_shorter n b s is within) read)
    (sym (cut_word (b ∷ s) (take m (b ∷ s)) (drop m (b ∷ s)) is (take_drop m (b ∷ s)) all ends) ∙ e)

blank_spells : (b : ℕ) (ts : List Lexeme) (s : List ℕ) → is_blank b ≡ true → SpellsTokens ts s → SpellsTokens ts (b ∷ s)
blank_spells b [] s h spells = rw h spells
blank_spells b (t ∷ ts) s h spells = (
  spells.0,
  record {
    blanks = b ∷ spells.1.blanks;
    front = spells.1.front;
    whole = ap (λ x. b ∷ x) spells.1.whole;
    are_blanks = rw h spells.1.are_blanks;
    written = spells.1.written;
    ends = spells.1.ends;
  },
  spells.2,
)

spells_at : (x y z u v : Bool) (n b : ℕ) (s : List ℕ) (ts : List Lexeme) → is_blank b ≡ x → is_mark b ≡ y → is_word_byte b ≡ z → (b == 96) ≡ u → (b == 39) ≡ v
    → length s ≤ n → Below n → tokens_of (b ∷ s) ≡ Some ts → SpellsTokens ts (b ∷ s)
spells_at true y z u v n b s ts f g h i j within below e = blank_spells b ts s f (below s ts within (sym (blank_first b s f) ∙ e))
spells_at false true z u v n b s ts f g h i j within below e = mark_spells n b s ts g within below e
spells_at false false true u v n b s ts f g h i j within below e = word_spells n b s ts h within below e
spells_at false false false true v n b s ts f g h i j within below e =
    let byte : b ≡ 96 = same_byte b 96 i in
    subst (λ (x : ℕ). SpellsTokens ts (x ∷ s)) (sym byte) (name_spells n s ts (until 96 s) refl within below (sym (name_first s) ∙ ap (λ x. tokens_of (x ∷ s)) (sym byte) ∙ e))
spells_at false false false false true n b s ts f g h i j within below e =
    let byte : b ≡ 39 = same_byte b 39 j in
    subst (λ (x : ℕ). SpellsTokens ts (x ∷ s)) (sym byte) (quoted_spells n s ts (until 39 s) refl within below (sym (quoted_first s) ∙ ap (λ x. tokens_of (x ∷ s)) (sym byte) ∙ e))
spells_at false false false false false n b s ts f g h i j within below e =
    let none : tokens_of (b ∷ s) ≡ None = other_first b s f g h i j in
    let neither : None ≡ Some ts = sym none ∙ e in
    cc

nothing_spells : (ts : List Lexeme) → tokens_of [] ≡ Some ts → SpellsTokens ts []
unfolding tokens_of
nothing_spells [] e = refl
nothing_spells (t ∷ ts) e = cc

spells_within : (n : ℕ) (text : List ℕ) (ts : List Lexeme) → length text ≤ n → tokens_of text ≡ Some ts → SpellsTokens ts text
spells_within zero [] ts h e = nothing_spells ts e
spells_within zero (b ∷ s) ts h e = absurd (omega arith)
spells_within (suc n) [] ts h e = nothing_spells ts e
spells_within (suc n) (b ∷ s) ts h e =
    let within : length s ≤ n = omega arith in
    spells_at (is_blank b) (is_mark b) (is_word_byte b) (b == 96) (b == 39) n b s ts refl refl refl refl refl within (λ r xs small is. spells_within n r xs small is) e

pub spells_of_read : (text : List ℕ) (ts : List Lexeme) → tokens_of text ≡ Some ts → SpellsTokens ts text
spells_of_read text ts e = spells_within (length text) text ts (omega arith) e

-- ---- the first word

after_run : (blanks : List ℕ) (b : ℕ) (s : List ℕ) → list_all is_blank blanks ≡ true → is_blank b ≡ false → after_blanks (blanks ++ b ∷ s) ≡ b ∷ s
after_run [] b s h e = rw e refl
after_run (x ∷ blanks) b s h e =
    let parts = all_parts is_blank x blanks h in
    rw parts.0 (after_run blanks b s parts.1 e)

front_run : (w rest : List ℕ) → list_all is_word_byte w ≡ true → begins_in_word rest ≡ false → word_in_front (w ++ rest) ≡ w
front_run [] [] h e = refl
front_run [] (b ∷ rest) h e = rw e refl
front_run (b ∷ w) rest h e =
    let parts = all_parts is_word_byte b w h in
    rw parts.0 (ap (λ s. b ∷ s) (front_run w rest parts.1 e))

pub first_word_is : (text w rest : List ℕ) → BeginsWithToken text (word w) rest → first_word text ≡ w
first_word_is text [] rest b = absurd (b.written.1 refl)
first_word_is text (x ∷ w) rest b =
    let parts = all_parts is_word_byte x w b.written.2 in
    ap first_word b.whole
    ∙ ap (λ front. first_word (b.blanks ++ (front ++ rest))) b.written.0
    ∙ ap word_in_front (after_run b.blanks x (w ++ rest) b.are_blanks (word_apart x parts.0).no_blank)
    ∙ front_run (x ∷ w) rest b.written.2 b.ends
