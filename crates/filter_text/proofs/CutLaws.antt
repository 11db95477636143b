-- Cutting blanks and words off the front of a text.
use Rattle.std.proofs.Common.{◌≡◌, true≢false, option_and_then, ℕ, suc, zero, ◌<◌, ◌≤◌, ◌+◌, List, [], ◌∷◌, ◌++◌, length, take, drop, map, get_or, Bool, true, false, cond, Option, Some, None, option_map, refl, sym, ap, subst, ◌∙◌, arith}
use Rattle.std.specs.Prelude.{IsUtf8, ◌==◌}
use Rattle.std.specs.Borrow.{Bor}
use Rattle.std.specs.Str.{IsCharBoundary}
use Rattle.std.specs.List.{list_all}
use Rattle.std.proofs.lemmas.Bool.Decides.{nat_tests}
use Rattle.std.proofs.lemmas.List.{append-nil}
use Rattle.std.proofs.lemmas.Str.{IsCharBoundary-start, IsCharBoundary-after_ascii}
use Rattle.filter_text.specs.Lexemes.{Lexeme, word, mark, is_blank, is_word_byte, is_mark}
use Rattle.filter_text.specs.Tokens.{tokens_of, until, with_token, as_name, as_quoted, begins_in_word, after_blanks, word_in_front}
use Rattle.filter_text.specs.Views.{lexeme}
use Rattle.filter_text.specs.Private.Cutting.{IsCut, front_len, begins_in_blank}
use Rattle.filter_text.specs.declared.token.Token.{Token}
use Rattle.filter_text.proofs.ByteLaws.{other_byte, word_ascii, blank_ascii}
use Rattle.filter_text.proofs.SpanLaws.{span_len, begins, span_within, span_all, span_stops, front_is_span}
use Rattle.filter_text.proofs.TokenLaws.{blanks_read, word_read, name_first, quoted_first, mark_first, other_first}

-- ---- where a text may be cut

passes_at : (b : Bool) (p : ℕ → Bool) (x : ℕ) (xs : List ℕ) (n k : ℕ) → p x ≡ b → ((j : ℕ) → j < n → p (get_or xs j 0) ≡ true) → k < cond b (suc n) 0 → p (get_or (x ∷ xs) k 0) ≡ true
passes_at false p x xs n k e h below = absurd (omega arith)
passes_at true p x xs n zero e h below = e
passes_at true p x xs n (suc k) e h below = h k (omega arith)

pub span_passes : (p : ℕ → Bool) (xs : List ℕ) (k : ℕ) → k < span_len p xs → p (get_or xs k 0) ≡ true
span_passes p [] k h = absurd (omega arith)
span_passes p (x ∷ xs) k h = passes_at (p x) p x xs (span_len p xs) k refl (λ j below. span_passes p xs j below) h

boundary_at : (n : ℕ) (s : List ℕ) → IsUtf8 s → n ≤ length s → ((k : ℕ) → k < n → get_or s k 0 < 128) → IsCharBoundary s n
boundary_at zero s utf8 within ascii = IsCharBoundary-start s utf8
boundary_at (suc k) s utf8 within ascii =
    let e : k + 1 ≡ suc k = omega arith in
    subst (λ (n : ℕ). IsCharBoundary s n) e (IsCharBoundary-after_ascii s k utf8 (omega arith) (ascii k (omega arith)))

span_boundary : (p : ℕ → Bool) (s : List ℕ) → ((b : ℕ) → p b ≡ true → b < 128) → IsUtf8 s → IsCharBoundary s (span_len p s)
span_boundary p s ascii utf8 = boundary_at (span_len p s) s utf8 (span_within p s) (λ k below. ascii (get_or s k 0) (span_passes p s k below))

front_boundary : (p : ℕ → Bool) (s : List ℕ) (n : ℕ) → ((b : ℕ) → p b ≡ true → b < 128) → IsUtf8 s → n ≡ front_len p s → IsCharBoundary s n
front_boundary p s n ascii utf8 e = subst (λ (m : ℕ). IsCharBoundary s m) (sym (e ∙ front_is_span p s)) (span_boundary p s ascii utf8)

pub blank_boundary : (s bytes : List ℕ) (n : ℕ) → IsUtf8 s → bytes ≡ s → n ≡ front_len is_blank bytes → IsCharBoundary s n
blank_boundary s bytes n utf8 same e = front_boundary is_blank s n blank_ascii utf8 (e ∙ ap (front_len is_blank) same)

pub word_boundary : (s bytes : List ℕ) (n : ℕ) → IsUtf8 s → bytes ≡ s → n ≡ front_len is_word_byte bytes → IsCharBoundary s n
word_boundary s bytes n utf8 same e = front_boundary is_word_byte s n word_ascii utf8 (e ∙ ap (front_len is_word_byte) same)

pub first_boundary : (s : List ℕ) → IsUtf8 s → 0 < length s → get_or s 0 0 < 128 → IsCharBoundary s 1
first_boundary s utf8 some ascii = IsCharBoundary-after_ascii s 0 utf8 some ascii

-- ---- what is cut

pub take_drop : (n : ℕ) (s : List ℕ) → s ≡ take n s ++ drop n s
take_drop zero s = refl
take_drop (suc n) [] = refl
take_drop (suc n) (x ∷ s) = ap (λ r. x ∷ r) (take_drop n s)

pub first_drop : (s rest : List ℕ) → 0 < length s → rest ≡ drop 1 s → s ≡ get_or s 0 0 ∷ rest
first_drop [] rest some e = absurd (omega arith)
first_drop (x ∷ s) rest some e = rw e refl

not_in_blank : (s : List ℕ) → begins is_blank s ≡ false → begins_in_blank s ≡ false
not_in_blank [] h = refl
not_in_blank (b ∷ s) h = h

pub not_in_word : (s : List ℕ) → begins is_word_byte s ≡ false → begins_in_word s ≡ false
not_in_word [] h = refl
not_in_word (b ∷ s) h = h

blank_span : (s bytes : List ℕ) (n : ℕ) → bytes ≡ s → n ≡ front_len is_blank bytes → n ≡ span_len is_blank s
blank_span s bytes n same e = e ∙ ap (front_len is_blank) same ∙ front_is_span is_blank s

pub skipped_same : (s bytes rest : List ℕ) (n : ℕ) → bytes ≡ s → n ≡ front_len is_blank bytes → rest ≡ drop n s → tokens_of rest ≡ tokens_of s
skipped_same s bytes rest n same e r =
    let m : ℕ = span_len is_blank s in
    ap tokens_of (r ∙ ap (λ k. drop k s) (blank_span s bytes n same e))
    ∙ sym (blanks_read (take m s) (drop m s) (span_all is_blank s))
    ∙ ap tokens_of (sym (take_drop m s))

pub skipped_shows : (s bytes rest : List ℕ) (n : ℕ) → bytes ≡ s → n ≡ front_len is_blank bytes → rest ≡ drop n s → begins_in_blank rest ≡ false
skipped_shows s bytes rest n same e r =
    ap begins_in_blank (r ∙ ap (λ k. drop k s) (blank_span s bytes n same e))
    ∙ not_in_blank (drop (span_len is_blank s) s) (span_stops is_blank s)

after_at : (x : Bool) (b : ℕ) (s r : List ℕ) (n : ℕ) → is_blank b ≡ x → drop n s ≡ r → drop (cond x (suc n) 0) (b ∷ s) ≡ cond x r (b ∷ s)
after_at true b s r n e h = h
after_at false b s r n e h = refl

span_after : (s : List ℕ) → drop (span_len is_blank s) s ≡ after_blanks s
span_after [] = refl
span_after (b ∷ s) = after_at (is_blank b) b s (after_blanks s) (span_len is_blank s) refl (span_after s)

front_at : (x : Bool) (b : ℕ) (s r : List ℕ) (n : ℕ) → is_word_byte b ≡ x → take n s ≡ r → take (cond x (suc n) 0) (b ∷ s) ≡ cond x (b ∷ r) []
front_at true b s r n e h = ap (λ t. b ∷ t) h
front_at false b s r n e h = refl

span_front : (s : List ℕ) → take (span_len is_word_byte s) s ≡ word_in_front s
span_front [] = refl
span_front (b ∷ s) = front_at (is_word_byte b) b s (word_in_front s) (span_len is_word_byte s) refl (span_front s)

pub skipped_is : (s bytes rest : List ℕ) (n : ℕ) → bytes ≡ s → n ≡ front_len is_blank bytes → rest ≡ drop n s → rest ≡ after_blanks s
skipped_is s bytes rest n same e r = r ∙ ap (λ k. drop k s) (blank_span s bytes n same e) ∙ span_after s

pub word_is : (s bytes w : List ℕ) (n : ℕ) → bytes ≡ s → n ≡ front_len is_word_byte bytes → w ≡ take n s → w ≡ word_in_front s
word_is s bytes w n same e r = r ∙ ap (λ k. take k s) (e ∙ ap (front_len is_word_byte) same ∙ front_is_span is_word_byte s) ∙ span_front s

begins_again : (s : List ℕ) (b : ℕ) (w rest : List ℕ) → s ≡ (b ∷ w) ++ rest → list_all is_word_byte (b ∷ w) ≡ true → begins_in_word rest ≡ false → tokens_of s ≡ with_token (word (b ∷ w)) (tokens_of rest)
begins_again s b w rest e all ends = ap tokens_of e ∙ word_read b w rest all ends

pub cut_word : (s w rest : List ℕ) → begins_in_word s ≡ true → s ≡ w ++ rest → list_all is_word_byte w ≡ true → begins_in_word rest ≡ false → tokens_of s ≡ with_token (word w) (tokens_of rest)
cut_word s [] rest first e all ends = let other : begins_in_word s ≡ false = ap begins_in_word e ∙ ends in cc
cut_word s (b ∷ w) rest first e all ends = begins_again s b w rest e all ends

pub word_cut : (s w rest : List ℕ) → begins_in_word s ≡ true → w ≡ take (front_len is_word_byte s) s → rest ≡ drop (front_len is_word_byte s) s → tokens_of s ≡ with_token (word w) (tokens_of rest)
word_cut s w rest first e r =
    let n : ℕ = span_len is_word_byte s in
    let same = front_is_span is_word_byte s in
    let front : w ≡ take n s = e ∙ ap (λ k. take k s) same in
    let back : rest ≡ drop n s = r ∙ ap (λ k. drop k s) same in
    rw (front, back) (cut_word s (take n s) (drop n s) first (take_drop n s) (span_all is_word_byte s) (not_in_word (drop n s) (span_stops is_word_byte s)))

-- ---- by the first byte

cut_along : (o p : Option (List Lexeme)) (r : Option (Token × Bor (List ℕ))) → o ≡ p → IsCut p r → IsCut o r
cut_along o p None e h = e ∙ h
cut_along o p (Some cut) e h = e ∙ h

pub at_backquote : (s bytes rest : List ℕ) (first : ℕ) (r : Option (Token × Bor (List ℕ))) → bytes ≡ s → first ≡ get_or bytes 0 0 → first ≡ 96 → s ≡ get_or s 0 0 ∷ rest → IsCut (option_and_then as_name (until 96 rest)) r → IsCut (tokens_of s) r
at_backquote s bytes rest first r same is quote whole cut =
    let byte : get_or s 0 0 ≡ 96 = ap (λ (x : List ℕ). get_or x 0 0) (sym same) ∙ sym is ∙ quote in
    cut_along (tokens_of s) (option_and_then as_name (until 96 rest)) r (ap tokens_of (whole ∙ ap (λ b. b ∷ rest) byte) ∙ name_first rest) cut

pub at_quote : (s bytes rest : List ℕ) (first : ℕ) (r : Option (Token × Bor (List ℕ))) → bytes ≡ s → first ≡ get_or bytes 0 0 → first ≡ 39 → s ≡ get_or s 0 0 ∷ rest → IsCut (option_map as_quoted (until 39 rest)) r → IsCut (tokens_of s) r
at_quote s bytes rest first r same is quote whole cut =
    let byte : get_or s 0 0 ≡ 39 = ap (λ (x : List ℕ). get_or x 0 0) (sym same) ∙ sym is ∙ quote in
    cut_along (tokens_of s) (option_map as_quoted (until 39 rest)) r (ap tokens_of (whole ∙ ap (λ b. b ∷ rest) byte) ∙ quoted_first rest) cut

pub at_mark : (s bytes rest : List ℕ) (first : ℕ) → bytes ≡ s → first ≡ get_or bytes 0 0 → is_mark first ≡ true → s ≡ get_or s 0 0 ∷ rest → tokens_of s ≡ with_token (mark first) (tokens_of rest)
at_mark s bytes rest first same is marks whole =
    let byte : get_or s 0 0 ≡ first = ap (λ (x : List ℕ). get_or x 0 0) (sym same) ∙ sym is in
    ap tokens_of (whole ∙ ap (λ b. b ∷ rest) byte) ∙ mark_first first rest marks

pub no_token : (s bytes : List ℕ) (first : ℕ) → bytes ≡ s → 0 < length s → begins_in_blank s ≡ false → first ≡ get_or bytes 0 0 → (first ≡ 96 → ⊥) → (first ≡ 39 → ⊥) → is_mark first ≡ false → is_word_byte first ≡ false → tokens_of s ≡ None
no_token [] bytes first same some blank is back quote m w = absurd (omega arith)
no_token (b ∷ s) bytes first same some blank is back quote m w =
    let byte : b ≡ first = ap (λ (x : List ℕ). get_or x 0 0) (sym same) ∙ sym is in
    other_first b s blank (ap is_mark byte ∙ m) (ap is_word_byte byte ∙ w) (other_byte b 96 (λ e. back (sym byte ∙ e))) (other_byte b 39 (λ e. quote (sym byte ∙ e)))

-- ---- the loop

pub record HasRead (text : List ℕ) (tokens : List Token) (rest : List ℕ) : Type 0 where
  pub so_far : option_map (λ more. map lexeme tokens ++ more) (tokens_of rest) ≡ tokens_of text
  pub shown : begins_in_blank rest ≡ false
  pub utf8 : IsUtf8 rest

none_before : {A : Type 0} (o : Option (List A)) → option_map (λ more. [] ++ more) o ≡ o
none_before None = refl
none_before (Some ts) = refl

all_read : (text : List ℕ) (front : List Lexeme) (o : Option (List Lexeme)) → o ≡ Some [] → option_map (λ more. front ++ more) o ≡ tokens_of text → tokens_of text ≡ Some front
all_read text front o e h =
    sym h ∙ ap (option_map (λ more. front ++ more)) e ∙ ap Some (append-nil front)

some_length : (b : ℕ) (s : List ℕ) → (length (b ∷ s) == 0) ≡ false
some_length b s = grind (arith, nat_tests)

pub no_bytes : (s : List ℕ) → (length s == 0) ≡ true → tokens_of s ≡ Some []
unfolding tokens_of
no_bytes [] h = refl
no_bytes (b ∷ s) h = absurd (true≢false (sym h ∙ some_length b s))

pub read_all : (text rest : List ℕ) (front : List Lexeme) → (length rest == 0) ≡ true → option_map (λ more. front ++ more) (tokens_of rest) ≡ tokens_of text → tokens_of text ≡ Some front
read_all text rest front ended so_far = all_read text front (tokens_of rest) (no_bytes rest ended) so_far
