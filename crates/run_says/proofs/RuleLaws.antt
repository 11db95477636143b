-- What a rule's filter is read as, it says.
use Rattle.std.proofs.Common.{◌≡◌, ℕ, ◌<◌, Bool, true, false, cond, ltb, List, [], ◌∷◌, ◌++◌, length, map, get_or, Option, Some, None, Result, Ok, Err, refl, sym, ap, subst, ◌∙◌, inl, inr, arith}
use Rattle.std.specs.Prelude.{◌≢◌, IsTrue, codes, not, ◌==◌}
use Rattle.std.specs.List.{before_first, after_first, list_any, list_all, position_or_len}
use Rattle.std.specs.Result.{result_ok}
use Rattle.std.specs.Str.{bytes_eq, str_eq_ignore_ascii_case}
use Rattle.std.proofs.lemmas.Bool.{eqb-true, false≢true}
use Rattle.std.proofs.lemmas.Bool.Decides.{nat_tests}
use Rattle.std.proofs.lemmas.List.Sums.{split_at_first, passes_at_first}
use Rattle.std.proofs.lemmas.Slice.Eq.{bytes_eq-Decides}
use Rattle.hex.specs.declared.error.FromHexError.{FromHexError}
use Rattle.hex.specs.Hex.{decode_of}
use Rattle.vindex.specs.Bounds.{Bounds, bounds_of, whole, is_ordered}
use Rattle.vindex.specs.RangeText.{bytes_of_hex, range_between, is_hyphen, key_range_of_text}
use Rattle.filter_text.specs.Lexemes.{is_word_byte, Lexeme, word, name, quoted, mark, is_key, is_this_mark, named, text_in_quotes}
use Rattle.filter_text.specs.Tokens.{SpellsTokens, IsTokenText, EndsAt}
use Rattle.filter_text.specs.FilterText as form
use Rattle.filter_text.specs.FilterText.{RowsSaid, every_row, in_own_range, in_range_of, FilterMeaning, Place, Fills, Fill, condition_places, list_places, column_places, selection_places, Says, filter_of}
use Rattle.filter_text.proofs.FormLaws.{says_of_filter}
use Rattle.run_says.specs.Rules.{Filter, SaysRange, Token, key, a_name, in_quotes, a_mark, Writes, AreTokens, listed_columns, kept_columns, condition, WritesRange, SaysFilter, says_nothing, gives_range, selects}

-- ---- key ranges

any_is : {X : Type 0} (p : X → Bool) (xs : List X) → list_any p xs ≡ ltb (position_or_len p xs) (length xs)
any_is p [] = refl
any_is p (x ∷ xs) = grind (arith, nat_tests, any_is p xs)

some_is : {A : Type 0} (x y : A) → Some x ≡ Some y → x ≡ y
some_is x y e = cc

between_if : (text first last start end : List ℕ) (bounds : Bounds) (b : Bool) → text ≡ first ++ 45 ∷ last → decode_of first ≡ Ok start → decode_of last ≡ Ok end → cond b (Some (bounds_of start end)) None ≡ Some bounds → SaysRange text bounds
between_if text first last start end bounds true parts starts ends h = inr (first, last, start, end, parts, starts, ends, sym (some_is (bounds_of start end) bounds h))
between_if text first last start end bounds false parts starts ends h = absurd cc

between : (text first last : List ℕ) (bounds : Bounds) (start end : Result (List ℕ) FromHexError) → text ≡ first ++ 45 ∷ last → decode_of first ≡ start → decode_of last ≡ end → range_between (result_ok start) (result_ok end) ≡ Some bounds → SaysRange text bounds
between text first last bounds (Err e) end parts starts ends h = absurd cc
between text first last bounds (Ok start) (Err e) parts starts ends h = absurd cc
between text first last bounds (Ok start) (Ok end) parts starts ends h = between_if text first last start end bounds (is_ordered (bounds_of start end)) parts starts ends h

hyphen_if : (text : List ℕ) (bounds : Bounds) (b : Bool) → list_any is_hyphen text ≡ b → cond b (range_between (bytes_of_hex (before_first is_hyphen text)) (bytes_of_hex (after_first is_hyphen text))) None ≡ Some bounds → SaysRange text bounds
hyphen_if text bounds true some h =
    let inside : position_or_len is_hyphen text < length text = grind (arith, nat_tests, any_is is_hyphen text) in
    let hyphen : get_or text (position_or_len is_hyphen text) 0 ≡ 45 = eqb-true (get_or text (position_or_len is_hyphen text) 0) 45 (passes_at_first is_hyphen text 0 inside) in
    let parts : text ≡ before_first is_hyphen text ++ 45 ∷ after_first is_hyphen text = split_at_first is_hyphen text 0 inside ∙ ap (λ c. before_first is_hyphen text ++ c ∷ after_first is_hyphen text) hyphen in
    between text (before_first is_hyphen text) (after_first is_hyphen text) bounds (decode_of (before_first is_hyphen text)) (decode_of (after_first is_hyphen text)) parts refl refl h
hyphen_if text bounds false some h = absurd cc

zero_if : (text : List ℕ) (bounds : Bounds) (b : Bool) → bytes_eq text (codes "0") ≡ b → cond b (Some whole) (cond (list_any is_hyphen text) (range_between (bytes_of_hex (before_first is_hyphen text)) (bytes_of_hex (after_first is_hyphen text))) None) ≡ Some bounds → SaysRange text bounds
zero_if text bounds true zero h = inl ((bytes_eq-Decides text (codes "0")).0 zero, sym (some_is whole bounds h))
zero_if text bounds false zero h = hyphen_if text bounds (list_any is_hyphen text) refl h

range_says : (text : List ℕ) (bounds : Bounds) → key_range_of_text text ≡ Some bounds → SaysRange text bounds
unfolding key_range_of_text
range_says text bounds h = zero_if text bounds (bytes_eq text (codes "0")) refl h

-- ---- tokens

-- a place as a token
abbrev token_of : Place → Token
token_of (form.key k) = key k
token_of (form.a_name n) = a_name n
token_of (form.a_column n) = a_name n
token_of (form.in_quotes q) = in_quotes q
token_of (form.a_mark m) = a_mark m

name_written : (lexeme : Lexeme) (n front rest : List ℕ) → named lexeme ≡ Some n → IsTokenText lexeme front → EndsAt lexeme rest → Writes (a_name n) front rest
name_written (word w) n front rest is text ends = let same : w ≡ n = some_is w n is in inl (text.0 ∙ same, subst (λ (x : List ℕ). IsTrue (list_all is_word_byte x)) same text.2, ends)
name_written (name m) n front rest is text ends = let same : m ≡ n = some_is m n is in inr (text.0 ∙ ap (λ (x : List ℕ). 96 ∷ x ++ 96 ∷ []) same, subst (λ (x : List ℕ). IsTrue (list_all (λ b. not (b == 96)) x)) same text.2)
name_written (quoted q) n front rest is text ends = absurd cc
name_written (mark m) n front rest is text ends = absurd cc

column_named : (b : Bool) (lexeme : Lexeme) (n : List ℕ) → cond b None (named lexeme) ≡ Some n → named lexeme ≡ Some n
column_named true lexeme n e = absurd cc
column_named false lexeme n e = e

key_written : (lexeme : Lexeme) (k front rest : List ℕ) → IsTrue (is_key k lexeme) → IsTokenText lexeme front → EndsAt lexeme rest → Writes (key k) front rest
key_written (word w) k front rest is text ends = (subst (λ (x : List ℕ). IsTrue (str_eq_ignore_ascii_case x k)) (sym text.0) is, ends)
key_written (name m) k front rest is text ends = absurd (false≢true is)
key_written (quoted q) k front rest is text ends = absurd (false≢true is)
key_written (mark m) k front rest is text ends = absurd (false≢true is)

quotes_written : (lexeme : Lexeme) (q front rest : List ℕ) → text_in_quotes lexeme ≡ Some q → IsTokenText lexeme front → Writes (in_quotes q) front rest
quotes_written (word w) q front rest is text = absurd cc
quotes_written (name m) q front rest is text = absurd cc
quotes_written (quoted p) q front rest is text = let same : p ≡ q = some_is p q is in (text.0 ∙ ap (λ (x : List ℕ). 39 ∷ x ++ 39 ∷ []) same, subst (λ (x : List ℕ). IsTrue (list_all (λ b. not (b == 39)) x)) same text.1)
quotes_written (mark m) q front rest is text = absurd cc

mark_written : (lexeme : Lexeme) (m : ℕ) (front rest : List ℕ) → IsTrue (is_this_mark m lexeme) → IsTokenText lexeme front → Writes (a_mark m) front rest
mark_written (word w) m front rest is text = absurd (false≢true is)
mark_written (name n) m front rest is text = absurd (false≢true is)
mark_written (quoted q) m front rest is text = absurd (false≢true is)
mark_written (mark n) m front rest is text = text.0 ∙ ap (λ x. x ∷ []) (eqb-true n m is)

written : (lexeme : Lexeme) (place : Place) (front rest : List ℕ) → Fills lexeme place → IsTokenText lexeme front → EndsAt lexeme rest → Writes (token_of place) front rest
written lexeme (form.key k) front rest is text ends = key_written lexeme k front rest is text ends
written lexeme (form.a_name n) front rest is text ends = name_written lexeme n front rest is text ends
written lexeme (form.a_column n) front rest is text ends = name_written lexeme n front rest (column_named (is_key (codes "from") lexeme) lexeme n is) text ends
written lexeme (form.in_quotes q) front rest is text ends = quotes_written lexeme q front rest is text
written lexeme (form.a_mark m) front rest is text ends = mark_written lexeme m front rest is text

are_tokens : (lexemes : List Lexeme) (places : List Place) (text : List ℕ) → Fill lexemes places → SpellsTokens lexemes text → AreTokens (map token_of places) text
are_tokens [] [] text fill spells = spells
are_tokens [] (place ∷ places) text fill spells = absurd fill
are_tokens (lexeme ∷ lexemes) [] text fill spells = absurd fill
are_tokens (lexeme ∷ lexemes) (place ∷ places) text (one, others) (rest, begins, more) =
    (begins.blanks, begins.front, rest, begins.whole, begins.are_blanks, written lexeme place begins.front rest one begins.written begins.ends, are_tokens lexemes places rest others more)

-- ---- selections

condition_is : (range : List ℕ) (rows : RowsSaid) → map token_of (condition_places range rows) ≡ condition range rows
condition_is range every_row = refl
condition_is range (in_own_range bounds) = refl
condition_is range (in_range_of column vindex bounds) = refl

list_is : (columns : List (List ℕ)) (places : List Place) → columns ≢ [] → map token_of (list_places columns places) ≡ listed_columns columns ++ (key (codes "from") ∷ map token_of places)
list_is [] places some = absurd (some refl)
list_is (column ∷ []) places some = refl
list_is (column ∷ next ∷ columns) places some = ap (λ tokens. a_name column ∷ a_mark 44 ∷ tokens) (list_is (next ∷ columns) places (λ e. cc))

columns_are : (columns : Option (List (List ℕ))) (places : List Place) → form.AreColumns columns → map token_of (column_places columns places) ≡ kept_columns columns ++ (key (codes "from") ∷ map token_of places)
columns_are None places h = refl
columns_are (Some columns) places h = list_is columns places h.0

range_written : (range : List ℕ) (rows : RowsSaid) → form.WritesRange range rows → WritesRange range rows
range_written range every_row h = tt
range_written range (in_own_range bounds) h = range_says range bounds h
range_written range (in_range_of column vindex bounds) h = range_says range bounds h

some_columns : (columns : Option (List (List ℕ))) → form.AreColumns columns → columns ≢ Some []
some_columns None h e = cc
some_columns (Some columns) h e = h.0 (some_is columns [] e)

abbrev pub filter_as : FilterMeaning → Filter
filter_as said = record { columns = said.columns; rows = said.rows }

says_as : (text : List ℕ) (said : FilterMeaning) → Says text said → SaysFilter text (filter_as said)
says_as text said (form.says_nothing none is) = says_nothing none (ap filter_as is)
says_as text said (form.gives_range bounds some other range is) = gives_range bounds (range_says text bounds range) (ap filter_as is)
says_as text said (form.selects lexemes table columns range rows spells fill are writes is) =
    let tokens : map token_of (selection_places table columns range rows) ≡ key (codes "select") ∷ kept_columns columns ++ (key (codes "from") ∷ a_name table ∷ condition range rows) = ap (λ ts. key (codes "select") ∷ ts) (columns_are columns (form.a_name table ∷ condition_places range rows) are ∙ ap (λ ts. kept_columns columns ++ (key (codes "from") ∷ a_name table ∷ ts)) (condition_is range rows)) in
    let whole_text = subst (λ (ts : List Token). AreTokens ts text) tokens (are_tokens lexemes (selection_places table columns range rows) text fill spells) in
    subst (λ (m : FilterMeaning). SaysFilter text (filter_as m)) (sym is) (selects table range (some_columns columns are) whole_text (range_written range rows writes))

pub filter_says : (text : List ℕ) (said : FilterMeaning) → filter_of text ≡ Some said → SaysFilter text (filter_as said)
filter_says text said e = says_as text said (says_of_filter text said e)
