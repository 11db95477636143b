-- A selection that is spelled is read.
use Rattle.std.proofs.Common.{◌≡◌, ℕ, List, [], ◌∷◌, ◌++◌, true, Option, Some, None, Result, map, refl, ap, ◌∙◌, codes, append_assoc}
use Rattle.std.specs.Prelude.{◌==◌, ◌≢◌, not, IsTrue}
use Rattle.std.specs.List.{list_all}
use Rattle.vindex.specs.KeyspaceId.{vindex_name}
use Rattle.vindex.specs.declared.vindexes.Vindex.{Vindex}
use Rattle.vindex.specs.declared.vindexes.Vindex.TheVariants.{Numeric, ReverseBits, Binary, BinaryMd5, Hash}
use Rattle.filter_text.specs.Lexemes.{Lexeme, word, name, quoted, mark, is_word_byte, is_mark}
use Rattle.filter_text.specs.Tokens.{tokens_of, with_token, IsTokenText, EndsAt}
use Rattle.filter_text.specs.FilterText.{RowsSaid, every_row, in_own_range, in_range_of, selected, Place, key, a_name, a_column, in_quotes, a_mark, Fill, condition_places, list_places, column_places, selection_places, Says, selects}
use Rattle.filter_text.specs.Spelling.{spelled_place, spelled, IsName, AreNames, NamesColumn, NamesColumns, IsSpelling}
use Rattle.filter_text.specs.Views.{Reads, meaning}
use Rattle.filter_text.specs.FilterText.{filter_of}
use Rattle.filter_text.specs.declared.filter.Filter.{Filter}
use Rattle.filter_text.specs.declared.fault.FilterFault.{FilterFault}
use Rattle.filter_text.proofs.TokenLaws.{blank_first}
use Rattle.filter_text.proofs.SpellLaws.{written_read, spells_of_read}
use Rattle.filter_text.proofs.FormLaws.{read_of_says}

-- the token that a place is spelled by
abbrev token_for : Place → Lexeme
token_for (key k) = word k
token_for (a_name n) = name n
token_for (a_column n) = name n
token_for (in_quotes q) = quoted q
token_for (a_mark m) = mark m

-- a place can be spelled
abbrev IsFit : Place → Type 0
IsFit (key k) = (k ≢ []) × IsTrue (list_all is_word_byte k)
IsFit (a_name n) = IsName n
IsFit (a_column n) = IsName n
IsFit (in_quotes q) = IsTrue (list_all (λ b. not (b == 39)) q)
IsFit (a_mark m) = IsTrue (is_mark m)

abbrev AreFit : List Place → Type 0
AreFit [] = Unit {0}
AreFit (place ∷ places) = IsFit place × AreFit places

front_read : (t : Lexeme) (front rest : List ℕ) → IsTokenText t front → EndsAt t (32 ∷ rest) → tokens_of ((front ++ 32 ∷ []) ++ rest) ≡ with_token t (tokens_of rest)
front_read t front rest w e =
    ap tokens_of (append_assoc front (32 ∷ []) rest)
    ∙ written_read t front (32 ∷ rest) w e
    ∙ ap (with_token t) (blank_first 32 rest refl)

place_read : (place : Place) (rest : List ℕ) → IsFit place → tokens_of (spelled_place place ++ rest) ≡ with_token (token_for place) (tokens_of rest)
place_read (key k) rest fit = front_read (word k) k rest (refl, fit.0, fit.1) refl
place_read (a_name n) rest fit = front_read (name n) (96 ∷ n ++ 96 ∷ []) rest (refl, fit.0, fit.1) tt
place_read (a_column n) rest fit = front_read (name n) (96 ∷ n ++ 96 ∷ []) rest (refl, fit.0, fit.1) tt
place_read (in_quotes q) rest fit = front_read (quoted q) (39 ∷ q ++ 39 ∷ []) rest (refl, fit) tt
place_read (a_mark m) rest fit = front_read (mark m) (m ∷ []) rest (refl, fit) tt

spelled_read : (places : List Place) → AreFit places → tokens_of (spelled places) ≡ Some (map token_for places)
unfolding tokens_of
spelled_read [] fit = refl
spelled_read (place ∷ places) fit = place_read place (spelled places) fit.0 ∙ ap (with_token (token_for place)) (spelled_read places fit.1)

vindex_quoted : (vindex : Vindex) → list_all (λ b. not (b == 39)) (vindex_name vindex) ≡ true
vindex_quoted Numeric = refl
vindex_quoted ReverseBits = refl
vindex_quoted Binary = refl
vindex_quoted BinaryMd5 = refl
vindex_quoted Hash = refl

where_fit : (codes "where" ≡ [] → ⊥) × (codes "in_keyrange" ≡ [] → ⊥)
where_fit = (λ e. (cc), λ e. (cc))

condition_fit : (range : List ℕ) (rows : RowsSaid) → NamesColumn rows → list_all (λ b. not (b == 39)) range ≡ true → AreFit (condition_places range rows)
condition_fit range every_row named q = tt
condition_fit range (in_own_range bounds) named q = ((where_fit.0, refl), ((where_fit.1, refl), (refl, (q, (refl, tt)))))
condition_fit range (in_range_of column vindex bounds) named q =
    ((where_fit.0, refl), ((where_fit.1, refl), (refl, (named, (refl, (vindex_quoted vindex, (refl, (q, (refl, tt)))))))))

select_fit : (codes "select" ≡ [] → ⊥) × (codes "from" ≡ [] → ⊥)
select_fit = (λ e. (cc), λ e. (cc))

condition_fill : (range : List ℕ) (rows : RowsSaid) → Fill (map token_for (condition_places range rows)) (condition_places range rows)
condition_fill range every_row = tt
condition_fill range (in_own_range bounds) = (refl, (refl, (refl, (refl, (refl, tt)))))
condition_fill range (in_range_of column vindex bounds) = (refl, (refl, (refl, (refl, (refl, (refl, (refl, (refl, (refl, tt)))))))))

-- ---- listed columns

list_fit : (columns : List (List ℕ)) (places : List Place) → AreNames columns → AreFit places → AreFit (list_places columns places)
list_fit [] places named fit = tt
list_fit (column ∷ []) places named fit = (named.0, ((select_fit.1, refl), fit))
list_fit (column ∷ next ∷ columns) places named fit = (named.0, (refl, list_fit (next ∷ columns) places named.1 fit))

list_fill : (columns : List (List ℕ)) (places : List Place) → Fill (map token_for places) places → Fill (map token_for (list_places columns places)) (list_places columns places)
list_fill [] places fill = tt
list_fill (column ∷ []) places fill = (refl, (refl, fill))
list_fill (column ∷ next ∷ columns) places fill = (refl, (refl, list_fill (next ∷ columns) places fill))

columns_fit : (columns : Option (List (List ℕ))) (places : List Place) → NamesColumns columns → AreFit places → AreFit (column_places columns places)
columns_fit None places named fit = (refl, ((select_fit.1, refl), fit))
columns_fit (Some columns) places named fit = list_fit columns places named fit

columns_fill : (columns : Option (List (List ℕ))) (places : List Place) → Fill (map token_for places) places → Fill (map token_for (column_places columns places)) (column_places columns places)
columns_fill None places fill = (refl, (refl, fill))
columns_fill (Some columns) places fill = list_fill columns places fill

spelling_says : (text table : List ℕ) (columns : Option (List (List ℕ))) (range : List ℕ) (rows : RowsSaid) → IsSpelling text table columns range rows → Says text (selected table columns rows)
spelling_says text table columns range rows s =
    let places : List Place = a_name table ∷ condition_places range rows in
    let fit : AreFit (selection_places table columns range rows) = ((select_fit.0, refl), columns_fit columns places s.column_names (s.table_name, condition_fit range rows s.column_name s.no_quote)) in
    let read : tokens_of text ≡ Some (map token_for (selection_places table columns range rows)) = ap tokens_of s.is ∙ spelled_read (selection_places table columns range rows) fit in
    selects (map token_for (selection_places table columns range rows)) table columns range rows (spells_of_read text (map token_for (selection_places table columns range rows)) read)
    (refl, columns_fill columns places (refl, condition_fill range rows)) s.columns_are s.writes refl

pub read_of_spelling : (text : List ℕ) (r : Result Filter FilterFault) (table : List ℕ) (columns : Option (List (List ℕ))) (range : List ℕ) (rows : RowsSaid) → Reads meaning r (filter_of text) → IsSpelling text table columns range rows
    → Reads meaning r (Some (selected table columns rows))
read_of_spelling text r table columns range rows h s = read_of_says text r (selected table columns rows) h (spelling_says text table columns range rows s)
