-- Names and words in the text of a statement (MySQL manual, "Schema Object Names").
use Rattle.std.specs.Prelude.{ℕ, ◌==◌, ◌&&◌, ◌||◌, not, nat_le, if◌then◌else◌, Bool, true, false, List, [], ◌∷◌, length, take, drop, codes, Option, None, Some}
use Rattle.std.specs.List.{list_all}
use Rattle.std.specs.Option.{option_or}
use Rattle.std.specs.Str.{bytes_eq, str_eq_ignore_ascii_case}
use Rattle.log_groups.specs.Statement.{is_letter}

-- a byte that a name may have without quotes
abbrev pub is_plain_byte : ℕ → Bool
is_plain_byte b = is_letter b || (nat_le 48 b && nat_le b 57) || (b == 95) || (b == 36)

abbrev pub is_name_byte : ℕ → Bool
is_name_byte b = is_plain_byte b || nat_le 128 b

-- letters, digits, `_` and `$`, one at least
unfoldable pub is_plain_name : List ℕ → Bool
is_plain_name name = nat_le 1 (length name) && list_all is_plain_byte name

-- whether no byte of a name stands in front
abbrev pub ends_name : List ℕ → Bool
ends_name [] = true
ends_name (b ∷ text) = not (is_name_byte b)

-- whether a text begins by these bytes
unfoldable pub begins_with : List ℕ → List ℕ → Bool
begins_with front text = nat_le (length front) (length text) && bytes_eq (take (length front) text) front

-- whether it begins by this name or word, in letters of either case
unfoldable pub begins_by_word : List ℕ → List ℕ → Bool
begins_by_word word text = nat_le (length word) (length text) && str_eq_ignore_ascii_case (take (length word) text) word && ends_name (drop (length word) text)

-- whether it begins by it, and doesn't stand inside of another word
abbrev pub stands_here : Bool → List ℕ → List ℕ → Bool
stands_here inside word text = not inside && begins_by_word word text

-- whether a text has this word, in letters of either case, where it stands inside of another one or doesn't
unfoldable pub has_word_from : Bool → List ℕ → List ℕ → Bool
has_word_from inside word [] = false
has_word_from inside word (b ∷ text) = if stands_here inside word (b ∷ text) then true else has_word_from (is_name_byte b) word text

abbrev pub has_word : List ℕ → List ℕ → Bool
has_word word text = has_word_from false word text

-- ---- what stands behind

-- a blank, or what ends a line
abbrev pub is_blank : ℕ → Bool
is_blank b = (b == 32) || (b == 9) || (b == 10) || (b == 13)

-- a text without the blanks in front
unfoldable pub without_blanks : List ℕ → List ℕ
without_blanks [] = []
without_blanks (b ∷ text) = if is_blank b then without_blanks text else b ∷ text

-- behind words in letters of either case, and the blanks after them
abbrev pub behind_words : List ℕ → List ℕ → Option (List ℕ)
behind_words words text = if begins_by_word words text then Some (without_blanks (drop (length words) text)) else None

-- behind a name without quotes
abbrev pub behind_plain : List ℕ → List ℕ → Option (List ℕ)
behind_plain name text = if begins_with name text && ends_name (drop (length name) text) then Some (drop (length name) text) else None

-- behind one in quotes
abbrev pub behind_quoted : List ℕ → List ℕ → Option (List ℕ)
behind_quoted name text = if begins_with (codes "`") text && begins_with name (drop 1 text) && begins_with (codes "`") (drop (length name) (drop 1 text)) then Some (drop 1 (drop (length name) (drop 1 text))) else None

-- behind either
unfoldable pub behind_name : List ℕ → List ℕ → Option (List ℕ)
behind_name name text = option_or (behind_quoted name text) (behind_plain name text)
