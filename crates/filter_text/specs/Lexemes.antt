-- The tokens that a filter's text is made of (this profile). A word is a key word or a plain name; any
-- name may stand between backquotes, and is no key word then.
use Rattle.std.specs.Prelude.{ℕ, ◌==◌, ◌||◌, List, Bool, false, Option, Some, None}
use Rattle.std.specs.Char.{is_ascii_alphanumeric}
use Rattle.std.specs.Str.{str_eq_ignore_ascii_case}

pub data Lexeme : Type 0 where
  word : List ℕ → Lexeme
  name : List ℕ → Lexeme
  quoted : List ℕ → Lexeme
  mark : ℕ → Lexeme

-- a blank, a tab, CR or LF
abbrev pub is_blank : ℕ → Bool
is_blank b = (b == 32 || b == 9) || (b == 13 || b == 10)

-- a letter, a digit, `_` or `$`
abbrev pub is_word_byte : ℕ → Bool
is_word_byte b = is_ascii_alphanumeric b || (b == 95 || b == 36)

-- `*`, `(`, `)` and `,`
abbrev pub is_mark : ℕ → Bool
is_mark b = (b == 42 || b == 40) || (b == 41 || b == 44)

-- the word is this key word, in any case
abbrev pub is_key : List ℕ → Lexeme → Bool
is_key key (word w) = str_eq_ignore_ascii_case w key
is_key key (name n) = false
is_key key (quoted q) = false
is_key key (mark m) = false

abbrev pub is_this_mark : ℕ → Lexeme → Bool
is_this_mark m (word w) = false
is_this_mark m (name n) = false
is_this_mark m (quoted q) = false
is_this_mark m (mark n) = n == m

-- a name, with or without backquotes
abbrev pub named : Lexeme → Option (List ℕ)
named (word w) = Some w
named (name n) = Some n
named (quoted q) = None
named (mark m) = None

abbrev pub text_in_quotes : Lexeme → Option (List ℕ)
text_in_quotes (word w) = None
text_in_quotes (name n) = None
text_in_quotes (quoted q) = Some q
text_in_quotes (mark m) = None
