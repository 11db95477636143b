-- The tokens of a filter's text, from left to right; blanks, tabs, CR and LF may stand round each.
use Rattle.std.specs.Prelude.{◌≡◌, ◌≢◌, ℕ, ◌==◌, ◌++◌, List, [], ◌∷◌, length, Bool, false, not, Option, Some, None, option_map, option_and_then, IsTrue, if◌then◌else◌}
use Rattle.std.specs.List.{list_all}
use Rattle.filter_text.specs.Lexemes.{Lexeme, word, name, quoted, mark, is_blank, is_word_byte, is_mark}

-- ---- the tokens of a text

abbrev pub begins_in_word : List ℕ → Bool
begins_in_word [] = false
begins_in_word (b ∷ rest) = is_word_byte b

abbrev pub with_token : Lexeme → Option (List Lexeme) → Option (List Lexeme)
with_token token = option_map (λ tokens. token ∷ tokens)

-- a byte in front of the word that follows it
abbrev pub with_word_byte : ℕ → List Lexeme → List Lexeme
with_word_byte b [] = word (b ∷ []) ∷ []
with_word_byte b (word w ∷ tokens) = word (b ∷ w) ∷ tokens
with_word_byte b (name n ∷ tokens) = word (b ∷ []) ∷ name n ∷ tokens
with_word_byte b (quoted q ∷ tokens) = word (b ∷ []) ∷ quoted q ∷ tokens
with_word_byte b (mark m ∷ tokens) = word (b ∷ []) ∷ mark m ∷ tokens

-- a byte of a word, which goes on in the next byte or ends
abbrev pub with_byte : ℕ → Bool → List Lexeme → List Lexeme
with_byte b goes_on tokens = if goes_on then with_word_byte b tokens else word (b ∷ []) ∷ tokens

-- a name of at least one byte, and the tokens behind it
abbrev pub as_name : List ℕ × List Lexeme → Option (List Lexeme)
as_name p = if length p.0 == 0 then None else Some (name p.0 ∷ p.1)

abbrev pub as_quoted : List ℕ × List Lexeme → List Lexeme
as_quoted p = quoted p.0 ∷ p.1

abbrev pub with_first_byte : ℕ → List ℕ × List Lexeme → List ℕ × List Lexeme
with_first_byte b p = (b ∷ p.0, p.1)

abbrev pub nothing_first : List Lexeme → List ℕ × List Lexeme
nothing_first tokens = ([], tokens)

unfoldable mutual
  pub tokens_of : List ℕ → Option (List Lexeme)
  tokens_of [] = Some []
  tokens_of (b ∷ rest) =
      if is_blank b then tokens_of rest
      else if is_mark b then with_token (mark b) (tokens_of rest)
      else if is_word_byte b then option_map (with_byte b (begins_in_word rest)) (tokens_of rest)
      else if b == 96 then option_and_then as_name (until 96 rest)
      else if b == 39 then option_map as_quoted (until 39 rest)
      else None

  -- the bytes before the first `end`, and the tokens behind it
  pub until : ℕ → List ℕ → Option (List ℕ × List Lexeme)
  until end [] = None
  until end (b ∷ rest) = if b == end then option_map nothing_first (tokens_of rest) else option_map (with_first_byte b) (until end rest)

-- the word that a text begins with, behind blanks; no bytes, where it begins with none
abbrev pub word_in_front : List ℕ → List ℕ
word_in_front [] = []
word_in_front (b ∷ rest) = if is_word_byte b then b ∷ word_in_front rest else []

abbrev pub after_blanks : List ℕ → List ℕ
after_blanks [] = []
after_blanks (b ∷ rest) = if is_blank b then after_blanks rest else b ∷ rest

abbrev pub first_word : List ℕ → List ℕ
first_word text = word_in_front (after_blanks text)

-- ---- how tokens are written

-- the bytes of one token; none of a name's bytes is a backquote, and none of a quoted text's is a quote
abbrev pub IsTokenText : Lexeme → List ℕ → Type 0
IsTokenText (word w) s = (s ≡ w) × (w ≢ []) × IsTrue (list_all is_word_byte w)
IsTokenText (name n) s = (s ≡ 96 ∷ n ++ 96 ∷ []) × (n ≢ []) × IsTrue (list_all (λ b. not (b == 96)) n)
IsTokenText (quoted q) s = (s ≡ 39 ∷ q ++ 39 ∷ []) × IsTrue (list_all (λ b. not (b == 39)) q)
IsTokenText (mark m) s = (s ≡ m ∷ []) × IsTrue (is_mark m)

-- a word goes on as far as it can
abbrev pub EndsAt : Lexeme → List ℕ → Type 0
EndsAt (word w) rest = begins_in_word rest ≡ false
EndsAt (name n) rest = Unit {0}
EndsAt (quoted q) rest = Unit {0}
EndsAt (mark m) rest = Unit {0}

abbrev pub AreBlanks : List ℕ → Type 0
AreBlanks s = IsTrue (list_all is_blank s)

-- a text begins with a token, behind blanks
pub record BeginsWithToken (text : List ℕ) (t : Lexeme) (rest : List ℕ) : Type 0 where
  pub blanks : List ℕ
  pub front : List ℕ
  pub whole : text ≡ blanks ++ (front ++ rest)
  pub are_blanks : AreBlanks blanks
  pub written : IsTokenText t front
  pub ends : EndsAt t rest

-- the tokens of a text, one after another; blanks may stand round each
abbrev pub SpellsTokens : List Lexeme → List ℕ → Type 0
SpellsTokens [] text = AreBlanks text
SpellsTokens (t ∷ ts) text = (rest : List ℕ) × BeginsWithToken text t rest × SpellsTokens ts rest
