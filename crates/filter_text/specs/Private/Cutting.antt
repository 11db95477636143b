-- Cutting a token off the front of a text, for the loop that reads tokens.
use Rattle.std.specs.Prelude.{◌≡◌, ℕ, List, [], ◌∷◌, length, Bool, false, not, Option, Some, None, option_map, position, unwrap_or}
use Rattle.std.specs.Borrow.{Bor}
use Rattle.filter_text.specs.Lexemes.{Lexeme, is_blank}
use Rattle.filter_text.specs.Tokens.{tokens_of, until, with_token}
use Rattle.filter_text.specs.Views.{lexeme}
use Rattle.filter_text.specs.declared.token.Token.{Token}

-- how many bytes at the front are of a kind
abbrev pub front_len : (ℕ → Bool) → List ℕ → ℕ
front_len is_kind s = unwrap_or (position (λ b. not (is_kind b)) s) (length s)

abbrev pub begins_in_blank : List ℕ → Bool
begins_in_blank [] = false
begins_in_blank (b ∷ rest) = is_blank b

-- a token was cut off: the tokens are this one and those of what follows it
abbrev pub IsCut : Option (List Lexeme) → Option (Token × Bor (List ℕ)) → Type 0
IsCut tokens None = tokens ≡ None
IsCut tokens (Some cut) = tokens ≡ with_token (lexeme cut.0) (tokens_of cut.1.now)

abbrev pub behind : List ℕ → List Lexeme → List ℕ × List Lexeme
behind front tokens = (front, tokens)

-- what stands before the first quote, and behind it
abbrev pub IsUntil : ℕ → List ℕ → Option (Bor (List ℕ) × Bor (List ℕ)) → Type 0
IsUntil quote text None = until quote text ≡ None
IsUntil quote text (Some parts) = until quote text ≡ option_map (behind parts.0.now) (tokens_of parts.1.now)
