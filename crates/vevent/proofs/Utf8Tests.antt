-- The test whether bytes are a text.
use Rattle.std.proofs.Common.{◌≡◌, Bool, true, false, List, ℕ, Result, Ok, Err, refl, sym}
use Rattle.std.specs.Prelude.{MatchResult, is_ok}
use Rattle.std.specs.Str.{IsUtf8, is_utf8}
use Rattle.std.proofs.lemmas.Str.{IsUtf8-from_is_utf8, is_utf8-from_IsUtf8}

false_from_not : (b : Bool) → (b ≡ true → ⊥) → false ≡ b
false_from_not true h = absurd (h refl)
false_from_not false h = refl

pub is_ok-is_utf8 : {A E : Type 0} (r : Result A E) (bytes : List ℕ) (P : A → Type 0) (Q : E → Type 0) → MatchResult r (λ s. P s × IsUtf8 bytes) (λ e. (IsUtf8 bytes → ⊥) × Q e) → is_ok r ≡ is_utf8 bytes
is_ok-is_utf8 (Ok s) bytes P Q h = sym (is_utf8-from_IsUtf8 bytes h.1)
is_ok-is_utf8 (Err e) bytes P Q h = false_from_not (is_utf8 bytes) (λ t. h.0 (IsUtf8-from_is_utf8 bytes t))
