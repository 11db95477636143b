-- Bytes that are a text, and bytes that are none.
use Rattle.std.proofs.Common.{◌≡◌, ℕ, List, Bool, true, false, Some, None, refl, sym, ◌∙◌}
use Rattle.std.specs.Prelude.{IsUtf8}
use Rattle.std.specs.Str.{is_utf8}
use Rattle.std.proofs.lemmas.Str.{is_utf8-from_IsUtf8, IsUtf8-from_is_utf8}
use Rattle.vrepl_c.specs.Readers.{text_of}

pub some_text : (bytes : List ℕ) → IsUtf8 bytes → text_of bytes ≡ Some bytes
unfolding text_of
some_text bytes h = rw (is_utf8-from_IsUtf8 bytes h) refl

no_text_at : (b : Bool) (bytes : List ℕ) → is_utf8 bytes ≡ b → (IsUtf8 bytes → ⊥) → text_of bytes ≡ None
unfolding text_of
no_text_at true bytes e none = absurd (none (IsUtf8-from_is_utf8 bytes e))
no_text_at false bytes e none = rw e refl

pub no_text : (bytes : List ℕ) → (IsUtf8 bytes → ⊥) → text_of bytes ≡ None
no_text bytes none = no_text_at (is_utf8 bytes) bytes refl none
