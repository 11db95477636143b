-- The text of a part, as it is kept while its row is written.
use Rattle.std.specs.Prelude.{ℕ, List}
use Rattle.pk_copy.specs.declared.written_key.PartText.{PartText}
use Rattle.pk_copy.specs.declared.written_key.PartText.TheVariants.{Lent, Written}

-- the bytes of the text
abbrev pub text_value : PartText → List ℕ
text_value (Lent text) = text.now
text_value (Written text) = text.items
