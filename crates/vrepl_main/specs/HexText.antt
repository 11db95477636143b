-- Hexadecimal text of a feed, as this profile's `--hex` reads it, and the bytes of a feed by its form.
use Rattle.std.specs.Prelude.{ℕ, ◌+◌, ◌-◌, ◌*◌, ◌==◌, ◌&&◌, ◌||◌, nat_le, not, Bool, if◌then◌else◌, List, [], ◌∷◌, map, filter, Option, Some, None}
use Rattle.vrepl_choices.specs.declared.feed_form.FeedForm.{FeedForm}
use Rattle.vrepl_choices.specs.declared.feed_form.FeedForm.TheVariants.{Bytes, Hex}

-- blanks, tabs, LF and CR are skipped wherever they stand
abbrev pub is_skipped_byte : ℕ → Bool
is_skipped_byte c = c == 32 || c == 9 || c == 10 || c == 13

-- the value of a digit: `0` to `9` are 48 to 57, `a` to `f` 97 to 102, `A` to `F` 65 to 70
abbrev pub hex_text_digit : ℕ → Option ℕ
hex_text_digit c =
    if nat_le 48 c && nat_le c 57 then Some (c - 48)
    else if nat_le 97 c && nat_le c 102 then Some (c - 87)
    else if nat_le 65 c && nat_le c 70 then Some (c - 55)
    else None

-- the values of the characters that aren't skipped, nothing for one that is no digit
abbrev pub digits_of : List ℕ → List (Option ℕ)
digits_of text = map hex_text_digit (filter (λ c. not (is_skipped_byte c)) text)

-- the byte of two digits, the high half first, before further bytes; nothing where any is missing
abbrev pub with_hex_byte : Option ℕ → Option ℕ → Option (List ℕ) → Option (List ℕ)
with_hex_byte (Some high) (Some low) (Some bytes) = Some ((high * 16 + low) ∷ bytes)
with_hex_byte _ _ _ = None

-- the bytes of digits, two a byte; nothing where one is left over
unfoldable pub paired : List (Option ℕ) → Option (List ℕ)
paired [] = Some []
paired (last ∷ []) = None
paired (high ∷ low ∷ rest) = with_hex_byte high low (paired rest)

-- the bytes that hexadecimal text spells, or nothing
abbrev pub hex_bytes : List ℕ → Option (List ℕ)
hex_bytes text = paired (digits_of text)

-- the bytes of a feed that is given in this form
abbrev pub feed_bytes : FeedForm → List ℕ → Option (List ℕ)
feed_bytes Bytes feed = Some feed
feed_bytes Hex feed = hex_bytes feed
