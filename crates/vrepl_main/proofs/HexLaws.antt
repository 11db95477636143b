-- How the bytes of hexadecimal text follow from what was read so far and from the rest.
use Rattle.std.proofs.Common.{◌≡◌, ◌∙◌, ap, sym, ℕ, ◌+◌, ◌*◌, ◌<◌, false, true, List, [], ◌∷◌, ◌++◌, length, drop, get_or, refl, append_assoc}
use Rattle.std.proofs.lemmas.List.{append-nil, drop_more}
use Rattle.std.specs.Prelude.{Option, Some, None, is_some}
use Rattle.std.specs.Option.{option_map}
use Rattle.vrepl_main.specs.HexText.{hex_text_digit, digits_of, hex_bytes, is_skipped_byte, with_hex_byte, paired}

-- the digit that waits for its second half
abbrev pub waiting : Option ℕ → List (Option ℕ)
waiting None = []
waiting (Some high) = Some high ∷ []

-- the bytes so far, before those that the rest gives
abbrev pub after : List ℕ → Option (List ℕ) → Option (List ℕ)
after bytes rest = option_map (λ xs. bytes ++ xs) rest

-- the digits of text that begins with a character that counts
digits-read : (c : ℕ) (rest : List ℕ) → is_skipped_byte c ≡ false → digits_of (c ∷ rest) ≡ hex_text_digit c ∷ digits_of rest
digits-read c rest s = rw s refl

-- a character that is no digit leaves no bytes
paired-no_digit : (high : Option ℕ) (rest : List (Option ℕ)) → paired (waiting high ++ None ∷ rest) ≡ None
unfolding paired
paired-no_digit None [] = refl
paired-no_digit None (low ∷ rest) = refl
paired-no_digit (Some high) rest = refl

joined_after : (bytes : List ℕ) (high low : ℕ) (rest : Option (List ℕ)) → after bytes (with_hex_byte (Some high) (Some low) rest) ≡ after (bytes ++ (high * 16 + low) ∷ []) rest
joined_after bytes high low None = refl
joined_after bytes high low (Some xs) = ap Some (sym (append_assoc bytes ((high * 16 + low) ∷ []) xs))

-- a pair of digits is a byte
paired-pair : (bytes : List ℕ) (high low : ℕ) (rest : List (Option ℕ)) → after bytes (paired (Some high ∷ Some low ∷ rest)) ≡ after (bytes ++ (high * 16 + low) ∷ []) (paired rest)
unfolding paired
paired-pair bytes high low rest = joined_after bytes high low (paired rest)

-- what is known of the bytes, over one more character
pub step-no_digit : (text bytes : List ℕ) (high : Option ℕ) (i : ℕ) → i < length text → is_skipped_byte (get_or text i 0) ≡ false → hex_text_digit (get_or text i 0) ≡ None → hex_bytes text ≡ after bytes (paired (waiting high ++ digits_of (drop i text))) → hex_bytes text ≡ None
step-no_digit text bytes high i h s d known =
    known
    ∙ ap (λ xs. after bytes (paired (waiting high ++ xs))) (ap digits_of (drop_more text i 0 h) ∙ digits-read (get_or text i 0) (drop (i + 1) text) s ∙ ap (λ x. x ∷ digits_of (drop (i + 1) text)) d)
    ∙ ap (after bytes) (paired-no_digit high (digits_of (drop (i + 1) text)))

pub step-high : (text bytes : List ℕ) (digit i : ℕ) → i < length text → is_skipped_byte (get_or text i 0) ≡ false → hex_text_digit (get_or text i 0) ≡ Some digit → hex_bytes text ≡ after bytes (paired (digits_of (drop i text))) → hex_bytes text ≡ after bytes (paired (Some digit ∷ digits_of (drop (i + 1) text)))
step-high text bytes digit i h s d known =
    known
    ∙ ap (λ xs. after bytes (paired xs)) (ap digits_of (drop_more text i 0 h) ∙ digits-read (get_or text i 0) (drop (i + 1) text) s ∙ ap (λ x. x ∷ digits_of (drop (i + 1) text)) d)

pub step-low : (text bytes : List ℕ) (high digit i : ℕ) → i < length text → is_skipped_byte (get_or text i 0) ≡ false → hex_text_digit (get_or text i 0) ≡ Some digit → hex_bytes text ≡ after bytes (paired (Some high ∷ digits_of (drop i text))) → hex_bytes text ≡ after (bytes ++ (high * 16 + digit) ∷ []) (paired (digits_of (drop (i + 1) text)))
step-low text bytes high digit i h s d known =
    known
    ∙ ap (λ xs. after bytes (paired (Some high ∷ xs))) (ap digits_of (drop_more text i 0 h) ∙ digits-read (get_or text i 0) (drop (i + 1) text) s ∙ ap (λ x. x ∷ digits_of (drop (i + 1) text)) d)
    ∙ paired-pair bytes high digit (digits_of (drop (i + 1) text))

-- the end of the text
pub end-whole : (bytes : List ℕ) → after bytes (paired []) ≡ Some bytes
unfolding paired
end-whole bytes = ap Some (append-nil bytes)

pub end-left_over : (bytes : List ℕ) (high : ℕ) → after bytes (paired (Some high ∷ [])) ≡ None
unfolding paired
end-left_over bytes high = refl

-- ---- whether text spells bytes, over one more character

-- the next character that counts
next-digit : (text : List ℕ) (i : ℕ) → i < length text → is_skipped_byte (get_or text i 0) ≡ false → digits_of (drop i text) ≡ hex_text_digit (get_or text i 0) ∷ digits_of (drop (i + 1) text)
next-digit text i h s = ap digits_of (drop_more text i 0 h) ∙ digits-read (get_or text i 0) (drop (i + 1) text) s

-- whether bytes are spelled doesn't hang on the bytes before them
is_some-pair : (high low : ℕ) (rest : Option (List ℕ)) → is_some (with_hex_byte (Some high) (Some low) rest) ≡ is_some rest
is_some-pair high low None = refl
is_some-pair high low (Some xs) = refl

is_some-paired : (high low : ℕ) (rest : List (Option ℕ)) → is_some (paired (Some high ∷ Some low ∷ rest)) ≡ is_some (paired rest)
unfolding paired
is_some-paired high low rest = is_some-pair high low (paired rest)

pub spells-no_digit : (text : List ℕ) (high : Option ℕ) (i : ℕ) → i < length text → is_skipped_byte (get_or text i 0) ≡ false → hex_text_digit (get_or text i 0) ≡ None → is_some (hex_bytes text) ≡ is_some (paired (waiting high ++ digits_of (drop i text))) → is_some (hex_bytes text) ≡ false
spells-no_digit text high i h s d known =
    known
    ∙ ap (λ xs. is_some (paired (waiting high ++ xs))) (next-digit text i h s ∙ ap (λ x. x ∷ digits_of (drop (i + 1) text)) d)
    ∙ ap is_some (paired-no_digit high (digits_of (drop (i + 1) text)))

pub spells-high : (text : List ℕ) (digit i : ℕ) → i < length text → is_skipped_byte (get_or text i 0) ≡ false → hex_text_digit (get_or text i 0) ≡ Some digit → is_some (hex_bytes text) ≡ is_some (paired (digits_of (drop i text))) → is_some (hex_bytes text) ≡ is_some (paired (Some digit ∷ digits_of (drop (i + 1) text)))
spells-high text digit i h s d known =
    known ∙ ap (λ xs. is_some (paired xs)) (next-digit text i h s ∙ ap (λ x. x ∷ digits_of (drop (i + 1) text)) d)

pub spells-low : (text : List ℕ) (high digit i : ℕ) → i < length text → is_skipped_byte (get_or text i 0) ≡ false → hex_text_digit (get_or text i 0) ≡ Some digit → is_some (hex_bytes text) ≡ is_some (paired (Some high ∷ digits_of (drop i text))) → is_some (hex_bytes text) ≡ is_some (paired (digits_of (drop (i + 1) text)))
spells-low text high digit i h s d known =
    known
    ∙ ap (λ xs. is_some (paired (Some high ∷ xs))) (next-digit text i h s ∙ ap (λ x. x ∷ digits_of (drop (i + 1) text)) d)
    ∙ is_some-paired high digit (digits_of (drop (i + 1) text))

pub spells-whole : is_some (paired []) ≡ true
unfolding paired
spells-whole = refl

pub spells-left_over : (high : ℕ) → is_some (paired (Some high ∷ [])) ≡ false
unfolding paired
spells-left_over high = refl
