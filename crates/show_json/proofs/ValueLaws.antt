-- Values, rows and groups as text, part by part.
use Rattle.std.proofs.Common.{◌≡◌, ◌∙◌, ℕ, zero, suc, ◌+◌, ◌<◌, Bool, true, false, ◌&&◌, inl, inr, List, [], ◌∷◌, ◌++◌, append_assoc, slice_index, refl, sym, ap, arith, Option}
use Rattle.std.specs.Prelude.{codes}
use Rattle.std.specs.Cmp.Lexicographic.{same_text}
use Rattle.std.specs.List.{list_all}
use Rattle.std.specs.Str.{IsUtf8, is_utf8, bytes_eq}
use Rattle.std.proofs.lemmas.Bool.{and_parts, cases_lt}
use Rattle.std.proofs.lemmas.Str.{IsUtf8-from_is_utf8}
use Rattle.hex.specs.Hex.{encode_lower, lower_digits}
use Rattle.json.specs.Print.{escape, escape_byte, quoted}
use Rattle.row_view.specs.FieldValue.{FieldValue}
use Rattle.serde_json.specs.Written.{comma_if, compact_text, members_text}
use Rattle.show_json.specs.Private.Parts.{member_part}
use Rattle.show_json.specs.Values.{behind_first, bytes_data, cell_data, is_text_byte, name_of, value_data, value_members}

-- ---- hexadecimal digits

is_plain : ℕ → Bool
is_plain digit = bytes_eq (escape_byte (slice_index lower_digits digit)) (slice_index lower_digits digit ∷ [])

-- the test of the first n digits
are_plain : ℕ → Bool
are_plain zero = true
are_plain (suc n) = is_plain n && are_plain n

plain-at : (n digit : ℕ) → are_plain n ≡ true → digit < n → is_plain digit ≡ true
unfolding are_plain
plain-at zero digit h within = absurd (omega arith)
plain-at (suc n) digit h within =
    let parts = and_parts (is_plain n) (are_plain n) h in
    elim (cases_lt digit n) [
      | inl below ↦ plain-at n digit parts.1 below
      | inr top ↦
          let e : digit ≡ n = omega arith in
          rw e parts.0
    ]

all-plain : are_plain 16 ≡ true
unfolding are_plain is_plain escape_byte
all-plain = refl

plain-digit : (digit : ℕ) → digit < 16 → escape_byte (slice_index lower_digits digit) ≡ slice_index lower_digits digit ∷ []
unfolding is_plain
plain-digit digit within = same_text (escape_byte (slice_index lower_digits digit)) (slice_index lower_digits digit ∷ []) (sym (plain-at 16 digit all-plain within))

-- a digit needs no escape
pub one-digit : (digit : ℕ) → digit < 16 → slice_index lower_digits digit ∷ [] ≡ escape (slice_index lower_digits digit ∷ [])
one-digit digit within = sym (ap (λ l. l ++ []) (plain-digit digit within))

-- ---- values

pub cell-text : (bytes : List ℕ) → codes "{\"bytes\":\"x" ++ (escape (encode_lower bytes) ++ codes "\"}") ≡ compact_text (cell_data bytes)
unfolding escape_byte
cell-text bytes = ap (λ t. codes "{\"bytes\":\"x" ++ t) (sym (append_assoc (escape (encode_lower bytes)) (34 ∷ []) (125 ∷ [])))

pub text-data : (bytes : List ℕ) → list_all is_text_byte bytes ≡ true → is_utf8 bytes ≡ true → quoted bytes ≡ compact_text (bytes_data bytes)
text-data bytes plain utf8 = rw (plain, utf8) refl

pub no-text-data : (bytes : List ℕ) → list_all is_text_byte bytes ≡ false → compact_text (cell_data bytes) ≡ compact_text (bytes_data bytes)
no-text-data bytes plain = rw plain refl

isnt : (bytes : List ℕ) → (IsUtf8 bytes → ⊥) → is_utf8 bytes ≡ false
isnt bytes none =
    elim (is_utf8 bytes) as (λ t. is_utf8 bytes ≡ t → t ≡ false) [
      | true ↦ λ is. absurd (none (IsUtf8-from_is_utf8 bytes is))
      | false ↦ λ is. refl
    ] refl

pub no-utf8-data : (bytes : List ℕ) → list_all is_text_byte bytes ≡ true → (IsUtf8 bytes → ⊥) → compact_text (cell_data bytes) ≡ compact_text (bytes_data bytes)
no-utf8-data bytes plain none = rw (plain, isnt bytes none) refl

-- ---- rows

-- the first value of what is left
pub member-at : (later : Bool) (i : ℕ) (columns : List FieldValue) (value : Option (List ℕ)) (row : List (Option (List ℕ)))
    → members_text later (value_members i columns (value ∷ row)) ≡ member_part later (name_of i columns) value ++ members_text true (value_members (i + 1) (behind_first columns) row)
member-at later i columns value row =
    let name = quoted (name_of i columns) in
    let text = compact_text (value_data value) in
    let rest = members_text true (value_members (i + 1) (behind_first columns) row) in
    sym (append_assoc (comma_if later) (name ++ 58 ∷ text) rest ∙ ap (λ t. comma_if later ++ t) (append_assoc name (58 ∷ text) rest))

-- ---- groups

-- a group's end, behind its changes
pub line-text : (changes number position : List ℕ)
    → codes "{\"changes\":" ++ (changes ++ (codes ",\"group\":" ++ (number ++ (codes ",\"position\":" ++ (position ++ codes "}\n")))))
    ≡ (codes "{\"changes\":" ++ (changes ++ (codes ",\"group\":" ++ (number ++ (codes ",\"position\":" ++ (position ++ 125 ∷ [])))))) ++ 10 ∷ []
line-text changes number position =
    let last = codes ",\"position\":" ++ (position ++ 125 ∷ []) in
    sym (ap (λ t. codes "{\"changes\":" ++ t)
    (append_assoc changes (codes ",\"group\":" ++ (number ++ last)) (10 ∷ [])
    ∙ ap (λ t. changes ++ (codes ",\"group\":" ++ t))
    (append_assoc number last (10 ∷ [])
    ∙ ap (λ t. number ++ (codes ",\"position\":" ++ t)) (append_assoc position (125 ∷ []) (10 ∷ [])))))
