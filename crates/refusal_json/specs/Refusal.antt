-- The line of a refusal as JSON (RFC 8259; this profile). An object has its members by their names, but details in the order
-- of the other form.
use Rattle.std.specs.Prelude.{ℕ, List, [], ◌∷◌, ◌++◌, ◌==◌, Option, None, Some, codes, decimal}
use Rattle.std.specs.List.{after_first, before_first}
use Rattle.std.specs.Str.{trim}
use Rattle.refusal_words.specs.Texts.{explained}
use Rattle.serde_json.specs.Data.{Data, null, number, string, object, no_members, member, unsigned}
use Rattle.serde_json.specs.Written.{compact_text}
use Rattle.refusal_json.specs.Details.{DetailValue, details_members, plain_details}

-- ---- what a number means

-- the words in the first line of its text, behind the number
abbrev pub meaning_in : List ℕ → List ℕ
meaning_in text = trim (after_first (λ b. b == 32) (before_first (λ b. b == 10) text))

-- those of a number, none where it has no text
abbrev pub meaning_of : ℕ → List ℕ
meaning_of refused = meaning_in (explained (Some refused))

-- ---- both forms

-- `refused`, the number, and what stands behind it, with its LF
abbrev pub refusal_plain : ℕ → List DetailValue → List ℕ
refusal_plain refused details = codes "refused " ++ decimal refused ++ plain_details details ++ 10 ∷ []

-- null where no place is told
abbrev pub place_data : Option (List ℕ) → Data
place_data None = null
place_data (Some place) = string place

-- the same details, where the fault stands, the number, and what it means
abbrev pub refusal_data : ℕ → List DetailValue → Option (List ℕ) → Data
refusal_data refused details place =
    object (
    member (codes "details") (object (details_members details))
    (member (codes "place") (place_data place)
    (member (codes "refused") (number (unsigned refused))
    (member (codes "text") (string (meaning_of refused)) no_members)))
    )

-- a line of JSON
abbrev pub json_line : Data → List ℕ
json_line line = compact_text line ++ 10 ∷ []

abbrev pub refusal_json : ℕ → List DetailValue → Option (List ℕ) → List ℕ
refusal_json refused details place = json_line (refusal_data refused details place)
