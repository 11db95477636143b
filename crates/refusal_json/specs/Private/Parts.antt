-- The text of a line of JSON, part by part.
use Rattle.std.specs.Prelude.{ℕ, List, [], ◌∷◌, ◌++◌, Bool, Option, None, Some, codes, decimal}
use Rattle.json.specs.Print.{quoted}
use Rattle.serde_json.specs.Written.{comma_if, compact_text}
use Rattle.refusal_json.specs.Details.{told_data, DetailValue}
use Rattle.refusal_json.specs.Refusal.{meaning_of, place_data}

-- a detail by its word, behind a comma where something stands before
abbrev pub member_part : Bool → DetailValue → List ℕ
member_part later detail = comma_if later ++ (quoted detail.word ++ 58 ∷ compact_text (told_data detail.told))

-- the same where there is one
abbrev pub member_if : Bool → Option DetailValue → List ℕ
member_if later None = []
member_if later (Some detail) = member_part later detail

-- a number and what it means, and the end of the line
abbrev pub number_part : ℕ → List ℕ
number_part refused = codes "\"refused\":" ++ (decimal refused ++ (codes ",\"text\":" ++ (quoted (meaning_of refused) ++ codes "}\n")))

-- what stands behind the details of a refusal
abbrev pub place_part : ℕ → Option (List ℕ) → List ℕ
place_part refused place = codes ",\"place\":" ++ (compact_text (place_data place) ++ 44 ∷ number_part refused)
