-- What stands behind the number in the line of a refusal, in both forms (this profile).
use Rattle.std.specs.Prelude.{ℕ, List, [], ◌∷◌, ◌++◌, Option, None, Some, option_map, decimal}
use Rattle.std.specs.List.{flat_map}
use Rattle.serde_json.specs.Data.{Data, number, string, Members, no_members, member, unsigned}
use Rattle.refusal_json.specs.declared.details.Detail.{Detail}
use Rattle.refusal_json.specs.declared.details.Details.{Details}
use Rattle.refusal_json.specs.declared.details.Told.{Told}
use Rattle.refusal_json.specs.declared.details.Told.TheVariants.{Number, Text}

-- a number, or a text
pub data ToldValue : Type 0 where
  told_number : ℕ → ToldValue
  told_text : List ℕ → ToldValue

-- a word, and what it tells
pub record DetailValue : Type 0 where
  pub word : List ℕ
  pub told : ToldValue

-- ---- as they are lent

abbrev pub told_value : Told → ToldValue
told_value (Number n) = told_number n
told_value (Text text) = told_text text.now

abbrev pub detail_value : Detail → DetailValue
detail_value detail = record { word = detail.word.now; told = told_value detail.told }

-- a detail that may not be there, before others
abbrev pub told_before : Option DetailValue → List DetailValue → List DetailValue
told_before None others = others
told_before (Some detail) others = detail ∷ others

abbrev pub details_value : Details → List DetailValue
details_value details = told_before (option_map detail_value details.first) (told_before (option_map detail_value details.second) [])

-- ---- as text

abbrev pub plain_told : ToldValue → List ℕ
plain_told (told_number n) = decimal n
plain_told (told_text text) = text

-- each as its word and what it tells, each of them behind a space
abbrev pub plain_detail : DetailValue → List ℕ
plain_detail detail = 32 ∷ (detail.word ++ 32 ∷ plain_told detail.told)

abbrev pub plain_details : List DetailValue → List ℕ
plain_details details = flat_map plain_detail details

-- ---- as JSON

abbrev pub told_data : ToldValue → Data
told_data (told_number n) = number (unsigned n)
told_data (told_text text) = string text

-- what each tells, by its word
abbrev pub details_members : List DetailValue → Members
details_members [] = no_members
details_members (detail ∷ details) = member detail.word (told_data detail.told) (details_members details)
