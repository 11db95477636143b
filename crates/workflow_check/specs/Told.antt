-- Where a workflow file has a fault, and what it is (this profile): the path of a value from the file's root on, as
-- `tables[3].columns[2][1]`, and what is wrong there.
use Rattle.std.specs.Prelude.{ℕ, List, [], ◌∷◌, ◌++◌, codes, decimal, Option, None, Some, option_map}
use Rattle.shown_text.specs.Shown.{shown}

pub record ToldValue : Type 0 where
  pub at : List ℕ
  pub what : List ℕ

-- told of a value itself
abbrev pub told_here : List ℕ → Option ToldValue
told_here what = Some (record { at = []; what = what })

-- told of a value within another one
abbrev pub told_within : List ℕ → Option ToldValue → Option ToldValue
told_within step told = option_map (λ t. record { at = step ++ t.at; what = t.what }) told

-- the step to an item
abbrev pub item_step : ℕ → List ℕ
item_step i = codes "[" ++ decimal i ++ codes "]"

-- what is missed, beside what stands there
abbrev pub quoted : List ℕ → List ℕ → List ℕ
quoted missed text = missed ++ codes " \"" ++ shown text ++ codes "\""
