-- Looking into a JSON value that was read as a workflow: what isn't there is empty.
use Rattle.std.specs.Prelude.{ℕ, List, [], unwrap_or}
use Rattle.std.specs.Option.{option_map_or}
use Rattle.serde_json.specs.Data.{Data}
use Rattle.serde_json.specs.Find.{get, as_str, as_array}
use Rattle.filter_rule.specs.Document.{listed}

-- the values of a list
abbrev pub items_in : Data → List Data
items_in d = option_map_or listed (as_array d) []

-- those of a member that is a list
abbrev pub items_at : List ℕ → Data → List Data
items_at key d = option_map_or items_in (get key d) []

-- a text
abbrev pub text_said : Data → List ℕ
text_said d = unwrap_or (as_str d) []

-- a member that is a text
abbrev pub text_at : List ℕ → Data → List ℕ
text_at key d = option_map_or text_said (get key d) []
