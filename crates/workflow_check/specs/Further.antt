-- Where a workflow file names the vindex `hash` and doesn't say that it uses it, and where it says that it uses a
-- vindex that isn't known (this profile).
use Rattle.std.specs.Prelude.{ℕ, List, Bool, true, false, codes, Option, None, Some, if◌then◌else◌}
use Rattle.std.specs.Str.{bytes_eq}
use Rattle.serde_json.specs.Data.{Data}
use Rattle.serde_json.specs.Find.{get, as_str}
use Rattle.vindex.specs.declared.vindexes.Vindex.{Vindex}
use Rattle.filter_rule.specs.Document.{may_name, uses_hash}
use Rattle.workflow_check.specs.Json.{items_at}
use Rattle.workflow_check.specs.Rules.{own_vindex}
use Rattle.workflow_check.specs.Shape.{told_if, told_from, told_of_list, values_in}
use Rattle.workflow_check.specs.Told.{ToldValue, told_here, told_within, quoted}

-- whether a vindex may be named in every file
abbrev pub is_always_known : Option (List ℕ × Vindex) → Bool
is_always_known None = true
is_always_known (Some v) = may_name false v.1

-- a table whose vindex may not be named in every file
abbrev pub unsaid_told : Data → Option ToldValue
unsaid_told table =
    if is_always_known (own_vindex table) then None
    else told_within (codes ".vindex[1]") (told_here (codes "vindex \"hash\" without the file's member \"vindexes\": [\"hash\"]"))

-- the first such table of a file that doesn't say that it uses `hash`
abbrev pub file_unsaid : Data → Option ToldValue
file_unsaid d = if uses_hash d then None else told_within (codes "tables") (told_from unsaid_told 0 (items_at (codes "tables") d))

-- what a file may say that it uses
abbrev pub told_of_further : Option (List ℕ) → Option ToldValue
told_of_further None = told_here (codes "no text")
told_of_further (Some name) = if bytes_eq name (codes "hash") then None else told_here (quoted (codes "no further vindex") name)

abbrev pub further_told : Data → Option ToldValue
further_told d = told_of_further (as_str d)

abbrev pub all_further_told : Data → Option ToldValue
all_further_told d = told_of_list (told_from further_told 0) (values_in d)

-- the first that isn't known
abbrev pub file_further : Data → Option ToldValue
file_further d = told_if all_further_told (codes "vindexes") (get (codes "vindexes") d)
