-- The rules of a workflow's streams and the tables that they are for, as the file says them.
use Rattle.std.specs.Prelude.{ℕ, ◌+◌, List, [], ◌∷◌, ◌++◌, Bool, true, map, find, codes, Option, None, Some, option_and_then, option_map, if◌then◌else◌}
use Rattle.std.specs.Option.{option_map_or}
use Rattle.std.specs.List.{list_any}
use Rattle.serde_json.specs.Data.{Data}
use Rattle.serde_json.specs.Find.{get}
use Rattle.vindex.specs.KeyspaceId.{vindex_of_name}
use Rattle.vindex.specs.declared.vindexes.Vindex.{Vindex}
use Rattle.filter_rule.specs.Document.{RuleSaid}
use Rattle.filter_rule.specs.FirstRule.{is_match}
use Rattle.workflow_check.specs.Json.{items_in, items_at, text_said, text_at}
use Rattle.workflow_check.specs.Notes.{NoteValue, item_place}
use Rattle.workflow_check.specs.Ignored.{in_item}
use Rattle.workflow_check.specs.declared.note.Flaw.TheVariants.{Unmatched}

-- ---- what the file says

-- a rule: its `match`, and its `filter`, empty where there is none; that its vindex may be named isn't asked
abbrev pub rule_in : Data → RuleSaid
rule_in d = record { matches = text_at (codes "match") d; filter = text_at (codes "filter") d; uses_hash = true }

abbrev pub rules_in_filter : Data → List Data
rules_in_filter filter = items_at (codes "rules") filter

-- the rules of a stream
abbrev pub rule_values : Data → List Data
rule_values stream = option_map_or rules_in_filter (get (codes "filter") stream) []

abbrev pub rules_in : Data → List RuleSaid
rules_in stream = map rule_in (rule_values stream)

-- a vindex by the column's name and its own
abbrev pub named_vindex : List Data → Option (List ℕ × Vindex)
named_vindex (column ∷ name ∷ []) = option_map (λ vindex. (text_said column, vindex)) (vindex_of_name (text_said name))
named_vindex _ = None

-- the vindex of a table, if it has one
abbrev pub own_vindex : Data → Option (List ℕ × Vindex)
own_vindex table = option_and_then (λ d. named_vindex (items_in d)) (get (codes "vindex") table)

-- the names of the tables
abbrev pub names_in : List Data → List (List ℕ)
names_in tables = map (text_at (codes "name")) tables

-- ---- rules and tables

-- the first rule that matches a table
abbrev pub first_rule : List RuleSaid → List ℕ → Option RuleSaid
first_rule rules table = find (λ rule. is_match rule table) rules

-- whether a rule matches a table
abbrev pub has_match : List (List ℕ) → RuleSaid → Bool
has_match tables rule = list_any (is_match rule) tables

abbrev pub unmatched_at : List ℕ → NoteValue
unmatched_at place = record { place = place; flaw = Unmatched; table = [] }

-- the rules that match no table, of the list at a path from one on
abbrev pub unmatched_from : List (List ℕ) → List ℕ → ℕ → List RuleSaid → List NoteValue
unmatched_from tables list j [] = []
unmatched_from tables list j (rule ∷ rules) = (if has_match tables rule then [] else unmatched_at (item_place list j) ∷ []) ++ unmatched_from tables list (j + 1) rules

-- those of the streams, from one on
abbrev pub unmatched_in : List (List ℕ) → ℕ → List Data → List NoteValue
unmatched_in tables i [] = []
unmatched_in tables i (stream ∷ streams) = unmatched_from tables (in_item (codes "streams") i ++ codes "filter.rules") 0 (rules_in stream) ++ unmatched_in tables (i + 1) streams
