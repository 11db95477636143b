-- What is told of a workflow file that is read (this profile).
use Rattle.std.specs.Prelude.{ℕ, List, [], ◌++◌, codes, Option, None, Some}
use Rattle.std.specs.List.{flat_map}
use Rattle.std.specs.Result.{result_ok}
use Rattle.serde_json.specs.Data.{Data}
use Rattle.filter_rule.specs.Reading.{json_of}
use Rattle.workflow_check.specs.Ignored.{ignored_in}
use Rattle.workflow_check.specs.Json.{items_at}
use Rattle.workflow_check.specs.Notes.{NoteValue, note_line}
use Rattle.workflow_check.specs.Passing.{rule_lines}
use Rattle.workflow_check.specs.Ranges.{undecided_in, untiled_in}
use Rattle.workflow_check.specs.Rules.{names_in, unmatched_in}

-- the JSON value of a text, if it has one
abbrev pub value_in : List ℕ → Option Data
value_in text = result_ok (json_of text)

-- what isn't read, the rules that match no table, the tables for which a stream has no rule, and those of which the
-- streams' ranges don't tile
abbrev pub notes_in : Data → List NoteValue
notes_in file =
    ignored_in file ++ (unmatched_in (names_in (items_at (codes "tables") file)) 0 (items_at (codes "streams") file)
    ++ (undecided_in (names_in (items_at (codes "tables") file)) 0 (items_at (codes "streams") file)
    ++ untiled_in (items_at (codes "streams") file) 0 (items_at (codes "tables") file)))

abbrev pub notes_by : Option Data → List NoteValue
notes_by None = []
notes_by (Some file) = notes_in file

-- what is told of a text
abbrev pub notes_of : List ℕ → List NoteValue
notes_of text = notes_by (value_in text)

-- the lines of notes
abbrev pub note_lines : List NoteValue → List ℕ
note_lines notes = flat_map note_line notes

-- the rows of each table that each stream passes, a line each
abbrev pub rules_by : Option Data → List ℕ
rules_by None = []
rules_by (Some file) = rule_lines (items_at (codes "tables") file) 0 (items_at (codes "streams") file)

abbrev pub rules_text : List ℕ → List ℕ
rules_text text = rules_by (value_in text)
