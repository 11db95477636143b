-- Where a workflow file has too many or too few of something (this profile), and what is told of a file that is refused.
use Rattle.std.specs.Prelude.{ℕ, ◌==◌, nat_le, List, ◌++◌, length, codes, decimal, Option, None, Some, option_and_then, option_map, if◌then◌else◌}
use Rattle.std.specs.Option.{option_or}
use Rattle.std.specs.Result.{result_ok}
use Rattle.serde_json.specs.Data.{Data}
use Rattle.filter_rule.specs.Reading.{json_of}
use Rattle.workflow_check.specs.Further.{file_unsaid, file_further}
use Rattle.workflow_check.specs.Json.{items_at}
use Rattle.workflow_check.specs.Shape.{told_from, shape_told}
use Rattle.workflow_check.specs.Told.{ToldValue, told_here, told_within}

-- so many of a kind, above the most
abbrev pub above_text : ℕ → List ℕ → ℕ → List ℕ
above_text most items count = decimal count ++ codes " " ++ items ++ codes ", at most " ++ decimal most

-- from 1 to so many of a kind
abbrev pub count_told : ℕ → List ℕ → ℕ → Option ToldValue
count_told most items count =
    if count == 0 then told_here (codes "0 " ++ items ++ codes ", at least 1")
    else if nat_le count most then None
    else told_here (above_text most items count)

-- a table's columns, and those of its key
abbrev pub columns_counted : Data → Option ToldValue
columns_counted d = told_within (codes ".columns") (count_told 256 (codes "columns") (length (items_at (codes "columns") d)))

abbrev pub key_counted : Data → Option ToldValue
key_counted d = told_within (codes ".key") (count_told 8 (codes "columns") (length (items_at (codes "key") d)))

abbrev pub table_counted : Data → Option ToldValue
table_counted d = option_or (columns_counted d) (key_counted d)

-- the streams and the tables
abbrev pub streams_counted : Data → Option ToldValue
streams_counted d = told_within (codes "streams") (count_told 64 (codes "streams") (length (items_at (codes "streams") d)))

abbrev pub tables_counted : Data → Option ToldValue
tables_counted d = told_within (codes "tables") (count_told 64 (codes "tables") (length (items_at (codes "tables") d)))

abbrev pub each_counted : Data → Option ToldValue
each_counted d = told_within (codes "tables") (told_from table_counted 0 (items_at (codes "tables") d))

abbrev pub file_counted : Data → Option ToldValue
file_counted d = option_or (streams_counted d) (option_or (tables_counted d) (each_counted d))

-- ---- the whole

-- where a file is at fault: first by its shape, then by its vindexes
abbrev pub fault_told : Data → Option ToldValue
fault_told d = option_or (shape_told d) (option_or (file_unsaid d) (option_or (file_further d) (file_counted d)))

-- the path, and what is wrong there
abbrev pub told_text : ToldValue → List ℕ
told_text told = told.at ++ codes ": " ++ told.what

-- the same of a text, if it is JSON
abbrev pub fault_text : List ℕ → Option (List ℕ)
fault_text text = option_and_then (λ d. option_map told_text (fault_told d)) (result_ok (json_of text))
