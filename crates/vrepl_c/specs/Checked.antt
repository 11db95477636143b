-- What is told of a workflow that C gives (this profile): by which number it is refused, and where its fault is; of one that
-- is read what is warned of.
use Rattle.std.specs.Prelude.{ℕ, List, [], ◌++◌, unwrap_or, codes, decimal, Result, Ok, Err}
use Rattle.filter_rule.specs.Faults.{Fault, json, shape, limit, no_such_column, key_type, bad_rule, columns_differ}
use Rattle.filter_rule.specs.PlanValue.{PlanValue}
use Rattle.filter_rule.specs.Reading.{plans_of}
use Rattle.workflow_check.specs.Counts.{fault_text}
use Rattle.workflow_check.specs.File.{note_lines, notes_of}
use Rattle.vrepl_c.specs.Workflows.{workflow_number}

-- the number of a refusal, 0 for none, and what is told
pub record Told : Type 0 where
  pub refused : ℕ
  pub text : List ℕ

-- a column of a table by their names
abbrev pub column_text : List ℕ → List ℕ → List ℕ
column_text table column = codes "table " ++ table ++ codes " column " ++ column

-- a rule of a stream, both by their numbers from 0
abbrev pub rule_text : ℕ → ℕ → List ℕ
rule_text stream rule = codes "stream " ++ decimal stream ++ codes " rule " ++ decimal rule

-- where a fault is: the path of a value and what is wrong there, or what the fault names; of what is no JSON nothing
abbrev pub place_of : List ℕ → Fault → List ℕ
place_of workflow json = []
place_of workflow shape = unwrap_or (fault_text workflow) []
place_of workflow limit = unwrap_or (fault_text workflow) []
place_of workflow (no_such_column table column) = column_text table column
place_of workflow (key_type table column) = column_text table column
place_of workflow (bad_rule stream rule) = rule_text stream rule
place_of workflow (columns_differ table) = codes "table " ++ table

abbrev pub told_by : List ℕ → Result (List PlanValue) Fault → Told
told_by workflow (Ok plans) = record { refused = 0; text = note_lines (notes_of workflow) }
told_by workflow (Err fault) = record { refused = workflow_number fault; text = place_of workflow fault }

-- what is told of a workflow
abbrev pub told_of : List ℕ → Told
told_of workflow = told_by workflow (plans_of workflow)
