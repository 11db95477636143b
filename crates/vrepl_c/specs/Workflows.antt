-- What a workflow says of a row that C gives, or the number of the first refusal (this profile).
use Rattle.std.specs.Prelude.{ℕ, ◌==◌, not, List, length, Bool, Option, Some, None, Result, Ok, Err, slice_get}
use Rattle.std.specs.Result.{result_map_both}
use Rattle.std.specs.Option.{ok_or}
use Rattle.list_laws.specs.Outcome.{◌>>=◌, refused_if}
use Rattle.row_view.specs.Row.{row_of_message}
use Rattle.row_view.specs.FaultNumber as row
use Rattle.vindex.specs.FaultNumber as vindex
use Rattle.filter_rule.specs.Faults.{Fault, json, shape, limit, no_such_column, key_type, bad_rule, columns_differ}
use Rattle.filter_rule.specs.PlanValue.{PlanValue, columns_of, table_of_name, passes_of}
use Rattle.filter_rule.specs.Reading.{plans_of}
use Rattle.pk_copy.specs.FaultNumber as key
use Rattle.pk_copy.specs.KeyOf.{key_of}
use Rattle.pk_copy.specs.KeyValue.{KeyValue}
use Rattle.vrepl_c.specs.Readers.{text_of}

-- the number of a refused workflow
abbrev pub workflow_number : Fault → ℕ
workflow_number json = 51
workflow_number shape = 52
workflow_number (no_such_column table column) = 53
workflow_number (key_type table column) = 54
workflow_number (bad_rule stream rule) = 55
workflow_number limit = 56
workflow_number (columns_differ table) = 57

-- the plans of a workflow's streams
abbrev pub all_plans : List ℕ → Result (List PlanValue) ℕ
all_plans workflow = result_map_both (λ plans. plans) workflow_number (plans_of workflow)

-- the plan of a stream, by its number from 0; 115 where the workflow has no such stream
abbrev pub plan_of : List ℕ → ℕ → Result PlanValue ℕ
plan_of workflow stream = all_plans workflow >>= λ plans. ok_or (slice_get plans stream) 115

-- the number of a table by its name; 85 where the plan has no such table
abbrev pub table_of : PlanValue → List ℕ → Result ℕ ℕ
table_of plan name = ok_or (text_of name) 85 >>= λ text. ok_or (table_of_name plan text) 85

-- the columns of a Row message under those of the table; 87 where they are more or fewer
abbrev pub cells_of : PlanValue → ℕ → List ℕ → Result (List (Option (List ℕ))) ℕ
cells_of plan t message =
    result_map_both (λ cells. cells) row.number_of (row_of_message message) >>= λ cells.
    refused_if (not (length cells == length (columns_of plan t))) 87 >>= λ _. Ok cells

-- whether a row passes the filter of the stream
abbrev pub passing : PlanValue → ℕ → List (Option (List ℕ)) → Result Bool ℕ
passing plan t cells = result_map_both (λ passes. passes) vindex.number_of_fault (passes_of plan t cells)

-- the key of a row
abbrev pub keyed : PlanValue → ℕ → List (Option (List ℕ)) → Result KeyValue ℕ
keyed plan t cells = result_map_both (λ key. key) key.number_of (key_of plan t cells)

-- a step over a row of a stream's table, all by what C gives
abbrev pub of_row : {A : Type 0} → (PlanValue → ℕ → List (Option (List ℕ)) → Result A ℕ) → List ℕ → ℕ → List ℕ → List ℕ → Result A ℕ
of_row step workflow stream table message =
    plan_of workflow stream >>= λ plan. table_of plan table >>= λ t. cells_of plan t message >>= λ cells. step plan t cells
