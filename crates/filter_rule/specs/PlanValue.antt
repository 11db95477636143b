-- What a plan means: its tables, and for each of them which rows of one stream pass. Two plans are
-- the same exactly where these values are equal (this profile, after the Vitess filter rules).
use Rattle.std.specs.Prelude.{ℕ, List, Bool, true, false, Option, Some, None, Result, Ok, position, slice_get, slice_index_or, []}
use Rattle.std.specs.Option.{option_map_or}
use Rattle.std.specs.Str.{bytes_eq}
use Rattle.vindex.specs.KeyspaceId.{id_of, id_in}
use Rattle.vindex.specs.declared.faults.VindexFault.{VindexFault}
use Rattle.row_view.specs.FieldValue.{FieldValue}
use Rattle.filter_rule.specs.PlanTable.{TableValue}
use Rattle.filter_rule.specs.declared.decision.Decision.{Decision}
use Rattle.filter_rule.specs.declared.decision.Decision.TheVariants.{NoRule, EveryRow, InRange}

-- one stream's plan: a decision for each table, in the tables' order
pub record PlanValue : Type 0 where
  pub keyspace : List ℕ
  pub shard : List ℕ
  pub tables : List TableValue
  pub decisions : List Decision

-- a table that no rule matches has no decision but 'no rule'
abbrev pub decision_at : PlanValue → ℕ → Decision
decision_at plan t = slice_index_or plan.decisions t NoRule

-- the name of a table, by its number
abbrev pub table_name : PlanValue → ℕ → List ℕ
table_name plan t = option_map_or (λ table. table.name) (slice_get plan.tables t) []

-- the columns of a table, by its number
abbrev pub columns_of : PlanValue → ℕ → List FieldValue
columns_of plan t = option_map_or (λ table. table.columns) (slice_get plan.tables t) []

-- the places of a table's key columns, by its number
abbrev pub key_columns_of : PlanValue → ℕ → List ℕ
key_columns_of plan t = option_map_or (λ table. table.key) (slice_get plan.tables t) []

-- the places of the columns that are kept of a table, in kept order, by its number
abbrev pub kept_columns_of : PlanValue → ℕ → List ℕ
kept_columns_of plan t = option_map_or (λ table. table.kept) (slice_get plan.tables t) []

-- the number of the table of a name
abbrev pub table_of_name : PlanValue → List ℕ → Option ℕ
table_of_name plan name = position (λ table. bytes_eq table.name name) plan.tables

-- a column of a row, NULL as `None`
abbrev pub column_at : List (Option (List ℕ)) → ℕ → Option (List ℕ)
column_at row place = slice_index_or row place None

-- whether a row passes under a decision; a range asks for the id also where it is the whole range
abbrev pub kept_under : Decision → List (Option (List ℕ)) → Result Bool VindexFault
kept_under NoRule row = Ok false
kept_under (EveryRow kept) row = Ok true
kept_under (InRange place vindex range kept) row = id_in range (id_of vindex (column_at row place))

-- the columns that a decision keeps, none where no rule made it
abbrev pub kept_under_rule : Decision → Option (List ℕ)
kept_under_rule NoRule = None
kept_under_rule (EveryRow kept) = Some kept
kept_under_rule (InRange place vindex range kept) = Some kept

-- whether a row of a table passes the plan's filter
abbrev pub passes_of : PlanValue → ℕ → List (Option (List ℕ)) → Result Bool VindexFault
passes_of plan t row = kept_under (decision_at plan t) row
