-- A table of a workflow: its columns in order with their type numbers (`query.proto`, Type), the places
-- of its key columns in key order, the place of its vindex column with the vindex, and the places of the
-- columns that the target keeps of it, in the order in which it keeps them.
use Rattle.std.specs.Prelude.{ℕ, List, [], Option, slice_get}
use Rattle.std.specs.Option.{option_map_or}
use Rattle.row_view.specs.FieldValue.{FieldValue}
use Rattle.vindex.specs.declared.vindexes.Vindex.{Vindex}

pub record TableValue : Type 0 where
  pub name : List ℕ
  pub columns : List FieldValue
  pub key : List ℕ
  pub vindex : Option (ℕ × Vindex)
  pub kept : List ℕ

-- a table of which these columns are kept
abbrev pub keeping : TableValue → List ℕ → TableValue
keeping table kept = record table { kept = kept }

-- the name of a table by its number
abbrev pub name_of_table : List TableValue → ℕ → List ℕ
name_of_table tables t = option_map_or (λ table. table.name) (slice_get tables t) []
