-- What is kept of the tables of a feed.
use Rattle.std.specs.Prelude.{◌≡◌, List, ℕ, Bool, Option, None, Some}
use Rattle.std.specs.Option.{option_map}
use Rattle.std.specs.Str.{bytes_eq}
use Rattle.indexmap.specs.IndexMap.{get_by}
use Rattle.row_view.specs.FieldValue.{FieldValue}
use Rattle.show_json.specs.Columns.{ToldColumns, named_columns, told_with}
use Rattle.show_json.specs.declared.columns.KeptColumns.{KeptColumns}
use Rattle.show_json.specs.declared.columns.FeedColumns.{FeedColumns}

abbrev pub told_by : KeptColumns → ToldColumns
told_by kept = record { columns = kept.columns.fields; agreed = kept.agreed }

-- what is told of the table of this name
abbrev pub told_in : FeedColumns → List ℕ → Option ToldColumns
told_in feed table = option_map told_by (get_by (λ name. bytes_eq table name.now) feed.tables)

-- the columns by whose names the rows of a table are told
abbrev pub columns_in : FeedColumns → List ℕ → List FieldValue
columns_in feed table = named_columns (told_in feed table)

-- a FIELD of these columns says nothing new behind what is told of its table, or it says this: whether all agree
abbrev pub IsJudged : Option ToldColumns → List FieldValue → Option Bool → Type 0
IsJudged told columns None = told ≡ Some (told_with told columns)
IsJudged told columns (Some agreed) = record { columns = columns; agreed = agreed } ≡ told_with told columns
