-- What workflow files pass of a table from a source shard, as they say it (this profile).
use Rattle.std.specs.Prelude.{ℕ, List, [], ◌∷◌, map, find, codes, Option, None, Some, option_and_then, option_map, if◌then◌else◌}
use Rattle.std.specs.Str.{bytes_eq}
use Rattle.serde_json.specs.Data.{Data}
use Rattle.filter_text.specs.FilterText.{RowsSaid, every_row, in_own_range, in_range_of, filter_of}
use Rattle.vindex.specs.declared.vindexes.Vindex.{Vindex}
use Rattle.workflow_check.specs.Json.{items_at, text_at}
use Rattle.workflow_check.specs.Passing.{RangedValue, own_ranged}
use Rattle.workflow_check.specs.Rules.{rules_in, own_vindex, first_rule}
use Rattle.tiles_said.specs.Sources.{SourceValue}
use Rattle.tiles_said.specs.declared.passing.Passing.{Passing}
use Rattle.tiles_said.specs.declared.passing.Passing.TheVariants.{Absent, NoRow, EveryRow, InRange}

-- the rows that a filter names
abbrev pub rows_said_by : Option (List ℕ) → Option RowsSaid
rows_said_by filter = option_map (λ said. said.rows) (option_and_then filter_of filter)

-- a range, if the table has a vindex for it
abbrev pub in_range_if : Option RangedValue → Passing
in_range_if None = NoRow
in_range_if (Some ranged) = InRange ranged

-- what is passed of a table with this vindex, by the rows that the filter names
abbrev pub passing_by : Option (List ℕ × Vindex) → Option RowsSaid → Passing
passing_by own None = NoRow
passing_by own (Some every_row) = EveryRow
passing_by own (Some (in_own_range range)) = in_range_if (own_ranged range own)
passing_by own (Some (in_range_of column vindex range)) = InRange (record { column = column; vindex = vindex; range = range })

-- what a stream passes of a table: as its first rule that matches the table says
abbrev pub passing_of : List ℕ → Data → Data → Passing
passing_of name stream table = passing_by (own_vindex table) (rows_said_by (option_map (λ rule. rule.filter) (first_rule (rules_in stream) name)))

-- the same of a file's stream and table, if it has both
abbrev pub passing_between : List ℕ → Option Data → Option Data → Passing
passing_between name None table = Absent
passing_between name (Some stream) None = Absent
passing_between name (Some stream) (Some table) = passing_of name stream table

-- the stream of a shard
abbrev pub stream_among : List ℕ → List Data → Option Data
stream_among shard streams = find (λ stream. bytes_eq shard (text_at (codes "shard") stream)) streams

abbrev pub stream_in : SourceValue → Data → Option Data
stream_in source file = if bytes_eq source.keyspace (text_at (codes "keyspace") file) then stream_among source.shard (items_at (codes "streams") file) else None

-- the table of a name
abbrev pub table_among : List ℕ → List Data → Option Data
table_among name tables = find (λ table. bytes_eq name (text_at (codes "name") table)) tables

-- what a file passes of a table from a source shard
abbrev pub passing_in : SourceValue → List ℕ → Data → Passing
passing_in source name file = passing_between name (stream_in source file) (table_among name (items_at (codes "tables") file))

abbrev pub passings_of : SourceValue → List ℕ → List Data → List Passing
passings_of source name files = map (passing_in source name) files
