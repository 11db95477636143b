use Rattle.std.proofs.Common.{◌≡◌, map, drop}
use Rattle.source_feed.specs.Planned.{same_columns}
use Rattle.log_tables.specs.Column.{wanted_value}
use Rattle.log_feed.specs.Table.{field_of}
use Rattle.log_transcribe.proofs.said.are_same_columns.Given as goal

-- all columns are the same if those still to come are
abbrev pub invariant-loop-column : goal.invariant-loop-column
invariant-loop-column l = same_columns (map field_of (map wanted_value (drop l.column-index l.columns))) l.fields ≡ same_columns (map field_of (map wanted_value l.columns)) l.fn.fields
