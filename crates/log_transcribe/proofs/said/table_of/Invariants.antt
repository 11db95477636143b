use Rattle.std.proofs.Common.{◌≡◌, map, drop}
use Rattle.log_feed.specs.Table.{table_value, table_from, table_of}
use Rattle.log_transcribe.proofs.said.table_of.Given as goal

-- none of the tables before this place has the name
abbrev pub invariant-loop-place : goal.invariant-loop-place
invariant-loop-place l = table_from l.place l.name (map table_value (drop l.place l.tables)) ≡ table_of l.name (map table_value l.tables)
