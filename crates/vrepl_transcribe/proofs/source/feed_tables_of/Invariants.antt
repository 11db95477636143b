use Rattle.std.proofs.Common.{◌≡◌, map, take}
use Rattle.log_feed.specs.Table.{table_value}
use Rattle.vrepl_transcribe.specs.Source.{feed_table_of}
use Rattle.vrepl_transcribe.proofs.source.feed_tables_of.Given as goal

-- the tables so far are the first ones
abbrev pub invariant-loop-table : goal.invariant-loop-table
invariant-loop-table l = map table_value l.of_feed.items ≡ map feed_table_of (take l.table-index l.tables)
