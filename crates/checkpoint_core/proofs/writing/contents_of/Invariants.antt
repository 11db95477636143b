use Rattle.std.proofs.Common.{◌≡◌, ◌++◌, map, drop}
use Rattle.vevent.specs.ContentView.{table_content}
use Rattle.checkpoint_core.specs.Private.WrittenTables.{written_value}
use Rattle.checkpoint_core.proofs.writing.contents_of.Given as goal

-- the contents so far, and those of the texts that are still to come, are all
abbrev pub invariant-loop-table : goal.invariant-loop-table
invariant-loop-table l = map table_content l.contents.items ++ map (written_value l.position) (drop l.table-index l.written) ≡ map (written_value l.position) l.fn.written
