use Rattle.std.proofs.Common.{◌≡◌, ℕ, List, map}
use Rattle.source_feed.specs.Image.{lent_row}
use Rattle.checkpoint_core.specs.Private.WrittenTables.{written_value, parts_of_tables}
use Rattle.checkpoint_core.proofs.written_tables.written_tables.Given as goal

-- the parts so far are those of the first tables
abbrev pub invariant-loop-t : goal.invariant-loop-t
invariant-loop-t l = (position : List ℕ) → map (written_value position) l.tables.items ≡ parts_of_tables l.plan l.marks (map lent_row l.own) position l.t
