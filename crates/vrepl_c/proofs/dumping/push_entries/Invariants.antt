use Rattle.std.proofs.Common.{◌≡◌, ◌++◌, drop}
use Rattle.vrepl_c.specs.Dumps.{entries_bytes}
use Rattle.vrepl_c.proofs.dumping.push_entries.Given as goal

-- the bytes so far and those of the rows that are left are the whole
abbrev pub invariant-loop-entry : goal.invariant-loop-entry
invariant-loop-entry l = l.into.items ++ entries_bytes l.tables (drop l.entry-index l.entries) ≡ l.fn.into.items ++ entries_bytes l.tables l.entries
