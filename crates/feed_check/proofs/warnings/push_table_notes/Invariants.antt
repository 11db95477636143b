use Rattle.std.proofs.Common.{◌≡◌, ◌++◌, drop}
use Rattle.std.specs.String.{string_bytes}
use Rattle.feed_check.specs.Report.{table_notes}
use Rattle.feed_check.proofs.warnings.push_table_notes.Given as goal

-- the text so far, and the warnings of the tables that are left, are the whole
abbrev pub invariant-loop-t : goal.invariant-loop-t
invariant-loop-t l = string_bytes l.text ++ table_notes l.i l.check l.t (drop l.t l.tables) ≡ string_bytes l.fn.text ++ table_notes l.i l.check 0 l.tables
