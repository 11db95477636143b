use Rattle.std.proofs.Common.{◌≡◌, ◌++◌, drop}
use Rattle.std.specs.String.{string_bytes}
use Rattle.feed_check.specs.Report.{checked_table_lines}
use Rattle.feed_check.proofs.report.push_tables.Given as goal

-- the text so far, and the lines of the tables that are left, are the whole
abbrev pub invariant-loop-t : goal.invariant-loop-t
invariant-loop-t l = string_bytes l.text ++ checked_table_lines l.check l.t (drop l.t l.tables) ≡ string_bytes l.fn.text ++ checked_table_lines l.check 0 l.tables
