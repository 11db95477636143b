use Rattle.std.proofs.Common.{◌≡◌, ◌++◌, drop}
use Rattle.std.specs.String.{string_bytes}
use Rattle.feed_check.specs.Report.{notes_from}
use Rattle.feed_check.proofs.report.all_notes.Given as goal

-- the text so far, and that of the streams that are left, are the whole
abbrev pub invariant-loop-i : goal.invariant-loop-i
invariant-loop-i l = string_bytes l.text ++ notes_from l.i (drop l.i l.checks) ≡ notes_from 0 l.checks
