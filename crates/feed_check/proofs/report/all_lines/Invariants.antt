use Rattle.std.proofs.Common.{◌≡◌, ◌++◌, drop, map}
use Rattle.std.specs.String.{string_bytes}
use Rattle.feed_check.specs.Report.{lines_from}
use Rattle.feed_check.proofs.report.all_lines.Given as goal

-- the text so far, and that of the streams that are left, are the whole
abbrev pub invariant-loop-i : goal.invariant-loop-i
invariant-loop-i l = string_bytes l.text ++ lines_from (map (λ file. file.now) l.files) l.i (drop l.i l.checks) ≡ lines_from (map (λ file. file.now) l.files) 0 l.checks
