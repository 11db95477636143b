use Rattle.std.proofs.Common.{◌≡◌, ◌++◌, drop, map}
use Rattle.std.specs.String.{string_bytes}
use Rattle.feed_check.specs.Report.{finding_lines}
use Rattle.feed_check.proofs.warnings.push_findings.Given as goal

-- the text so far, and the warnings of the findings that are left, are the whole
abbrev pub invariant-loop-found : goal.invariant-loop-found
invariant-loop-found l = string_bytes l.text ++ finding_lines l.i l.check (map (λ found. found.now) (drop l.found-index l.findings)) ≡ string_bytes l.fn.text ++ finding_lines l.i l.check (map (λ found. found.now) l.findings)
