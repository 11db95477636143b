use Rattle.std.proofs.Common.{◌≡◌, ◌++◌, drop}
use Rattle.std.specs.String.{string_bytes}
use Rattle.feed_check.specs.Report.{skipped_lines}
use Rattle.feed_check.proofs.feed_warnings.push_skipped_lines.Given as goal

-- the text so far, and the warnings of the events that are left, are the whole
abbrev pub invariant-loop-event : goal.invariant-loop-event
invariant-loop-event l = string_bytes l.text ++ skipped_lines l.i (drop l.event-index l.events) ≡ string_bytes l.fn.text ++ skipped_lines l.i l.events
