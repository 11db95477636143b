use Rattle.std.proofs.Common.{◌≡◌, take}
use Rattle.std.specs.Fmt.{HasWritten, IsPlainFormatter}
use Rattle.gtid_set.specs.Printed.{printed_position}
use Rattle.gtid_set.proofs.Printing.{last_uuid}
use Rattle.gtid_set.proofs.printed.GtidSetDisplay.fmt.Given as goal

-- what was written is the text of the intervals so far
abbrev pub invariant-loop-interval : goal.invariant-loop-interval
invariant-loop-interval g l = record {
  before : l.before ≡ last_uuid (take l.interval-index l.interval-items);
  written : IsPlainFormatter l.initial.f → HasWritten g.W.Write.write_str_gives l.initial.f (printed_position (take l.interval-index l.interval-items)) l.f;
}
