use Rattle.std.proofs.Common.{◌≡◌, ◌++◌, drop, map}
use Rattle.serde_json.specs.View.{view}
use Rattle.workflow_check.specs.Ignored.{streams_ignored}
use Rattle.workflow_check.proofs.ignored.push_streams.Given as goal

-- the notes so far, and those of the streams that are left, are the whole
abbrev pub invariant-loop-i : goal.invariant-loop-i
invariant-loop-i l = l.notes.items ++ streams_ignored l.i (map view (drop l.i l.streams)) ≡ l.fn.notes.items ++ streams_ignored 0 (map view l.streams)
