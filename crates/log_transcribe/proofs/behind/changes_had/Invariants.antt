use Rattle.std.proofs.Common.{◌≡◌, map, drop}
use Rattle.log_groups.specs.Transaction.{done_value}
use Rattle.log_transcribe.specs.Transcript.{source_value}
use Rattle.log_transcribe.specs.Behind.{changes_had}
use Rattle.log_transcribe.proofs.behind.changes_had.Given as goal

-- those so far are told
abbrev pub invariant-loop-done : goal.invariant-loop-done
invariant-loop-done l = changes_had (source_value l.source) l.had (map done_value (drop l.done-index l.changes)) ≡ changes_had (source_value l.source) l.had (map done_value l.changes)
