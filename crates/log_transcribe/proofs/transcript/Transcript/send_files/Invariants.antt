use Rattle.std.proofs.Common.{◌≡◌, ◌≤◌, ◌-◌, []}
use Rattle.log_transcribe.specs.Standing.{IsByteOfLogs}
use Rattle.log_transcribe.specs.Transcript.{logs_told}
use Rattle.log_transcribe.specs.Private.Sends.{GoesOver, sending}
use Rattle.log_transcribe.proofs.transcript.Transcript.send_files.Given as goal

-- what the files so far gave is told
abbrev pub invariant-loop-file : goal.invariant-loop-file
invariant-loop-file g l =
    GoesOver (λ logs. logs_told 0 l.fn.self.source [] logs l.fn.self.far) (λ logs fault byte. IsByteOfLogs 0 l.fn.self.source [] logs l.fn.self.far fault byte) (λ at left logs far. logs_told at l.fn.self.source left logs far) (λ at left logs far fault byte. IsByteOfLogs at l.fn.self.source left logs far fault byte) (g.L.LogFiles.gives l.files) 0 (g.L.LogFiles.many l.files) l.file l.self.far (sending (g.W.Out.written l.fn.out) l.fn.outgoing) (sending (g.W.Out.written l.out) l.outgoing)
    × (l.self.source ≡ l.fn.self.source) × (l.file ≤ g.L.LogFiles.many l.files)

abbrev pub decreases-loop-file : goal.decreases-loop-file
decreases-loop-file g l = g.L.LogFiles.many l.files - l.file
