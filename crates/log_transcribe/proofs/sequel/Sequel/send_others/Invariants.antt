use Rattle.std.proofs.Common.{◌≡◌, ◌≤◌, ◌-◌, []}
use Rattle.log_transcribe.specs.Behind.{logs_behind}
use Rattle.log_transcribe.specs.Standing.{IsByteBehind}
use Rattle.log_transcribe.specs.Private.Sends.{GoesOver, sending}
use Rattle.log_transcribe.proofs.sequel.Sequel.send_others.Given as goal

-- what the files so far gave is told
abbrev pub invariant-loop-file : goal.invariant-loop-file
invariant-loop-file g l =
    GoesOver (λ logs. logs_behind l.fn.from l.fn.self.source l.fn.self.had [] logs l.fn.self.along) (λ logs fault byte. IsByteBehind l.fn.from l.fn.self.source l.fn.self.had [] logs l.fn.self.along fault byte) (λ at left logs along. logs_behind at l.fn.self.source l.fn.self.had left logs along) (λ at left logs along fault byte. IsByteBehind at l.fn.self.source l.fn.self.had left logs along fault byte) (g.L.LogFiles.gives l.files) l.fn.from (g.L.LogFiles.many l.files) l.file l.self.along (sending (g.W.Out.written l.fn.out) l.fn.outgoing) (sending (g.W.Out.written l.out) l.outgoing)
    × (l.self.source ≡ l.fn.self.source) × (l.self.had ≡ l.fn.self.had) × (l.file ≤ g.L.LogFiles.many l.files)

abbrev pub decreases-loop-file : goal.decreases-loop-file
decreases-loop-file g l = g.L.LogFiles.many l.files - l.file
