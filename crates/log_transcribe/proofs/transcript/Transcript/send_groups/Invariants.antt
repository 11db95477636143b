use Rattle.std.proofs.Common.{◌≡◌, ◌+◌, length}
use Rattle.log_laws.specs.Transcript.{group_told}
use Rattle.log_transcribe.specs.Standing.{many_told}
use Rattle.log_transcribe.specs.Transcript.{course_told}
use Rattle.log_transcribe.specs.Private.Sends.{GoesOn, sending}
use Rattle.log_transcribe.proofs.transcript.Transcript.send_groups.Given as goal

-- the transactions that are still to come are told behind what is told, and those so far are counted
abbrev pub invariant-loop-more : goal.invariant-loop-more
invariant-loop-more g l =
    GoesOn (course_told l.file l.fn.self.source l.fn.groups.groups l.fn.self.far) (course_told l.file l.fn.self.source l.groups.groups l.self.far) (sending (g.W.Out.written l.fn.out) l.fn.outgoing) (sending (g.W.Out.written l.out) l.outgoing)
    × (l.self.source ≡ l.fn.self.source) × (l.groups.waiting ≡ l.fn.groups.waiting)
    × (many_told (λ g f. group_told l.fn.self.source g f) l.fn.groups.groups.items l.fn.self.far ≡ l.told + many_told (λ g f. group_told l.fn.self.source g f) l.groups.groups.items l.self.far)

abbrev pub decreases-loop-more : goal.decreases-loop-more
decreases-loop-more g l = length l.groups.groups.items
