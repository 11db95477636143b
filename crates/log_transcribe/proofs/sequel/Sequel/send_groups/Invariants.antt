use Rattle.std.proofs.Common.{◌≡◌, ◌+◌, length}
use Rattle.log_transcribe.specs.Behind.{group_behind}
use Rattle.log_transcribe.specs.Standing.{many_told}
use Rattle.log_transcribe.specs.Private.Goes.{reading_behind}
use Rattle.log_transcribe.specs.Private.Sends.{GoesOn, sending}
use Rattle.log_transcribe.proofs.sequel.Sequel.send_groups.Given as goal

-- the transactions that are still to come are told behind what is told, and those so far are counted
abbrev pub invariant-loop-more : goal.invariant-loop-more
invariant-loop-more g l =
    GoesOn (reading_behind l.file l.fn.self.source l.fn.self.had l.fn.groups.groups l.fn.self.along) (reading_behind l.file l.fn.self.source l.fn.self.had l.groups.groups l.self.along) (sending (g.W.Out.written l.fn.out) l.fn.outgoing) (sending (g.W.Out.written l.out) l.outgoing)
    × (l.self.source ≡ l.fn.self.source) × (l.self.had ≡ l.fn.self.had) × (l.groups.waiting ≡ l.fn.groups.waiting)
    × (many_told (λ g a. group_behind l.file l.fn.self.source l.fn.self.had g a) l.fn.groups.groups.items l.fn.self.along ≡ l.told + many_told (λ g a. group_behind l.file l.fn.self.source l.fn.self.had g a) l.groups.groups.items l.self.along)

abbrev pub decreases-loop-more : goal.decreases-loop-more
decreases-loop-more g l = length l.groups.groups.items
