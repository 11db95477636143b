use Rattle.std.proofs.Common.{◌≡◌, drop, map}
use Rattle.status_said.specs.Said.{stands_from}
use Rattle.status_said.proofs.ReadLaws.{behind}
use Rattle.status_said.proofs.reading.stands_in.Given as goal

-- those so far, and those of the texts that are left, are all
abbrev pub invariant-loop-i : goal.invariant-loop-i
invariant-loop-i l = stands_from 0 (map (λ text. text.items) l.texts) ≡ behind l.stands.items (stands_from l.i (map (λ text. text.items) (drop l.i l.texts)))
