use Rattle.std.proofs.Common.{◌≡◌, length}
use Rattle.gtid_set.specs.Blank.{trimmed_front}
use Rattle.gtid_set.proofs.text.trimmed_front.Given as goal

abbrev pub invariant-loop-rest : goal.invariant-loop-rest
invariant-loop-rest l = trimmed_front l.rest ≡ trimmed_front l.text

abbrev pub decreases-loop-rest : goal.decreases-loop-rest
decreases-loop-rest l = length l.rest
