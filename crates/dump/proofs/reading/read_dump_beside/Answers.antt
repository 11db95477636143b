use Rattle.dump.proofs.KnownLaws.{no_fault}
use Rattle.dump.proofs.reading.read_dump_beside.Goals as goal

pub returns-in-Ok-clause-first : goal.returns-in-Ok-clause-first
returns-in-Ok-clause-first g c = λ n bad. absurd (no_fault _ _ _ (c.in-Ok.ensures.first n bad))
