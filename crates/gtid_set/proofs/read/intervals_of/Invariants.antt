use Rattle.std.proofs.Common.{[]}
use Rattle.std.specs.Option.{option_map}
use Rattle.gtid_set.specs.Blank.{trimmed}
use Rattle.gtid_set.specs.Text.{all_of, intervals_of_part, put_before}
use Rattle.gtid_set.proofs.Parts.{parts_after}
use Rattle.gtid_set.proofs.Reading.{SoFar, size_left}
use Rattle.gtid_set.proofs.read.intervals_of.Given as goal

-- what was read and what is left give what the whole gives
abbrev pub invariant-loop-rest : goal.invariant-loop-rest
invariant-loop-rest l =
    SoFar l.named (λ part. intervals_of_part (trimmed part)) 44 l.rest (put_before [] (all_of (λ part. intervals_of_part (trimmed part)) (parts_after 44 (option_map (λ r. r.now) l.initial.rest))))

abbrev pub decreases-loop-rest : goal.decreases-loop-rest
decreases-loop-rest l = size_left (option_map (λ r. r.now) l.rest)
