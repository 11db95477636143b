use Rattle.std.proofs.Common.{List}
use Rattle.std.specs.Option.{option_map}
use Rattle.gtid_set.specs.declared.interval.Interval.{Interval}
use Rattle.gtid_set.specs.Inner.Kept.{Keeps}
use Rattle.gtid_set.specs.Text.{all_of, intervals_of_piece, put_before}
use Rattle.gtid_set.proofs.Parts.{parts_after}
use Rattle.gtid_set.proofs.Reading.{SoFar, size_left}
use Rattle.gtid_set.proofs.read.push_pieces.Given as goal

-- what was read and what is left give what the whole gives
abbrev pub invariant-loop-rest : goal.invariant-loop-rest
invariant-loop-rest l =
    (front : List Interval) → Keeps l.fn.named front
    → SoFar l.named (intervals_of_piece l.uuid) 58 l.rest (put_before front (all_of (intervals_of_piece l.uuid) (parts_after 58 (option_map (λ r. r.now) l.initial.rest))))

abbrev pub decreases-loop-rest : goal.decreases-loop-rest
decreases-loop-rest l = size_left (option_map (λ r. r.now) l.rest)
