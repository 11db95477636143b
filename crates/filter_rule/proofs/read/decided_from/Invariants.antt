use Rattle.std.proofs.Common.{◌≡◌, drop}
use Rattle.filter_rule.specs.Reading.{decided_from}
use Rattle.filter_rule.proofs.EachLaws.{with_front}
use Rattle.filter_rule.proofs.read.decided_from.Given as goal

-- what the streams so far decide, and what the others do, is all
abbrev pub invariant-loop-n : goal.invariant-loop-n
invariant-loop-n l = with_front l.decided.items (decided_from l.tables l.n (drop l.n l.streams)) ≡ decided_from l.tables 0 l.streams
