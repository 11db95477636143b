use Rattle.std.proofs.Common.{◌≡◌, drop}
use Rattle.filter_rule.specs.Reading.{first_kept}
use Rattle.filter_rule.proofs.keeping.first_kept.Given as goal

-- no stream so far has a rule for the table
abbrev pub invariant-loop-stream : goal.invariant-loop-stream
invariant-loop-stream l = first_kept l.t (drop l.stream-index l.streams) ≡ first_kept l.t l.streams
