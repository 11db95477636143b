use Rattle.std.proofs.Common.{◌≡◌, length, drop}
use Rattle.filter_rule.specs.Reading.{decide_in_turn, decisions_of}
use Rattle.filter_rule.proofs.streams.decisions_of.Given as goal

-- the rest of the rules leads from here to the decisions of all
abbrev pub invariant-loop-n : goal.invariant-loop-n
invariant-loop-n l =
    (length l.decisions.items ≡ length l.tables)
    × (decide_in_turn l.stream l.tables l.n (drop l.n l.rules) l.decisions.items ≡ decisions_of l.stream l.tables l.rules)
