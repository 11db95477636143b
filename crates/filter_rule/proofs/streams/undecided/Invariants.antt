use Rattle.std.proofs.Common.{◌≡◌, take}
use Rattle.filter_rule.specs.Reading.{undecided}
use Rattle.filter_rule.proofs.streams.undecided.Given as goal

-- a decision for each table so far
abbrev pub invariant-loop-table : goal.invariant-loop-table
invariant-loop-table l = l.decisions.items ≡ undecided (take l._table-index l.tables)
