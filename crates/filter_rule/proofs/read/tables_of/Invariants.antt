use Rattle.std.proofs.Common.{◌≡◌, drop}
use Rattle.list_laws.specs.Outcome.{each}
use Rattle.filter_rule.specs.Resolving.{resolved}
use Rattle.filter_rule.proofs.EachLaws.{rest_of_each}
use Rattle.filter_rule.proofs.read.tables_of.Given as goal

-- what is found, and the rest's tables, are all tables
abbrev pub invariant-loop-table : goal.invariant-loop-table
invariant-loop-table l = rest_of_each resolved l.found.items (drop l.table-index l.tables) ≡ each resolved l.tables
