use Rattle.std.proofs.Common.{◌≡◌, eqb, drop}
use Rattle.std.specs.List.{list_any}
use Rattle.log_tables.proofs.walk.has_year.Given as goal

abbrev pub invariant-loop-log_type : goal.invariant-loop-log_type
invariant-loop-log_type l = list_any (λ t. eqb t 13) (drop l.log_type-index l.types) ≡ list_any (λ t. eqb t 13) l.types
