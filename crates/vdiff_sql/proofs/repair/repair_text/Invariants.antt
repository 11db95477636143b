use Rattle.std.proofs.Common.{◌≡◌, ◌++◌, map}
use Rattle.std.specs.List.{flat_map}
use Rattle.vdiff_patch.specs.AllDifferences.{differences_of}
use Rattle.vdiff_patch.specs.Patch.{change_at}
use Rattle.vdiff_sql.specs.Statements.{opening, statement_at}
use Rattle.vdiff_sql.proofs.repair.repair_text.Given as goal

-- the statements so far and those that are left are the whole
abbrev pub invariant-loop-found : goal.invariant-loop-found
invariant-loop-found l = l.text.items ++ flat_map (statement_at l.fn.schema l.fn.plan.tables) (map change_at l.found-iterator) ≡ opening ++ flat_map (statement_at l.fn.schema l.fn.plan.tables) (map change_at (differences_of l.fn.source l.fn.target))
