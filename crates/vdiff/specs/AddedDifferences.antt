-- What a call that adds the first differences leaves on its writer.
use Rattle.std.specs.Prelude.{ℕ, List, Result}
use Rattle.filter_rule.specs.PlanTable.{TableValue}
use Rattle.printing.specs.Printing.{Written, Adds}
use Rattle.dump.specs.DumpRowsValue.{DumpRowsValue}
use Rattle.vdiff.specs.Differences.{Difference, AreFirstDifferences}
use Rattle.vdiff.specs.Texts.{differences_text}

-- the first n differences were added, or at a fault a beginning of what waited and of them was written
abbrev pub AddsFirst : {X E : Type 0} → Result X E → List TableValue → ℕ → DumpRowsValue → DumpRowsValue → Written → List ℕ → Written → List ℕ → Type 0
AddsFirst result tables n source target old waited new waits =
    (found : List Difference) × AreFirstDifferences n source target found × Adds result old waited new waits (differences_text tables found)
