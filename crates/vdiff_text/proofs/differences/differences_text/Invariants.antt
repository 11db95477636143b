use Rattle.std.proofs.Common.{◌≡◌, ◌++◌, ◌-◌, take}
use Rattle.std.specs.List.{flat_map}
use Rattle.vdiff_text.specs.ShownDifferences.{shown_difference, shown_differences}
use Rattle.vdiff_text.proofs.differences.differences_text.Given as goal

-- the texts so far and those that are left are the whole
abbrev pub invariant-loop : goal.invariant-loop
invariant-loop l = l.text.items ++ flat_map (shown_difference l.fn.tables) (take (l.fn.count - l.counter) l.differences) ≡ shown_differences l.fn.tables l.fn.count l.fn.source l.fn.target
