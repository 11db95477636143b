use Rattle.std.proofs.Common.{take, map}
use Rattle.std.specs.List.{AllByRecursion}
use Rattle.tiles_said.specs.Said.{IsRead}
use Rattle.tiles_said.proofs.files.check_files.Given as goal

-- the first files are read
abbrev pub invariant-loop-i : goal.invariant-loop-i
invariant-loop-i l = AllByRecursion IsRead (map (λ text. text.items) (take l.i l.texts))
