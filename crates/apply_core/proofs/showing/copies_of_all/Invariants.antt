use Rattle.std.proofs.Common.{◌≡◌, map}
use Rattle.target_tables.specs.Contents.{entry}
use Rattle.apply_core.specs.Shown.{all_rows}
use Rattle.apply_core.proofs.ShowLaws.{Walks}
use Rattle.apply_core.proofs.showing.copies_of_all.Given as goal

-- the copies are those of the rows so far
abbrev pub invariant-loop-key : goal.invariant-loop-key
invariant-loop-key l = Walks l.rows.entries l.yielded l.key-iterator × (l.copies ≡ all_rows (map entry l.yielded))
