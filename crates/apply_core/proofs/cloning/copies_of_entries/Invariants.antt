use Rattle.std.proofs.Common.{◌≡◌, map}
use Rattle.target_tables.specs.Contents.{entry}
use Rattle.apply_core.proofs.ShowLaws.{Walks}
use Rattle.apply_core.proofs.cloning.copies_of_entries.Given as goal

-- the copies are those of the entries so far
abbrev pub invariant-loop-key : goal.invariant-loop-key
invariant-loop-key l = Walks l.rows.entries l.yielded l.key-iterator × (l.copies.entries ≡ map entry l.yielded)
