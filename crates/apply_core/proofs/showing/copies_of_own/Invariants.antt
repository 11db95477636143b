use Rattle.std.proofs.Common.{◌≡◌, map}
use Rattle.target_tables.specs.Contents.{entry}
use Rattle.apply_core.specs.Shown.{rows_of_stream}
use Rattle.apply_core.proofs.ShowLaws.{Walks}
use Rattle.apply_core.proofs.showing.copies_of_own.Given as goal

-- the copies are those of the stream's rows so far
abbrev pub invariant-loop-key : goal.invariant-loop-key
invariant-loop-key l = Walks l.rows.entries l.yielded l.key-iterator × (l.copies ≡ rows_of_stream l.s (map entry l.yielded))
