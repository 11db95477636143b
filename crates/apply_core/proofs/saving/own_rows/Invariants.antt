use Rattle.std.proofs.Common.{◌≡◌, map}
use Rattle.source_feed.specs.Image.{lent_row}
use Rattle.target_tables.specs.Contents.{entry}
use Rattle.apply_core.specs.Shown.{rows_of_stream}
use Rattle.apply_core.proofs.ShowLaws.{Walks}
use Rattle.apply_core.proofs.saving.own_rows.Given as goal

-- the rows so far are the stream's rows so far
abbrev pub invariant-loop-key : goal.invariant-loop-key
invariant-loop-key l = Walks l.rows.entries l.yielded l.key-iterator × (map lent_row l.own.items ≡ rows_of_stream l.s (map entry l.yielded))
