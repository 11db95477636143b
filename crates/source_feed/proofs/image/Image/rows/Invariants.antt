use Rattle.std.proofs.Common.{◌≡◌, map}
use Rattle.target_tables.specs.Contents.{entry}
use Rattle.source_feed.specs.Image.{lent_row}
use Rattle.source_feed.specs.Private.ImageEntries.{rows_of}
use Rattle.source_feed.proofs.image.Image.rows.Given as goal

-- the rows so far are those of the entries so far
abbrev pub invariant-loop-key : goal.invariant-loop-key
invariant-loop-key l = map lent_row l.found.items ≡ rows_of (map entry l.yielded)
