use Rattle.std.proofs.Common.{◌≡◌, map, take}
use Rattle.source_feed.specs.Image.{lent_row}
use Rattle.board_laws.specs.KeptRows.{kept_row}
use Rattle.apply_core.specs.Private.Changes.{put_row}
use Rattle.apply_core.proofs.puts.puts_of_rows.Given as goal

-- the puts so far are the rows so far
abbrev pub invariant-loop-key : goal.invariant-loop-key
invariant-loop-key l = l.puts.items ≡ map (λ row. put_row (kept_row l.plan (lent_row row))) (take l.key-index l.rows)
