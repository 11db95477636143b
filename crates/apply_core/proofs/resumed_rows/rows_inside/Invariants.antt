use Rattle.std.proofs.Common.{◌≡◌, map, take}
use Rattle.std.specs.List.{filter}
use Rattle.pk_copy.specs.Marks.{is_inside}
use Rattle.source_feed.specs.Image.{lent_row}
use Rattle.apply_core.proofs.resumed_rows.rows_inside.Given as goal

-- the rows so far are those of the first ones that are copied
abbrev pub invariant-loop-i : goal.invariant-loop-i
invariant-loop-i l = map lent_row l.rows.items ≡ filter (λ row. is_inside l.marks row.0) (map lent_row (take l.i l.all.items))
