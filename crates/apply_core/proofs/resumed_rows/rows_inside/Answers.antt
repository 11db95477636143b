use Rattle.std.proofs.Common.{◌≡◌, ◌<◌, ◌∙◌, ◌∷◌, [], List, length, map, refl, sym, ap, arith}
use Rattle.std.proofs.lemmas.List.{map-append}
use Rattle.std.proofs.lemmas.Option.{slice_get_read}
use Rattle.std.specs.Global.{Vec}
use Rattle.pk_copy.specs.Marks.{is_inside}
use Rattle.source_feed.specs.Image.{lent_row}
use Rattle.apply_core.proofs.ResumeLaws.{LentRow, inside_more, outside_more}
use Rattle.apply_core.proofs.resumed_rows.rows_inside.Goals as goal
use Rattle.apply_core.proofs.resumed_rows.rows_inside.Goals.{then-is_inside+in_ok-push, else-is_inside}

pub loop-i-preserved : goal.loop-i-preserved
loop-i-preserved c =
    let all : List LentRow = c.in_ok-all.all.items in
    let row : LentRow = c.index-row.result.now in
    let inside : c.loop-i.i < length all = omega (arith, c.loop-i-test.true, c.len-i-end.ensures) in
    let there = slice_get_read all (length all) c.loop-i.i row refl inside c.index-row.ensures in
    let test : c.is_inside.result ≡ is_inside c.args.marks.now row.0.now = c.is_inside.ensures in
    let rows : Vec LentRow → List _ = λ v. map lent_row v.items in
    elim c.if-is_inside.branch [
      | then-is_inside+in_ok-push w ↦ inside_more c.args.marks.now all c.loop-i.i row there (map lent_row c.loop-i.rows.items) c.loop-i.invariant (sym test ∙ w.if-is_inside.true) (map lent_row c.if-is_inside.rows.items) (ap rows w.rows-is ∙ ap (map lent_row) w.in_ok-push.ensures.items ∙ map-append lent_row c.loop-i.rows.items (row ∷ []))
      | else-is_inside w ↦ ap rows w.rows-is ∙ outside_more c.args.marks.now all c.loop-i.i row there (map lent_row c.loop-i.rows.items) c.loop-i.invariant (sym test ∙ w.if-is_inside.false)
    ]
