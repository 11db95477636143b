use Rattle.std.proofs.Common.{◌∙◌, ◌++◌, ap, sym, Bool, List, map, ◌+◌, drop, append-nil, arith}
use Rattle.std.specs.Prelude.{codes, ◌&&◌}
use Rattle.vdiff_patch.specs.Patch.{Cell, differing_from}
use Rattle.vdiff_sql.specs.Columns.{listed}
use Rattle.vdiff_sql.specs.Statements.{assignment}
use Rattle.vdiff_sql.proofs.DifferingLaws.{place_more, none_behind, behind_either}
use Rattle.vdiff_sql.proofs.differing.push_assignments.Goals as goal

pub loop-i-preserved : goal.loop-i-preserved
loop-i-preserved c =
    let i = c.loop-i.i in
    let rest = map (assignment c.args.table.now) (differing_from (i + 1) (drop (i + 1) c.args.row.now) (drop (i + 1) c.args.there.now)) in
    ap (λ (b : Bool). c.push_if_other.new.text.items ++ listed (codes ", ") b rest) (c.is_none_yet-is_first.ensures ∙ ap (λ (b : Bool). c.loop-i.is_first && b) c.is_same.ensures)
    ∙ place_more (codes ", ") c.loop-i.is_first c.args.table.now c.args.row.now c.args.there.now i _ _ _ _ _ c.column-value.ensures c.column-other.ensures c.in_ok-push_if_other.ensures c.loop-i.invariant

pub returns : goal.returns
returns c =
    let none = none_behind c.args.row.now c.args.there.now c.loop-i.i (behind_either c.shorter-i-end.result _ _ c.loop-i.i c.shorter-i-end.ensures.either (omega arith)) in
    sym (append-nil c.loop-i.text.items)
    ∙ sym (ap (λ (l : List Cell). c.loop-i.text.items ++ listed (codes ", ") c.loop-i.is_first (map (assignment c.args.table.now) l)) none)
    ∙ c.loop-i.invariant
