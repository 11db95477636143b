use Rattle.std.proofs.Common.{rules, ◌≡◌, [], length, refl, sym, ◌∙◌, arith}
use Rattle.std.proofs.lemmas.Option.{slice_get_read}
use Rattle.row_view.specs.ColumnValue.{column_value}
use Rattle.row_view.specs.Picked.{picked}
use Rattle.row_view.proofs.PickLaws.{goes_with, stops_with, ends_early}
use Rattle.row_view.proofs.same.are_picked.Goals as goal

pub returns-in_default : goal.returns-in_default
returns-in_default c =
    let there = slice_get_read c.args.places.now (length c.args.places.now) c.loop-place.place-index c.from.result refl (omega (arith, c.loop-place-test.true)) (search rules) in
    (λ e. absurd cc, λ whole. absurd (let same = stops_with c.args.places.now c.args.row.now c.loop-place.columns c.next.new.self c.loop-place.place-index c.from.result (column_value c.in-Some.column) (column_value c.column.result) there c.column.ensures c.in-Some.ensures.steps (c.loop-place.invariant.1 whole) in let told = c.is_same.ensures.1 same in let not = c.if-is_same.false in cc))

pub returns-in_default-2 : goal.returns-in_default-2
returns-in_default-2 c =
    let none : c.loop-place.columns ≡ [] = search rules in
    (λ e. absurd cc, λ whole. absurd (ends_early c.args.places.now c.args.row.now c.loop-place.place-index (omega (arith, c.loop-place-test.true)) (sym none ∙ c.loop-place.invariant.1 whole)))

pub loop-place-preserved : goal.loop-place-preserved
loop-place-preserved c =
    let there = slice_get_read c.args.places.now (length c.args.places.now) c.loop-place.place-index c.from.result refl (omega (arith, c.loop-place-test.true)) (search rules) in
    goes_with c.args.places.now c.args.row.now c.loop-place.columns c.next.new.self c.loop-place.place-index c.from.result (column_value c.in-Some.column) (column_value c.column.result) there c.column.ensures c.in-Some.ensures.steps
    (c.is_same.ensures.0 c.if-is_same.true) (c.args.columns ≡ picked c.args.places.now c.args.row.now) c.loop-place.invariant
