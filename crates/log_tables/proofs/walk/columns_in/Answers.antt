use Rattle.std.proofs.Common.{◌≤◌, ◌+◌, map, sym, ap, ◌∙◌, arith}
use Rattle.std.proofs.lemmas.Result.{err_from_is_err_and}
use Rattle.std.proofs.lemmas.List.{nil_from_length}
use Rattle.log_tables.specs.Column.{wanted_value, column_value, told_value, columns_in}
use Rattle.log_tables.proofs.Fronts.{front-start}
use Rattle.log_tables.proofs.WalkLaws.{columns_more, columns_refused, columns_few, columns_end, columns_over}
use Rattle.log_tables.proofs.walk.columns_in.Goals as goal

pub loop-column-init : goal.loop-column-init
loop-column-init c = (
  front-start (map column_value c.new-columns.result.items) (columns_in (map wanted_value c.args.wanted.now) c.args.types.now (told_value c.args.told)) (ap (map column_value) c.new-columns.ensures.items),
  omega (arith, c.requires.numbers),
  omega (arith, c.requires.past),
)

pub returns-in_default : goal.returns-in_default
returns-in_default c =
    columns_few wanted_value c.args.wanted.now c.loop-column.column-index c.loop-column.others.now (told_value c.loop-column.left) (map column_value c.loop-column.columns.items) _ c.loop-column-test.true (nil_from_length c.loop-column.others.now c.in_default.ensures.cases) c.loop-column.invariant.0

pub returns-in_err-found : goal.returns-in_err-found
returns-in_err-found c =
    let p = err_from_is_err_and c.from_residual.result c.from_residual.ensures.1 in
    rw (p.1, p.2)
    (columns_refused wanted_value c.args.wanted.now c.loop-column.column-index _ c.loop-column.others.now c.in-Some.behind.now c.in-Some.log_type.now (told_value c.loop-column.left) c.in_err-found.field-0.0 (map column_value c.loop-column.columns.items) _ c.loop-column-test.true c.in-Some.ensures.cases.0 c.in_err-found.ensures.value c.loop-column.invariant.0)

pub loop-column-preserved : goal.loop-column-preserved
loop-column-preserved c =
    let few : c.in_ok-found.rest.numbers ≤ c.loop-column.column-index + 1 = omega (arith, c.in_ok-found.ensures.few.0, c.loop-column.invariant.1) in
    let past : c.in_ok-found.rest.collations.past ≤ c.loop-column.column-index + 1 = omega (arith, c.in_ok-found.ensures.few.1, c.loop-column.invariant.2) in (
      rw c.in_ok-push_column.ensures
          (columns_more wanted_value c.args.wanted.now c.loop-column.column-index _ c.loop-column.others.now c.in-Some.behind.now c.in-Some.log_type.now (told_value c.loop-column.left) (column_value c.in_ok-found.found, told_value c.in_ok-found.rest) (map column_value c.loop-column.columns.items) _ c.loop-column-test.true c.in-Some.ensures.cases.0 c.in_ok-found.ensures.value c.loop-column.invariant.0),
      few,
      past,
    )

pub returns-then-not-is_all_told : goal.returns-then-not-is_all_told
returns-then-not-is_all_told c =
    columns_over wanted_value c.args.wanted.now c.loop-column.column-index c.loop-column.others.now (told_value c.loop-column.left) (map column_value c.loop-column.columns.items) _ c.loop-column-test.false (sym c.is_all_told.ensures ∙ c.if-not-is_all_told.true) c.loop-column.invariant.0

pub returns : goal.returns
returns c =
    columns_end wanted_value c.args.wanted.now c.loop-column.column-index c.loop-column.others.now (told_value c.loop-column.left) (map column_value c.loop-column.columns.items) _ c.loop-column-test.false (sym c.is_all_told.ensures ∙ c.if-not-is_all_told.false) c.loop-column.invariant.0
