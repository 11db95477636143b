use Rattle.std.proofs.Common.{ℕ, List, sym, ◌∙◌}
use Rattle.log_tables.specs.declared.column.Wanted.{Wanted}
use Rattle.log_tables.specs.Column.{wanted_value}
use Rattle.log_tables.proofs.WalkLaws.{names_more, names_other, names_fault, names_end}
use Rattle.log_tables.proofs.names.are_names.Goals as goal

abbrev name_of : Wanted → List ℕ
name_of w = (wanted_value w).name

pub loop-column-preserved : goal.loop-column-preserved
loop-column-preserved c =
    names_more name_of c.args.wanted.now c.loop-column.column-index _ c.loop-column.left.now (c.in-Ok.name.now, c.in-Ok.rest.now) _ c.loop-column-test.true c.in-Ok.ensures (sym c.is_name.ensures ∙ c.if-not-is_name.false) c.loop-column.invariant

pub returns-then-not-is_name : goal.returns-then-not-is_name
returns-then-not-is_name c =
    names_other name_of c.args.wanted.now c.loop-column.column-index _ c.loop-column.left.now (c.in-Ok.name.now, c.in-Ok.rest.now) _ c.loop-column-test.true c.in-Ok.ensures (sym c.is_name.ensures ∙ c.if-not-is_name.true) c.loop-column.invariant

pub returns-in-Err : goal.returns-in-Err
returns-in-Err c = names_fault name_of c.args.wanted.now c.loop-column.column-index c.loop-column.left.now c.in-Err.field-0 _ c.loop-column-test.true c.in-Err.ensures c.loop-column.invariant

pub returns : goal.returns
returns c = c.is_empty.ensures ∙ names_end name_of c.args.wanted.now c.loop-column.column-index c.loop-column.left.now _ c.loop-column-test.false c.loop-column.invariant
