use Rattle.std.proofs.Common.{rules}
use Rattle.filter_text.proofs.ListLaws.{listed_last, listed_more, last_from, more_from}
use Rattle.filter_text.proofs.column.behind_list.Goals as goal

pub returns-then-column-clause-some : goal.returns-then-column-clause-some
returns-then-column-clause-some c =
    listed_last c.args.text.now c.loop-column.left.now c.in-Some.column.behind.now c.in-Some.column.name.now c.loop-column.invariant (last_from c.loop-column.left.now c.in-Some.column c.in-Some.ensures.column c.if-column.true)

pub loop-column-preserved : goal.loop-column-preserved
loop-column-preserved c =
    listed_more c.args.text.now c.loop-column.left.now c.in-Some.column.behind.now c.in-Some.column.name.now c.loop-column.invariant (more_from c.loop-column.left.now c.in-Some.column c.in-Some.ensures.column c.if-column.false) (search rules)
