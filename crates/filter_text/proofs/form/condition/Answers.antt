use Rattle.std.proofs.Common.{sym, ◌∙◌, arith}
use Rattle.std.proofs.lemmas.Grind.{common_steps}
use Rattle.filter_text.proofs.SliceLaws.{none_left, short_condition, three, condition_read, condition_not}
use Rattle.filter_text.proofs.form.condition.Goals as goal

pub returns-in-empty : goal.returns-in-empty
returns-in-empty c = none_left c.args.tokens.now c.in-empty.len_below

pub returns-in_default : goal.returns-in_default
returns-in_default c = short_condition c.args.tokens.now c.in_default.len_at_least c.in_default.len_below

pub returns-then-opens_condition : goal.returns-then-opens_condition
returns-then-opens_condition c =
    let parts = three c.args.tokens.now c.in-len3-up.len_at_least in
    let opens = sym c.opens_condition.ensures ∙ c.if-opens_condition.true in
    rw parts.is (condition_read parts.a parts.b parts.c parts.rest _ c.arguments.result (rw parts.is at opens) (rw parts.is at c.arguments.ensures) (grind (arith, common_steps)))

pub returns-else-opens_condition : goal.returns-else-opens_condition
returns-else-opens_condition c =
    let parts = three c.args.tokens.now c.in-len3-up.len_at_least in
    let opens = sym c.opens_condition.ensures ∙ c.if-opens_condition.false in
    rw parts.is (condition_not parts.a parts.b parts.c parts.rest (rw parts.is at opens))
