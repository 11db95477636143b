use Rattle.std.proofs.Common.{◌≡◌, ℕ, suc, ◌-◌, ◌+◌, ◌<◌, sym, ap, ◌∙◌, arith}
use Rattle.log_values.specs.Civil.{days_of_month, month_from}
use Rattle.log_values.proofs.CivilLaws.{month_here, month_later, month_last}
use Rattle.log_values.proofs.civil.month_of.Goals as goal

pub returns-then-left-size-clause-value : goal.returns-then-left-size-clause-value
returns-then-left-size-clause-value c =
    let less : c.loop.left < days_of_month c.args.year c.loop.month = omega (arith, c.days_of_month-size.ensures) in
    sym (month_here (11 - c.loop.counter) c.args.year c.loop.month c.loop.left (omega arith) less) ∙ c.loop.invariant.0

pub loop-preserved : goal.loop-preserved
loop-preserved c =
    let one : 11 - c.loop.counter ≡ suc (11 - (c.loop.counter + 1)) = omega arith in
    let size = c.days_of_month-size.result in
    (month_later (11 - c.loop.counter) (11 - (c.loop.counter + 1)) c.args.year c.loop.month c.loop.left size one c.days_of_month-size.ensures (omega arith) ∙ c.loop.invariant.0, omega arith, omega arith)

pub returns-clause-value : goal.returns-clause-value
returns-clause-value c =
    let none : 11 - c.loop.counter ≡ 0 = omega arith in
    sym (month_last c.args.year c.loop.month c.loop.left) ∙ ap (λ (k : ℕ). month_from k c.args.year c.loop.month c.loop.left) (sym none) ∙ c.loop.invariant.0
