use Rattle.std.proofs.Common.{◌≡◌, ℕ, suc, ◌-◌, ◌+◌, ◌<◌, sym, ap, ◌∙◌, arith}
use Rattle.log_values.specs.Civil.{days_of_year, year_from}
use Rattle.log_values.proofs.CivilLaws.{year_here, year_later, year_last}
use Rattle.log_values.proofs.civil.year_of.Goals as goal

pub returns-then-left-size-clause-value : goal.returns-then-left-size-clause-value
returns-then-left-size-clause-value c =
    let less : c.loop.left < days_of_year c.loop.year = omega (arith, c.days_of_year-size.ensures) in
    sym (year_here (140 - c.loop.counter) c.loop.year c.loop.left (omega arith) less) ∙ c.loop.invariant.0

pub loop-preserved : goal.loop-preserved
loop-preserved c =
    let one : 140 - c.loop.counter ≡ suc (140 - (c.loop.counter + 1)) = omega arith in
    let size = c.days_of_year-size.result in
    (year_later (140 - c.loop.counter) (140 - (c.loop.counter + 1)) c.loop.year c.loop.left size one c.days_of_year-size.ensures (omega arith) ∙ c.loop.invariant.0, omega arith, omega arith)

pub returns-clause-value : goal.returns-clause-value
returns-clause-value c =
    let none : 140 - c.loop.counter ≡ 0 = omega arith in
    sym (year_last c.loop.year c.loop.left) ∙ ap (λ (k : ℕ). year_from k c.loop.year c.loop.left) (sym none) ∙ c.loop.invariant.0
