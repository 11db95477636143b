use Rattle.std.proofs.Common.{◌≡◌, suc, ◌+◌, ◌-◌, true, sym, ◌∙◌, arith}
use Rattle.log_values.specs.Decimal.{group_fits}
use Rattle.log_values.proofs.DecimalLaws.{fit_more}
use Rattle.log_values.proofs.decimal.full_fit.Goals as goal

pub loop-preserved : goal.loop-preserved
loop-preserved c =
    let n = c.args.groups - c.loop.counter in
    let k = c.args.groups - (c.loop.counter + 1) in
    let one : n ≡ suc k = omega arith in
    let fits : group_fits c.args.bytes.now (record { place = c.loop.at; digits = 9 }) ≡ true = sym c.group_fits.ensures ∙ c.if-not-group_fits.false in
    (omega arith, fit_more c.args.bytes.now c.loop.at n k one fits ∙ c.loop.invariant.1)
