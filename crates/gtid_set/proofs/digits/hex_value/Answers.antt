use Rattle.std.proofs.Common.{ℕ, ◌∙◌, ap, arith, unwrap_or}
use Rattle.gtid_set.specs.Digits.{hex_digit_of}
use Rattle.gtid_set.proofs.HexTables.{value_of, value_bound}
use Rattle.gtid_set.proofs.digits.hex_value.Goals as goal

pub returns-clause-value : goal.returns-clause-value
returns-clause-value c = value_of c.from.result (omega (arith, c.from.ensures)) ∙ ap (λ (b : ℕ). unwrap_or (hex_digit_of b) 65536) c.from.ensures

pub returns-clause-bound : goal.returns-clause-bound
returns-clause-bound c = value_bound c.from.result _ (value_of c.from.result (omega (arith, c.from.ensures)))
