use Rattle.std.proofs.Common.{◌+◌, ◌-◌, ◌*◌, ◌^◌, ℕ, List, ◌∷◌, negsuc, refl, sym, ap, subst}
use Rattle.pk_copy.specs.KeyValue.{Part, number}
use Rattle.pk_copy.specs.KeyFront.{IsFrontOf}
use Rattle.pk_copy.specs.SmallPartValue.{small_value}
use Rattle.pk_copy.proofs.front.Front.of.Goals as goal

pub returns-in-Negative-clause-front : goal.returns-in-Negative-clause-front
returns-in-Negative-clause-front c parts =
    subst (λ (part : Part). IsFrontOf (4 * c.from-lead.result + 1) (2 ^ 64 - 1 - c.in-Negative.below) (record { table = c.args.table; parts = part ∷ parts })) (sym (ap small_value c.in-Negative.is))
    (record { is_lead = ap (λ (n : ℕ). 4 * n + 1) c.from-lead.ensures; is_head = refl; in_bytes = tt })
