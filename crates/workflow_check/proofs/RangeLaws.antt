-- Ranges that lie end to end, step by step.
use Rattle.std.proofs.Common.{◌≡◌, ℕ, List, ◌∷◌, Option, Some, false, ap}
use Rattle.std.specs.Option.{option_map_or}
use Rattle.workflow_check.specs.Passing.{RangedValue}
use Rattle.workflow_check.specs.Ranges.{leads, next_at}

-- a step to the range that starts where others end
pub leads_more : (rs more : List RangedValue) (step next : RangedValue) (end : List ℕ) → next_at rs end ≡ Some next → leads rs (step ∷ more) (Some end) ≡ leads rs more next.range.end
leads_more rs more step next end found = ap (λ (o : Option RangedValue). option_map_or (λ (r : RangedValue). leads rs more r.range.end) o false) found
