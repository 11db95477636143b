use Rattle.std.proofs.Common.{◌≡◌, ◌/◌, ◌∙◌, ℕ, [], ◌∷◌, ap}
use Rattle.pk_copy.specs.KeyValue.{Part}
use Rattle.pk_copy.specs.PartValue.{part_value}
use Rattle.pk_copy.specs.SmallPartValue.{small_value, lent_lead, lent_parts}
use Rattle.pk_copy.proofs.FrontLaws.{table_in}
use Rattle.pk_copy.proofs.lent_kept.LentKept.of_one.Goals as goal

pub returns-clause-key : goal.returns-clause-key
returns-clause-key c =
    let front = c.of-front.ensures.front [] in
    let table : lent_lead c.of_part.result / 4 ≡ c.args.table =
    ap (λ (n : ℕ). n / 4) c.of_part.ensures.lead ∙ table_in c.of-front.result.lead c.of-front.result.head c.args.table (small_value c.from_part-small.result ∷ []) front in
    let parts : lent_parts c.of-front.result.head c.of_part.result ≡ part_value c.args.part ∷ [] = c.of_part.ensures.parts ∙ ap (λ (part : Part). part ∷ []) c.from_part-small.ensures in
    λ i. record { table = table i; parts = parts i }
