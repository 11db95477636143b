use Rattle.std.proofs.Common.{◌≡◌, ◌/◌, ◌∙◌, ℕ, [], ◌∷◌, ap}
use Rattle.pk_copy.specs.KeyValue.{Part}
use Rattle.pk_copy.specs.PartValue.{part_value, kept_lead, kept_parts}
use Rattle.pk_copy.specs.SmallPartValue.{small_value}
use Rattle.pk_copy.proofs.FrontLaws.{table_in}
use Rattle.pk_copy.proofs.kept.KeptKey.of_one.Goals as goal

pub returns-clause-key : goal.returns-clause-key
returns-clause-key c =
    let front = c.of-front.ensures.front [] in
    let table : kept_lead c.in_ok-rest.rest / 4 ≡ c.args.table =
    ap (λ (n : ℕ). n / 4) c.in_ok-rest.ensures.lead ∙ table_in c.of-front.result.lead c.of-front.result.head c.args.table (small_value c.from_part-small.result ∷ []) front in
    let parts : kept_parts c.of-front.result.head c.in_ok-rest.rest ≡ part_value c.args.part ∷ [] = c.in_ok-rest.ensures.parts ∙ ap (λ (part : Part). part ∷ []) c.from_part-small.ensures in
    λ i. record { table = table i; parts = parts i }
