use Rattle.std.proofs.Common.{ap, sym, ◌∙◌}
use Rattle.pk_copy.specs.KeyValue.{KeyValue}
use Rattle.pk_copy.specs.SmallPartValue.{lent_key}
use Rattle.pk_copy.proofs.LeastKey.{not-before-least}
use Rattle.pk_copy.proofs.lent.LentKey.first_of.Goals as goal

pub returns-clause-least : goal.returns-clause-least
returns-clause-least c key table =
    not-before-least key (lent_key c.bare.result) (table ∙ sym (ap (λ (k : KeyValue). k.table) c.bare.ensures.key)) (ap (λ (k : KeyValue). k.parts) c.bare.ensures.key)
