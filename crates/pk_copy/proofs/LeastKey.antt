-- A key without parts comes first in its table.
use Rattle.std.specs.Prelude.{◌≡◌, ℕ, List, [], ◌∷◌, false, refl}
use Rattle.std.proofs.Common.{◌∙◌, ap, sym}
use Rattle.std.proofs.lemmas.Cmp.{tied_itself, nat_cmp_total}
use Rattle.std.specs.Ordering.{ordering_then, is_lt, nat_cmp}
use Rattle.std.specs.declared.cmp.Ordering.{Ordering}
use Rattle.pk_copy.specs.KeyValue.{Part, KeyValue}
use Rattle.pk_copy.specs.KeyOrder.{parts_cmp, key_cmp}

not-before-none : (parts : List Part) → is_lt (parts_cmp parts []) ≡ false
not-before-none [] = refl
not-before-none (part ∷ parts) = refl

pub not-before-least : (key least : KeyValue) → key.table ≡ least.table → least.parts ≡ [] → is_lt (key_cmp key least) ≡ false
not-before-least key least table none =
    ap (λ (r : Ordering). is_lt (ordering_then r (parts_cmp key.parts least.parts))) (ap (nat_cmp key.table) (sym table) ∙ tied_itself nat_cmp_total key.table)
    ∙ ap (λ (parts : List Part). is_lt (parts_cmp key.parts parts)) none
    ∙ not-before-none key.parts
