-- The order of keys is total, and keys that it doesn't tell apart are equal.
use Rattle.std.specs.Prelude.{◌≡◌}
use Rattle.std.proofs.Common.{refl, ap}
use Rattle.std.proofs.lemmas.Bool.{true≢false}
use Rattle.std.specs.Cmp.{IsTotalOrder, int_cmp_total, nat_cmp_total, on_total, then_total}
use Rattle.std.specs.Cmp.Lexicographic.{lists_total, nat_list_cmp_total}
use Rattle.std.specs.Ordering.{ordering_reverse, is_lt, is_gt}
use Rattle.std.specs.declared.cmp.Ordering.TheVariants.{Less, Equal}
use Rattle.pk_copy.specs.KeyValue.{Part, number, bytes}
use Rattle.pk_copy.specs.KeyOrder.{part_cmp, key_cmp}

part_cmp-antisymm : (x y : Part) → part_cmp x y ≡ ordering_reverse (part_cmp y x)
part_cmp-antisymm (number a) (number b) = int_cmp_total.antisymm a b
part_cmp-antisymm (number a) (bytes b) = refl
part_cmp-antisymm (bytes a) (number b) = refl
part_cmp-antisymm (bytes a) (bytes b) = nat_list_cmp_total.antisymm a b

part_cmp-trans : (x y z : Part) → part_cmp x y ≡ Less → part_cmp y z ≡ Less → part_cmp x z ≡ Less
part_cmp-trans (number a) (number b) (number c) p q = int_cmp_total.trans a b c p q
part_cmp-trans (number a) (number b) (bytes c) p q = refl
part_cmp-trans (number a) (bytes b) (number c) p q = absurd (true≢false (ap is_gt q))
part_cmp-trans (number a) (bytes b) (bytes c) p q = refl
part_cmp-trans (bytes a) (number b) z p q = absurd (true≢false (ap is_gt p))
part_cmp-trans (bytes a) (bytes b) (number c) p q = absurd (true≢false (ap is_gt q))
part_cmp-trans (bytes a) (bytes b) (bytes c) p q = nat_list_cmp_total.trans a b c p q

part_cmp-congr : (x y z : Part) → part_cmp x y ≡ Equal → part_cmp x z ≡ part_cmp y z
part_cmp-congr (number a) (number b) (number c) p = int_cmp_total.congr a b c p
part_cmp-congr (number a) (number b) (bytes c) p = refl
part_cmp-congr (number a) (bytes b) z p = absurd (true≢false (ap is_lt p))
part_cmp-congr (bytes a) (number b) z p = absurd (true≢false (ap is_gt p))
part_cmp-congr (bytes a) (bytes b) (number c) p = refl
part_cmp-congr (bytes a) (bytes b) (bytes c) p = nat_list_cmp_total.congr a b c p

pub part_cmp_total : IsTotalOrder part_cmp
part_cmp_total = record { antisymm = part_cmp-antisymm; trans = part_cmp-trans; congr = part_cmp-congr }

pub key_cmp_total : IsTotalOrder key_cmp
key_cmp_total = then_total (on_total (λ key. key.table) nat_cmp_total) (on_total (λ key. key.parts) (lists_total part_cmp_total))
