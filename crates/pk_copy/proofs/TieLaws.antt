-- Keys that the order doesn't tell apart are equal, and so are marks of as many tables.
use Rattle.std.specs.Prelude.{◌≡◌, ◌↔◌, List, [], ◌∷◌, Option, Some, None}
use Rattle.std.proofs.Common.{refl, sym, ap, subst}
use Rattle.std.proofs.lemmas.Bool.{true≢false}
use Rattle.std.proofs.lemmas.Cmp.{ranked, int_ranked, tied_itself}
use Rattle.std.specs.Cmp.Lexicographic.{slice_cmp}
use Rattle.std.specs.Option.{option_cmp}
use Rattle.std.specs.Ordering.{ordering_then, is_lt, is_gt, nat_cmp}
use Rattle.std.specs.declared.cmp.Ordering.{Ordering}
use Rattle.std.specs.declared.cmp.Ordering.TheVariants.{Less, Equal, Greater}
use Rattle.pk_copy.specs.KeyValue.{Part, number, bytes, KeyValue}
use Rattle.pk_copy.specs.KeyOrder.{part_cmp, parts_cmp, key_cmp}
use Rattle.pk_copy.specs.KeyOrderLaws.{key_cmp_total}
use Rattle.pk_copy.specs.Marks.{marks_cmp, MarksTieWhereEqual}
use Rattle.pk_copy.specs.MarkOrderLaws.{marks_cmp_total}

-- two answers tie together only where each does
both-tie : (r s : Ordering) → ordering_then r s ≡ Equal → (r ≡ Equal) × (s ≡ Equal)
both-tie Less s tie = absurd (true≢false (ap is_lt tie))
both-tie Equal s tie = (refl, tie)
both-tie Greater s tie = absurd (true≢false (ap is_gt tie))

-- lists tie only where they are equal, if their elements do
lists-tie : {X : Type 0} (R : X → X → Ordering) → ((x y : X) → R x y ≡ Equal → x ≡ y) → (xs ys : List X) → slice_cmp R xs ys ≡ Equal → xs ≡ ys
lists-tie R same [] [] tie = refl
lists-tie R same [] (y ∷ ys) tie = absurd (true≢false (ap is_lt tie))
lists-tie R same (x ∷ xs) [] tie = absurd (true≢false (ap is_gt tie))
lists-tie R same (x ∷ xs) (y ∷ ys) tie =
    let both = both-tie (R x y) (slice_cmp R xs ys) tie in
    let heads : x ≡ y = same x y both.0 in
    let tails : xs ≡ ys = lists-tie R same xs ys both.1 in
    λ i. heads i ∷ tails i

parts-tie : (x y : Part) → part_cmp x y ≡ Equal → x ≡ y
parts-tie (number a) (number b) tie = ap number (int_ranked a b Equal (sym tie))
parts-tie (number a) (bytes b) tie = absurd (true≢false (ap is_lt tie))
parts-tie (bytes a) (number b) tie = absurd (true≢false (ap is_gt tie))
parts-tie (bytes a) (bytes b) tie = ap bytes (lists-tie nat_cmp (λ x y e. ranked x y Equal (sym e)) a b tie)

pub keys-tie : (a b : KeyValue) → (key_cmp a b ≡ Equal) ↔ (a ≡ b)
keys-tie a b = (
  λ tie.
      let both = both-tie (nat_cmp a.table b.table) (parts_cmp a.parts b.parts) tie in
      let tables : a.table ≡ b.table = ranked a.table b.table Equal (sym both.0) in
      let parts : a.parts ≡ b.parts = lists-tie part_cmp parts-tie a.parts b.parts both.1 in
      λ i. record { table = tables i; parts = parts i },
  λ same. subst (λ key. key_cmp a key ≡ Equal) same (tied_itself key_cmp_total a),
)

-- ---- marks

options-tie : {X : Type 0} (R : X → X → Ordering) → ((x y : X) → R x y ≡ Equal → x ≡ y) → (p q : Option X) → option_cmp R p q ≡ Equal → p ≡ q
options-tie R same None None tie = refl
options-tie R same None (Some y) tie = absurd (true≢false (ap is_lt tie))
options-tie R same (Some x) None tie = absurd (true≢false (ap is_gt tie))
options-tie R same (Some x) (Some y) tie = ap Some (same x y tie)

pub marks-tie : MarksTieWhereEqual
marks-tie x y tables = (
  λ tie.
      let both = both-tie (nat_cmp x.done y.done) (option_cmp key_cmp x.upto y.upto) tie in
      let done : x.done ≡ y.done = ranked x.done y.done Equal (sym both.0) in
      let upto : x.upto ≡ y.upto = options-tie key_cmp (λ a b e. (keys-tie a b).0 e) x.upto y.upto both.1 in
      λ i. record { tables = tables i; done = done i; upto = upto i },
  λ same. subst (λ marks. marks_cmp x marks ≡ Equal) same (tied_itself marks_cmp_total x),
)
