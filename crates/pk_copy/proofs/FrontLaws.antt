-- Fronts keep the order of keys.
use Rattle.std.proofs.Common.{◌≡◌, ℕ, zero, suc, pos, negsuc, ◌+◌, ◌-◌, ◌*◌, ◌/◌, ◌^◌, ◌<◌, ◌≤◌, List, [], ◌∷◌, false, ltb, refl, sym, ap, subst, ◌∙◌, arith}
use Rattle.std.specs.Prelude.{Option, Some, IfSome}
use Rattle.std.proofs.lemmas.Bool.{true≢false, cond-true, lt-ltb}
use Rattle.std.proofs.lemmas.Cmp.{ranked, tied_itself}
use Rattle.std.specs.Cmp.{IsTotalOrder, nat_cmp_total, on_total, then_total}
use Rattle.std.specs.Cmp.Lexicographic.{slice_cmp}
use Rattle.std.specs.Ordering.{nat_cmp, int_cmp, ordering_then, ordering_reverse, is_lt, is_gt}
use Rattle.std.specs.declared.cmp.Ordering.{Ordering}
use Rattle.std.specs.declared.cmp.Ordering.TheVariants.{Less, Equal, Greater}
use Rattle.pk_copy.specs.KeyValue.{Part, number, bytes, KeyValue}
use Rattle.pk_copy.specs.KeyOrder.{parts_cmp, key_cmp}
use Rattle.pk_copy.specs.KeyOrderLaws.{key_cmp_total}
use Rattle.pk_copy.specs.KeyFront.{kind_of, head_of, lead_of, IsFrontOf, front_cmp, BeginInBytes, FrontsKeepTheOrder}
use Rattle.pk_copy.proofs.WordLaws.{words_in_order}

pub kind_small : (parts : List Part) → kind_of parts ≤ 3
kind_small [] = omega arith
kind_small (number (negsuc below) ∷ parts) = omega arith
kind_small (number (pos value) ∷ parts) = omega arith
kind_small (bytes text ∷ parts) = omega arith

-- a lesser kind comes first
kinds_less : (xs ys : List Part) → kind_of xs < kind_of ys → parts_cmp xs ys ≡ Less
kinds_less xs [] less = absurd (omega (arith, less))
kinds_less [] (y ∷ ys) less = refl
kinds_less (number (negsuc a) ∷ xs) (number (negsuc b) ∷ ys) less = absurd (omega (arith, less))
kinds_less (number (negsuc a) ∷ xs) (number (pos b) ∷ ys) less = refl
kinds_less (number (negsuc a) ∷ xs) (bytes b ∷ ys) less = refl
kinds_less (number (pos a) ∷ xs) (number (negsuc b) ∷ ys) less = absurd (omega (arith, less))
kinds_less (number (pos a) ∷ xs) (number (pos b) ∷ ys) less = absurd (omega (arith, less))
kinds_less (number (pos a) ∷ xs) (bytes b ∷ ys) less = refl
kinds_less (bytes a ∷ xs) (number (negsuc b) ∷ ys) less = absurd (omega (arith, less))
kinds_less (bytes a ∷ xs) (number (pos b) ∷ ys) less = absurd (omega (arith, less))
kinds_less (bytes a ∷ xs) (bytes b ∷ ys) less = absurd (omega (arith, less))

before : (o next : Ordering) → o ≡ Less → ordering_then o next ≡ Less
before o next e = ap (λ (first : Ordering). ordering_then first next) e

less_naturals : (a b : ℕ) → a < b → int_cmp (pos a) (pos b) ≡ Less
less_naturals a b less = cond-true (ltb a b) _ _ (lt-ltb a b less)

less_negatives : (a b : ℕ) → b < a → int_cmp (negsuc a) (negsuc b) ≡ Less
less_negatives a b less = cond-true (ltb b a) _ _ (lt-ltb b a less)

-- of one kind the one with the lesser head comes first
heads_less : (xs ys : List Part) → kind_of xs ≡ kind_of ys → BeginInBytes ys → head_of xs < head_of ys → parts_cmp xs ys ≡ Less
heads_less xs [] same are less = absurd (omega (arith, less))
heads_less [] (y ∷ ys) same are less = refl
heads_less (number (negsuc a) ∷ xs) (number (negsuc b) ∷ ys) same are less = before _ _ (less_negatives a b (omega (arith, less)))
heads_less (number (negsuc a) ∷ xs) (number (pos b) ∷ ys) same are less = refl
heads_less (number (negsuc a) ∷ xs) (bytes b ∷ ys) same are less = refl
heads_less (number (pos a) ∷ xs) (number (negsuc b) ∷ ys) same are less = absurd (omega (arith, same))
heads_less (number (pos a) ∷ xs) (number (pos b) ∷ ys) same are less = before _ _ (less_naturals a b less)
heads_less (number (pos a) ∷ xs) (bytes b ∷ ys) same are less = refl
heads_less (bytes a ∷ xs) (number (negsuc b) ∷ ys) same are less = absurd (omega (arith, same))
heads_less (bytes a ∷ xs) (number (pos b) ∷ ys) same are less = absurd (omega (arith, same))
heads_less (bytes a ∷ xs) (bytes b ∷ ys) same are less = before _ _ (words_in_order 8 a b are less)

-- ---- keys

by_table : (x y : KeyValue) (o : Ordering) → o ≡ nat_cmp x.table y.table → (y.table < x.table → ⊥) → (x.table ≡ y.table → parts_cmp x.parts y.parts ≡ Less)
    → ordering_then o (parts_cmp x.parts y.parts) ≡ Less
by_table x y Less e upto next = refl
by_table x y Equal e upto next = next (ranked x.table y.table Equal e)
by_table x y Greater e upto next = absurd (upto (ranked x.table y.table Greater e))

pub leads_less : (x y : KeyValue) → lead_of x < lead_of y → key_cmp x y ≡ Less
leads_less x y less =
    let most = kind_small y.parts in
    by_table x y (nat_cmp x.table y.table) refl (λ more. omega (arith, less, more, most))
    (λ same. kinds_less x.parts y.parts (omega (arith, less, same)))

pub heads_in_order : (x y : KeyValue) → lead_of x ≡ lead_of y → BeginInBytes y.parts → head_of x.parts < head_of y.parts → key_cmp x y ≡ Less
heads_in_order x y leads are less =
    let mine = kind_small x.parts in
    let most = kind_small y.parts in
    by_table x y (nat_cmp x.table y.table) refl (λ more. omega (arith, leads, more, mine, most))
    (λ same. heads_less x.parts y.parts (omega (arith, leads, same)) are less)

pub turned : (x y : KeyValue) → key_cmp y x ≡ Less → key_cmp x y ≡ Greater
turned x y less = key_cmp_total.antisymm x y ∙ ap ordering_reverse less

-- ---- keys as they are kept

-- a lead has the table
pub table_in : (lead head table : ℕ) (parts : List Part) → IsFrontOf lead head (record { table = table; parts = parts }) → lead / 4 ≡ table
table_in lead head table parts front =
    let is : lead ≡ 4 * table + kind_of parts = front.is_lead in
    let most = kind_small parts in
    omega (arith, is, most)

-- the same numbers are a front too
pub front_of_same : (lead head lead' head' : ℕ) (key : KeyValue) → lead ≡ lead' → head ≡ head' → IsFrontOf lead' head' key → IsFrontOf lead head key
front_of_same lead head lead' head' key leads heads front = record {
  is_lead = leads ∙ front.is_lead;
  is_head = heads ∙ front.is_head;
  in_bytes = front.in_bytes;
}

-- where leads are equal, the parts decide
pub behind_leads : (lead lead' : ℕ) (xs ys : List Part) → lead ≡ lead' → parts_cmp xs ys ≡ key_cmp (record { table = lead / 4; parts = xs }) (record { table = lead' / 4; parts = ys })
behind_leads lead lead' xs ys same =
    sym (ap (λ (o : Ordering). ordering_then o (parts_cmp xs ys)) (ap (λ (n : ℕ). nat_cmp (lead / 4) (n / 4)) (sym same) ∙ tied_itself nat_cmp_total (lead / 4)))

pub told_order : (o : Option Ordering) (order wanted : Ordering) → o ≡ Some order → IfSome o (λ told. told ≡ wanted) → order ≡ wanted
told_order o order wanted is told = subst (λ (answer : Option Ordering). IfSome answer (λ said. said ≡ wanted)) is told

-- ---- the law

by_lead : (x y : KeyValue) (o p : Ordering) → o ≡ nat_cmp (lead_of x) (lead_of y) → p ≡ nat_cmp (head_of x.parts) (head_of y.parts) → BeginInBytes y.parts
    → ordering_then o p ≡ Less → key_cmp x y ≡ Less
by_lead x y Less p e f are less = leads_less x y (ranked (lead_of x) (lead_of y) Less e)
by_lead x y Equal Less e f are less = heads_in_order x y (ranked (lead_of x) (lead_of y) Equal e) are (ranked (head_of x.parts) (head_of y.parts) Less f)
by_lead x y Equal Equal e f are less = absurd (true≢false (sym (ap is_lt less)))
by_lead x y Equal Greater e f are less = absurd (true≢false (sym (ap is_lt less)))
by_lead x y Greater p e f are less = absurd (true≢false (sym (ap is_lt less)))

front_less : (x y : KeyValue) → BeginInBytes y.parts → front_cmp x y ≡ Less → key_cmp x y ≡ Less
front_less x y are less = by_lead x y (nat_cmp (lead_of x) (lead_of y)) (nat_cmp (head_of x.parts) (head_of y.parts)) refl refl are less

front_total : IsTotalOrder front_cmp
front_total = then_total (on_total lead_of nat_cmp_total) (on_total (λ key. head_of key.parts) nat_cmp_total)

never_greater : (x y : KeyValue) (o : Ordering) → o ≡ front_cmp x y → BeginInBytes x.parts → key_cmp x y ≡ Less → is_gt o ≡ false
never_greater x y Less e are less = refl
never_greater x y Equal e are less = refl
never_greater x y Greater e are less =
    let back : front_cmp y x ≡ Less = front_total.antisymm y x ∙ ap ordering_reverse (sym e) in
    absurd (true≢false (ap is_lt (sym less ∙ turned x y (front_less y x are back))))

pub fronts_keep : FrontsKeepTheOrder
fronts_keep x y mine others = (front_less x y others, never_greater x y (front_cmp x y) refl mine)
