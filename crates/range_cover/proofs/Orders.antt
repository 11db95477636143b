-- Byte strings in their order.
use Rattle.std.proofs.Common.{◌≡◌, ℕ, true, false, not, List, refl, sym, ◌∙◌, ap}
use Rattle.std.proofs.lemmas.Cmp.{nat_list_cmp_total, tied_itself}
use Rattle.std.specs.Cmp.Lexicographic.{slice_cmp}
use Rattle.std.specs.Ordering.{nat_cmp, is_lt, is_le, ordering_reverse}
use Rattle.std.specs.declared.cmp.Ordering.{Ordering}
use Rattle.std.specs.declared.cmp.Ordering.TheVariants.{Less, Equal, Greater}
use Rattle.range_cover.specs.Private.Next.{is_less}

is_le-reverse : (o : Ordering) → is_le (ordering_reverse o) ≡ not (is_lt o)
is_le-reverse Less = refl
is_le-reverse Equal = refl
is_le-reverse Greater = refl

is_lt-less : (o : Ordering) → is_lt o ≡ true → o ≡ Less
is_lt-less Less h = refl
is_lt-less Equal h = cc
is_lt-less Greater h = cc

-- one is at most another just where the other isn't less
pub le-is : (one other : List ℕ) → is_le (slice_cmp nat_cmp one other) ≡ not (is_less other one)
le-is one other = ap (λ o. is_le o) (nat_list_cmp_total.antisymm one other) ∙ is_le-reverse (slice_cmp nat_cmp other one)

pub less-trans : (a b c : List ℕ) → is_less a b ≡ true → is_less b c ≡ true → is_less a c ≡ true
less-trans a b c ab bc =
    ap (λ o. is_lt o) (nat_list_cmp_total.trans a b c (is_lt-less (slice_cmp nat_cmp a b) ab) (is_lt-less (slice_cmp nat_cmp b c) bc))

pub never_less : (a : List ℕ) → is_less a a ≡ false
never_less a = ap (λ o. is_lt o) (tied_itself nat_list_cmp_total a)

-- by how two compare the other way round
turned : (a b : List ℕ) (o : Ordering) → slice_cmp nat_cmp a b ≡ o → slice_cmp nat_cmp b a ≡ ordering_reverse o
turned a b o is = nat_list_cmp_total.antisymm b a ∙ ap ordering_reverse is

-- what is less than one that is at most another is less than the other
pub less-upto : (a b c : List ℕ) → is_less a b ≡ true → is_less c b ≡ false → is_less a c ≡ true
less-upto a b c ab cb =
    elim (slice_cmp nat_cmp b c) as (λ o. slice_cmp nat_cmp b c ≡ o → is_less a c ≡ true) [
      | Less ↦ λ is. less-trans a b c ab (ap (λ o. is_lt o) is)
      | Equal ↦ λ is.
          let back : slice_cmp nat_cmp b a ≡ slice_cmp nat_cmp c a = nat_list_cmp_total.congr b c a is in
          let ba : slice_cmp nat_cmp b a ≡ Greater = turned a b Less (is_lt-less (slice_cmp nat_cmp a b) ab) in
          ap (λ o. is_lt o) (turned c a Greater (sym back ∙ ba))
      | Greater ↦ λ is.
          let less : is_less c b ≡ true = ap (λ o. is_lt o) (turned b c Greater is) in
          absurd (cc)
    ] refl

-- what is at most one that is less than another is less than the other
pub upto-less : (a b c : List ℕ) → is_less b a ≡ false → is_less b c ≡ true → is_less a c ≡ true
upto-less a b c ba bc =
    elim (slice_cmp nat_cmp a b) as (λ o. slice_cmp nat_cmp a b ≡ o → is_less a c ≡ true) [
      | Less ↦ λ is. less-trans a b c (ap (λ o. is_lt o) is) bc
      | Equal ↦ λ is. ap (λ o. is_lt o) (nat_list_cmp_total.congr a b c is ∙ is_lt-less (slice_cmp nat_cmp b c) bc)
      | Greater ↦ λ is.
          let less : is_less b a ≡ true = ap (λ o. is_lt o) (turned a b Greater is) in
          absurd (cc)
    ] refl

-- at most one that is at most another
pub upto-upto : (a b c : List ℕ) → is_less b a ≡ false → is_less c b ≡ false → is_less c a ≡ false
upto-upto a b c ba cb =
    elim (is_less c a) as (λ t. is_less c a ≡ t → t ≡ false) [
      | true ↦ λ is. let less : is_less c b ≡ true = less-upto c a b is ba in cc
      | false ↦ λ is. refl
    ] refl
