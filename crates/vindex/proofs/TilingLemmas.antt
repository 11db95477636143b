-- Ranges that lie end to end have each id once.
use Rattle.std.proofs.Common.{◌≡◌, ℕ, suc, zero, ◌+◌, ◌<◌, ◌≤◌, Bool, true, false, not, List, [], ◌∷◌, ◌++◌, ◌&&◌, map, length, get_or, take, drop, Option, None, Some, Bor, ◌↔◌, add-one, refl, sym, ◌∙◌, ap, subst, arith}
use Rattle.std.proofs.Math.Seq.{drop-cons}
use Rattle.std.proofs.lemmas.Bool.Decides.{nat_tests}
use Rattle.std.proofs.lemmas.Cmp.{nat_list_cmp_total}
use Rattle.std.proofs.lemmas.List.{drop_all}
use Rattle.std.proofs.lemmas.List.Folds.{list_all_more}
use Rattle.std.specs.Cmp.Lexicographic.{slice_cmp}
use Rattle.std.specs.List.{list_all, slice_get}
use Rattle.std.specs.Option.{option_copied, is_some}
use Rattle.std.specs.Ordering.{nat_cmp, is_lt, is_le, ordering_reverse}
use Rattle.std.specs.declared.cmp.Ordering.{Ordering}
use Rattle.std.specs.declared.cmp.Ordering.TheVariants.{Less, Equal, Greater}
use Rattle.vindex.specs.Bounds.{Bounds, is_below, in_range, is_ordered}
use Rattle.vindex.specs.Tiling.{Tiles, IsInOneRange, SplitsAllIds}

-- order

is_le-reverse : (o : Ordering) → is_le (ordering_reverse o) ≡ not (is_lt o)
is_le-reverse Less = refl
is_le-reverse Equal = refl
is_le-reverse Greater = refl

is_lt-less : (o : Ordering) → is_lt o ≡ true → o ≡ Less
is_lt-less Less h = refl
is_lt-less Equal h = cc
is_lt-less Greater h = cc

-- a start is at most an id just where the id isn't less
pub le-is : (start id : List ℕ) → is_le (slice_cmp nat_cmp start id) ≡ not (is_lt (slice_cmp nat_cmp id start))
le-is start id = ap (λ o. is_le o) (nat_list_cmp_total.antisymm start id) ∙ is_le-reverse (slice_cmp nat_cmp id start)

pub lt-trans : (a b c : List ℕ) → is_lt (slice_cmp nat_cmp a b) ≡ true → is_lt (slice_cmp nat_cmp b c) ≡ true → is_lt (slice_cmp nat_cmp a c) ≡ true
lt-trans a b c ab bc =
    ap (λ o. is_lt o) (nat_list_cmp_total.trans a b c (is_lt-less (slice_cmp nat_cmp a b) ab) (is_lt-less (slice_cmp nat_cmp b c) bc))

-- what is less than the start of a range is less than its end
pub below-end : (range : Bounds) (id : List ℕ) → is_ordered range ≡ true → is_lt (slice_cmp nat_cmp id range.start) ≡ true → is_below range.end id ≡ true
below-end range id ordered below =
    elim range.end as (λ end. is_below end range.start ≡ true → is_below end id ≡ true) [
      | None ↦ λ _. refl
      | Some end ↦ λ less. lt-trans id range.start end below less
    ] ordered

-- ends that meet starts

-- The ranges lie end to end from an end on: their starts, and after them the open end, are that end
-- and after it the ranges' ends.
abbrev pub MeetFrom : Option (List ℕ) → List Bounds → Type 0
MeetFrom covered ranges = map (λ range. Some range.start) ranges ++ None ∷ [] ≡ covered ∷ map (λ range. range.end) ranges

pub MeetFrom-start : (covered : Option (List ℕ)) (range : Bounds) (ranges : List Bounds) → MeetFrom covered (range ∷ ranges) → covered ≡ Some range.start
MeetFrom-start covered range ranges meet = cc

pub MeetFrom-rest : (covered : Option (List ℕ)) (range : Bounds) (ranges : List Bounds) → MeetFrom covered (range ∷ ranges) → MeetFrom range.end ranges
MeetFrom-rest covered range ranges meet = cc

pub MeetFrom-made : (covered : Option (List ℕ)) (range : Bounds) (ranges : List Bounds) → covered ≡ Some range.start → MeetFrom range.end ranges → MeetFrom covered (range ∷ ranges)
MeetFrom-made covered range ranges start rest = cc

pub MeetFrom-open : (covered : Option (List ℕ)) → MeetFrom covered [] → covered ≡ None
MeetFrom-open covered meet = cc

-- one place

and-both : (a b : Bool) → (a && b) ≡ true → (a ≡ true) × (b ≡ true)
and-both true true h = (refl, refl)
and-both true false h = cc
and-both false b h = cc

-- no byte string is less than the empty one
never_less : (id : List ℕ) → is_lt (slice_cmp nat_cmp id []) ≡ false
never_less [] = refl
never_less (x ∷ xs) = refl

-- the first range has the id, and no other
here : (range : Bounds) (ranges : List Bounds) (id : List ℕ) → is_le (slice_cmp nat_cmp range.start id) ≡ true → is_below range.end id ≡ true → ((place : ℕ) (bounds : Bounds) → slice_get ranges place ≡ Some bounds → in_range bounds id ≡ true → ⊥) → IsInOneRange (range ∷ ranges) id
here range ranges id least below none = record {
  place = 0;
  range = range;
  stands = refl;
  has_id = grind arith;
  alone = alone;
}
  where
    alone : (other : ℕ) (bounds : Bounds) → slice_get (range ∷ ranges) other ≡ Some bounds → in_range bounds id ≡ true → other ≡ 0
    alone zero bounds stands has_id = refl
    alone (suc other) bounds stands has_id = absurd (none other bounds stands has_id)

-- a later range has the id, and no other
later : (range : Bounds) (ranges : List Bounds) (id : List ℕ) → is_below range.end id ≡ false → IsInOneRange ranges id → IsInOneRange (range ∷ ranges) id
later range ranges id beyond one = record {
  place = suc one.place;
  range = one.range;
  stands = one.stands;
  has_id = one.has_id;
  alone = alone;
}
  where
    alone : (other : ℕ) (bounds : Bounds) → slice_get (range ∷ ranges) other ≡ Some bounds → in_range bounds id ≡ true → other ≡ suc one.place
    alone zero bounds stands has_id =
        let same : range ≡ bounds = cc in
        let has_id' : in_range range id ≡ true = subst (λ b. in_range b id ≡ true) (sym same) has_id in
        let inside : is_below range.end id ≡ true = (and-both (is_le (slice_cmp nat_cmp range.start id)) (is_below range.end id) has_id').1 in
        absurd (cc)
    alone (suc other) bounds stands has_id = ap (λ n. suc n) (one.alone other bounds stands has_id)

-- an id that is less than where the ranges begin is in none of them
pub none_below : (covered : Option (List ℕ)) (ranges : List Bounds) (id : List ℕ) → MeetFrom covered ranges → list_all is_ordered ranges ≡ true → is_below covered id ≡ true → (place : ℕ) (bounds : Bounds) → slice_get ranges place ≡ Some bounds → in_range bounds id ≡ true → ⊥
none_below covered [] id meet ordered below place bounds stands has_id = cc
none_below covered (range ∷ ranges) id meet ordered below zero bounds stands has_id =
    let start : covered ≡ Some range.start = MeetFrom-start covered range ranges meet in
    let less : is_lt (slice_cmp nat_cmp id range.start) ≡ true = subst (λ end. is_below end id ≡ true) start below in
    let same : range ≡ bounds = cc in
    let has_id' : in_range range id ≡ true = subst (λ b. in_range b id ≡ true) (sym same) has_id in
    grind (arith, le-is range.start id)
none_below covered (range ∷ ranges) id meet ordered below (suc place) bounds stands has_id =
    let start : covered ≡ Some range.start = MeetFrom-start covered range ranges meet in
    let less : is_lt (slice_cmp nat_cmp id range.start) ≡ true = subst (λ end. is_below end id ≡ true) start below in
    let both : (is_ordered range ≡ true) × (list_all is_ordered ranges ≡ true) = and-both (is_ordered range) (list_all is_ordered ranges) ordered in
    none_below range.end ranges id (MeetFrom-rest covered range ranges meet) both.1 (below-end range id both.0 less) place bounds stands has_id

-- an id that isn't less than where the ranges begin is in just one of them
pub one_from : (covered : Option (List ℕ)) (ranges : List Bounds) (id : List ℕ) → MeetFrom covered ranges → list_all is_ordered ranges ≡ true → is_below covered id ≡ false → IsInOneRange ranges id
one_from covered [] id meet ordered above =
    let is_open : covered ≡ None = MeetFrom-open covered meet in
    let below : true ≡ false = subst (λ end. is_below end id ≡ false) is_open above in
    absurd (cc)
one_from covered (range ∷ ranges) id meet ordered above =
    let start : covered ≡ Some range.start = MeetFrom-start covered range ranges meet in
    let rest : MeetFrom range.end ranges = MeetFrom-rest covered range ranges meet in
    let both : (is_ordered range ≡ true) × (list_all is_ordered ranges ≡ true) = and-both (is_ordered range) (list_all is_ordered ranges) ordered in
    let not_less : is_lt (slice_cmp nat_cmp id range.start) ≡ false = subst (λ end. is_below end id ≡ false) start above in
    let least : is_le (slice_cmp nat_cmp range.start id) ≡ true = grind (arith, le-is range.start id) in
    elim (is_below range.end id) as (λ below. is_below range.end id ≡ below → IsInOneRange (range ∷ ranges) id) [
      | true ↦ λ below. here range ranges id least below (none_below range.end ranges id rest both.1 below)
      | false ↦ λ beyond. later range ranges id beyond (one_from range.end ranges id rest both.1 beyond)
    ] refl

pub SplitsAllIds-from_Tiles : (ranges : List Bounds) → list_all is_ordered ranges ≡ true → Tiles ranges → SplitsAllIds ranges
SplitsAllIds-from_Tiles ranges ordered tiles id = one_from (Some []) ranges id tiles ordered (never_less id)

-- steps along the list

drop-item : (ranges : List Bounds) (i : ℕ) (range : Bounds) → i < length ranges → range ≡ get_or ranges i range → drop i ranges ≡ range ∷ drop (i + 1) ranges
drop-item ranges i range within is =
    rw add-one (drop-cons ranges i range within ∙ ap (λ r. r ∷ drop (suc i) ranges) (sym is))

-- a range that starts where the earlier ones end
pub meets-step : (ranges : List Bounds) (i : ℕ) (range : Bounds) (covered : Option (List ℕ)) → i < length ranges → range ≡ get_or ranges i range → covered ≡ Some range.start → (MeetFrom covered (drop i ranges) ↔ Tiles ranges) → (MeetFrom range.end (drop (i + 1) ranges) ↔ Tiles ranges)
meets-step ranges i range covered within is start meet = (
  λ rest. meet.0 (subst (λ rs. MeetFrom covered rs) (sym (drop-item ranges i range within is)) (MeetFrom-made covered range (drop (i + 1) ranges) start rest)),
  λ tiles. MeetFrom-rest covered range (drop (i + 1) ranges) (subst (λ rs. MeetFrom covered rs) (drop-item ranges i range within is) (meet.1 tiles)),
)

-- ranges that tile start where the earlier ones end
pub meets-start : (ranges : List Bounds) (i : ℕ) (range : Bounds) (covered : Option (List ℕ)) → i < length ranges → range ≡ get_or ranges i range → (MeetFrom covered (drop i ranges) ↔ Tiles ranges) → Tiles ranges → covered ≡ Some range.start
meets-start ranges i range covered within is meet tiles =
    MeetFrom-start covered range (drop (i + 1) ranges) (subst (λ rs. MeetFrom covered rs) (drop-item ranges i range within is) (meet.1 tiles))

-- no range is left
pub meets-end : (ranges : List Bounds) (i : ℕ) (covered : Option (List ℕ)) → length ranges ≤ i → (MeetFrom covered (drop i ranges) ↔ Tiles ranges) → (covered ≡ None ↔ Tiles ranges)
meets-end ranges i covered past meet =
    let none : drop i ranges ≡ [] = drop_all i ranges past in (
      λ open_end. meet.0 (subst (λ rs. MeetFrom covered rs) (sym none) (ap (λ end. end ∷ []) (sym open_end))),
      λ tiles. MeetFrom-open covered (subst (λ rs. MeetFrom covered rs) none (meet.1 tiles)),
    )

pub ordered-more : (ranges : List Bounds) (i : ℕ) (range : Bounds) → i < length ranges → range ≡ get_or ranges i range → is_ordered range ≡ true → list_all is_ordered (take i ranges) ≡ true → list_all is_ordered (take (i + 1) ranges) ≡ true
ordered-more ranges i range within is ordered so_far =
    let here_too : is_ordered (get_or ranges i range) ≡ true = subst (λ r. is_ordered r ≡ true) is ordered in
    grind (arith, list_all_more is_ordered ranges i range within)

-- what `is_none` says of an end
pub is_open : (covered : Option (Bor (List ℕ))) (answer : Bool) → is_some covered ≡ not answer → (answer ≡ true → option_copied covered ≡ None) × (option_copied covered ≡ None → answer ≡ true)
is_open None answer is = (λ h. refl, λ h. grind (arith, nat_tests))
is_open (Some end) answer is = (λ h. absurd (let no : true ≡ false = is ∙ ap (λ b. not b) h in cc), λ h. absurd (cc))
