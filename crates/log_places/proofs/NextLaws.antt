-- The last number behind the others of a transaction makes of a position what all of them make.
use Rattle.std.proofs.Common.{◌≡◌, ℕ, ◌-◌, ◌<◌, ◌≤◌, Bool, true, false, not, ◌&&◌, ◌||◌, List, [], ◌∷◌, Ok, refl, sym, ap, ◌∙◌, inl, inr, arith}
use Rattle.std.specs.Prelude.{IsTrue, ◌↔◌, ◌==◌, nat_le}
use Rattle.std.specs.List.{list_any}
use Rattle.std.specs.Int.{w128, to_be_bytes, from_be_bytes}
use Rattle.std.proofs.lemmas.Bool.{cases_Bool, cases_lt, or_cases, and_parts, and_from, or_left, or_right, leb-true, eqb-true, eq-eqb, le-leb, not-true, true≢false, false≢true}
use Rattle.gtid_set.specs.declared.interval.Interval.{Interval}
use Rattle.gtid_set.specs.Position.{IsInterval, IsCanonical, IsWithin, SamePairs, HasBoth, holds, has, union_of, with_pair, within_of}
use Rattle.log_groups.specs.Step.{GtidValue}
use Rattle.log_places.specs.Added.{added_by}
use Rattle.log_places.specs.Place.{position_behind}
use Rattle.log_places.specs.Private.Next.{reaches_up_to, LacksTheLast}
use Rattle.log_places.proofs.PlaceLaws.{goes_further}
use Rattle.log_places.proofs.UuidLaws.{uuid-bytes}

-- two tests that say the same are the same
same_test : (x y : Bool) → (x ≡ true → y ≡ true) → (y ≡ true → x ≡ true) → x ≡ y
same_test true true f g = refl
same_test false false f g = refl
same_test true false f g = sym (f refl)
same_test false true f g = g refl

-- each number before the last is there
other_there : (set : List Interval) (added : Interval) (n : ℕ) → list_any (reaches_up_to added) set ≡ true → added.first ≤ n → n < added.last → has set added.uuid n ≡ true
other_there [] added n e from to = e
other_there (one ∷ set) added n e from to = elim (or_cases (reaches_up_to added one) (list_any (reaches_up_to added) set) e) [
  | inl here ↦
      let by_uuid = and_parts (one.uuid == added.uuid) (nat_le one.first added.first && one.last == added.last - 1) here in
      let by_numbers = and_parts (nat_le one.first added.first) (one.last == added.last - 1) by_uuid.1 in
      let first : one.first ≤ added.first = leb-true _ _ by_numbers.0 in
      let last : one.last ≡ added.last - 1 = eqb-true _ _ by_numbers.1 in
      or_left (holds one added.uuid n) (has set added.uuid n) (and_from _ _ by_uuid.0 (and_from _ _ (le-leb one.first n (omega (arith, first, from))) (le-leb n one.last (omega (arith, last, to)))))
  | inr further ↦ or_right (holds one added.uuid n) (has set added.uuid n) (other_there set added n further from to)
]

-- the last one alone
abbrev last_of : Interval → Interval
last_of added = record { uuid = added.uuid; first = added.last; last = added.last }

last_is : (added : Interval) → IsInterval added → IsInterval (last_of added)
last_is added right = record {
  uuid = right.uuid;
  from_one = omega (arith, right.from_one, right.holds_first);
  holds_first = omega arith;
  to_last = right.to_last;
}

to_all : (added : Interval) → IsInterval added → (uuid n : ℕ) → holds (last_of added) uuid n ≡ true → holds added uuid n ≡ true
to_all added right uuid n e =
    let by_uuid = and_parts (added.uuid == uuid) (nat_le added.last n && nat_le n added.last) e in
    let by_numbers = and_parts (nat_le added.last n) (nat_le n added.last) by_uuid.1 in
    let from : added.last ≤ n = leb-true _ _ by_numbers.0 in
    and_from _ _ by_uuid.0 (and_from _ _ (le-leb added.first n (omega (arith, from, right.holds_first))) by_numbers.1)

to_last : (set : List Interval) (added : Interval) → LacksTheLast set added → (uuid n : ℕ) → holds added uuid n ≡ true → (has set uuid n || has (last_of added ∷ []) uuid n) ≡ true
to_last set added lacks uuid n e =
    let by_uuid = and_parts (added.uuid == uuid) (nat_le added.first n && nat_le n added.last) e in
    let by_numbers = and_parts (nat_le added.first n) (nat_le n added.last) by_uuid.1 in
    let equal : added.uuid ≡ uuid = eqb-true _ _ by_uuid.0 in
    let from : added.first ≤ n = leb-true _ _ by_numbers.0 in
    elim (cases_lt n added.last) [
      | inl before ↦ or_left (has set uuid n) (has (last_of added ∷ []) uuid n) (ap (λ (u : ℕ). has set u n) (sym equal) ∙ other_there set added n lacks.others from before)
      | inr ends ↦
          or_right (has set uuid n) (has (last_of added ∷ []) uuid n) (or_left (holds (last_of added) uuid n) false (and_from _ _ by_uuid.0 (and_from _ _ (le-leb added.last n ends) by_numbers.1)))
    ]

-- a set that has the others has with the last one the pairs that it has with all of them
pair_more : (set : List Interval) (added : Interval) → IsInterval added → LacksTheLast set added → (uuid n : ℕ) → (has set uuid n || has (last_of added ∷ []) uuid n) ≡ (has set uuid n || has (added ∷ []) uuid n)
pair_more set added right lacks uuid n = same_test (has set uuid n || has (last_of added ∷ []) uuid n) (has set uuid n || has (added ∷ []) uuid n) there back
  where
    there : (has set uuid n || has (last_of added ∷ []) uuid n) ≡ true → (has set uuid n || has (added ∷ []) uuid n) ≡ true
    there e = elim (or_cases (has set uuid n) (has (last_of added ∷ []) uuid n) e) [
      | inl old ↦ or_left (has set uuid n) (has (added ∷ []) uuid n) old
      | inr new ↦ elim (or_cases (holds (last_of added) uuid n) false new) [
        | inl held ↦ or_right (has set uuid n) (has (added ∷ []) uuid n) (or_left (holds added uuid n) false (to_all added right uuid n held))
        | inr nothing ↦ absurd (false≢true nothing)
      ]
    ]

    back : (has set uuid n || has (added ∷ []) uuid n) ≡ true → (has set uuid n || has (last_of added ∷ []) uuid n) ≡ true
    back e = elim (or_cases (has set uuid n) (has (added ∷ []) uuid n) e) [
      | inl old ↦ or_left (has set uuid n) (has (last_of added ∷ []) uuid n) old
      | inr new ↦ elim (or_cases (holds added uuid n) false new) [
        | inl held ↦ to_last set added lacks uuid n held
        | inr nothing ↦ absurd (false≢true nothing)
      ]
    ]

-- what the code relies on of sets
pub record SetLaws : Type 0 where
  pub equal : (a b : List Interval) → IsCanonical a → IsCanonical b → SamePairs a b → a ≡ b
  pub canonical : (a b : List Interval) → IsCanonical a → IsCanonical b → IsCanonical (union_of a b)
  pub pairs : (a b : List Interval) → IsCanonical a → IsCanonical b → HasBoth a b (union_of a b)

-- a position and the last of these numbers is the position and all of them
last_for_all : SetLaws → (set : List Interval) (added : Interval) → IsInterval added → LacksTheLast set added → with_pair set added.uuid added.last ≡ union_of set (added ∷ [])
last_for_all laws set added right lacks =
    let one : IsCanonical (last_of added ∷ []) = (last_is added right, tt, tt) in
    let all : IsCanonical (added ∷ []) = (right, tt, tt) in
    laws.equal (union_of set (last_of added ∷ [])) (union_of set (added ∷ [])) (laws.canonical set (last_of added ∷ []) lacks.canonical one) (laws.canonical set (added ∷ []) lacks.canonical all)
    (λ uuid n. laws.pairs set (last_of added ∷ []) lacks.canonical one uuid n ∙ pair_more set added right lacks uuid n ∙ sym (laws.pairs set (added ∷ []) lacks.canonical all uuid n))

pub with-last : SetLaws → (set copy new : List Interval) (added : Interval) (bytes : List ℕ) → IsInterval added → LacksTheLast set added → copy ≡ set → bytes ≡ to_be_bytes w128 added.uuid → new ≡ with_pair copy (from_be_bytes w128 bytes) added.last
    → new ≡ union_of set (added ∷ [])
with-last laws set copy new added bytes right lacks copied spelled more =
    let uuid : from_be_bytes w128 bytes ≡ added.uuid = ap (from_be_bytes w128) spelled ∙ uuid-bytes added.uuid right.uuid in
    more ∙ ap (λ (u : ℕ). with_pair copy u added.last) uuid ∙ ap (λ (s : List Interval). with_pair s added.uuid added.last) copied ∙ last_for_all laws set added right lacks

pub lacks-the-last : (set intervals : List Interval) (added : Interval) (bytes : List ℕ) (any there : Bool) → IsInterval added → intervals ≡ set → IsCanonical intervals → any ≡ list_any (reaches_up_to added) intervals → any ≡ true
    → bytes ≡ to_be_bytes w128 added.uuid → there ≡ has set (from_be_bytes w128 bytes) added.last → not there ≡ true → LacksTheLast set added
lacks-the-last set intervals added bytes any there right is sound tested found spelled looked absent =
    let uuid : from_be_bytes w128 bytes ≡ added.uuid = ap (from_be_bytes w128) spelled ∙ uuid-bytes added.uuid right.uuid in
    record {
      canonical = rw (sym is) sound;
      others = ap (λ (s : List Interval). list_any (reaches_up_to added) s) (sym is) ∙ sym tested ∙ found;
      last = ap (λ (u : ℕ). has set u added.last) (sym uuid) ∙ sym looked ∙ not-true there absent;
    }

-- where the last number isn't there, not all of them are
not_within : ((a b : List Interval) → IsCanonical a → IsCanonical b → IsTrue (within_of a b) ↔ IsWithin a b) → (set : List Interval) (added : Interval) → IsInterval added → LacksTheLast set added → within_of (added ∷ []) set ≡ false
not_within law set added right lacks = elim (cases_Bool (within_of (added ∷ []) set)) [
  | inl within ↦
      let last : has (added ∷ []) added.uuid added.last ≡ true =
      or_left (holds added added.uuid added.last) false (and_from _ _ (eq-eqb added.uuid added.uuid refl) (and_from _ _ (le-leb added.first added.last right.holds_first) (le-leb added.last added.last (omega arith))))
      in
      let there : has set added.uuid added.last ≡ true = (law (added ∷ []) set (right, tt, tt) lacks.canonical).0 within added.uuid added.last last in
      absurd (true≢false (sym there ∙ lacks.last))
  | inr outside ↦ outside
]

pub behind-last : ((a b : List Interval) → IsCanonical a → IsCanonical b → IsTrue (within_of a b) ↔ IsWithin a b) → (set new : List Interval) (g : GtidValue) (added : Interval) → IsInterval added → added_by g ≡ Ok added → LacksTheLast set added
    → new ≡ union_of set (added ∷ []) → position_behind set g ≡ Ok new
behind-last law set new g added right is lacks e = goes_further set (added ∷ []) new g added is refl (not_within law set added right lacks) e
