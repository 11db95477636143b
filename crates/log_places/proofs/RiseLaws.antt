-- Behind a transaction the position has more than before.
use Rattle.std.proofs.Common.{◌≡◌, ℕ, false, cond, List, [], ◌∷◌, Result, Ok, Err, refl, sym, ◌∙◌, inl, inr}
use Rattle.std.specs.Prelude.{IsTrue, ◌↔◌, ◌^◌, ◌&&◌, nat_lt, nat_le, Option, None, Some}
use Rattle.std.proofs.lemmas.Bool.{cases_Bool, and_parts, ltb-true, leb-true}
use Rattle.gtid_set.specs.declared.interval.Interval.{Interval}
use Rattle.gtid_set.specs.Position.{IsInterval, IsCanonical, IsWithin, last_number, union_of, within_of}
use Rattle.log_groups.specs.Step.{GtidValue, Maria, Mysql}
use Rattle.log_places.specs.declared.fault.PlaceFault.{PlaceFault}
use Rattle.log_places.specs.declared.fault.PlaceFault.TheVariants.{GoesBack}
use Rattle.log_places.specs.Added.{uuid_of, domain_uuid, span, single, added_by}
use Rattle.log_places.specs.Place.{position_behind, Rises, PositionsRise}

-- the laws of sets that it rests on
pub record SetLaws : Type 0 where
  pub within : (a b : List Interval) → IsCanonical a → IsCanonical b → IsTrue (within_of a b) ↔ IsWithin a b
  pub canonical : (a b : List Interval) → IsCanonical a → IsCanonical b → IsCanonical (union_of a b)
  pub one : (a b : List Interval) → IsCanonical a → IsCanonical b → IsWithin a (union_of a b)
  pub other : (a b : List Interval) → IsCanonical a → IsCanonical b → IsWithin b (union_of a b)

behind_it : (old : List Interval) (g : GtidValue) (i : Interval) → added_by g ≡ Ok i → position_behind old g ≡ cond (within_of (i ∷ []) old) (Err GoesBack) (Ok (union_of old (i ∷ [])))
unfolding position_behind
behind_it old g i e = rw e refl

rise : SetLaws → (old new : List Interval) (i : Interval) → IsCanonical old → IsInterval i → within_of (i ∷ []) old ≡ false → new ≡ union_of old (i ∷ []) → Rises old new
rise laws old new i sound right test is =
    let own : IsCanonical (i ∷ []) = (right, tt, tt) in
    rw is (record {
      canonical = laws.canonical old (i ∷ []) sound own;
      all = laws.one old (i ∷ []) sound own;
      more = λ back.
          let there : IsTrue (within_of (i ∷ []) old) = (laws.within (i ∷ []) old own sound).1 (λ uuid number held. back uuid number (laws.other old (i ∷ []) sound own uuid number held)) in
          let no = rw test at there in
          cc;
    })

-- what a transaction adds are numbers of a uuid
span_right : (uuid first last : ℕ) (i : Interval) → span uuid first last ≡ Ok i → IsInterval i
span_right uuid first last i e = elim (cases_Bool (nat_lt uuid (2 ^ 128) && nat_le 1 first && nat_le first last && nat_le last last_number)) [
  | inl right ↦
      let it : i ≡ record { uuid = uuid; first = first; last = last } = (let some = rw right at e in cc) in
      let with_last = and_parts (nat_lt uuid (2 ^ 128) && nat_le 1 first && nat_le first last) (nat_le last last_number) right in
      let with_held = and_parts (nat_lt uuid (2 ^ 128) && nat_le 1 first) (nat_le first last) with_last.0 in
      let with_first = and_parts (nat_lt uuid (2 ^ 128)) (nat_le 1 first) with_held.0 in
      rw it (record {
        uuid = ltb-true _ _ with_first.0;
        from_one = leb-true _ _ with_first.1;
        holds_first = leb-true _ _ with_held.1;
        to_last = leb-true _ _ with_last.1;
      })
  | inr wrong ↦ let none = rw wrong at e in cc
]

single_right : (n : ℕ) (uuid : Option ℕ) (i : Interval) → single n uuid ≡ Ok i → IsInterval i
single_right n None i e = cc
single_right n (Some uuid) i e = span_right uuid n n i e

added_right : (g : GtidValue) (i : Interval) → added_by g ≡ Ok i → IsInterval i
added_right (Maria g) i e = span_right (domain_uuid g.domain) 1 g.sequence i e
added_right (Mysql g) i e = single_right g.transaction (uuid_of g.uuid) i e

by_added : SetLaws → (old new : List Interval) (g : GtidValue) (added : Result Interval PlaceFault) → added_by g ≡ added → IsCanonical old → position_behind old g ≡ Ok new → Rises old new
unfolding position_behind
by_added laws old new g (Err fault) is sound e = let none = rw is at e in cc
by_added laws old new g (Ok i) is sound e =
    let behind = sym (behind_it old g i is) ∙ e in
    elim (cases_Bool (within_of (i ∷ []) old)) [
      | inl test ↦ let none = rw test at behind in cc
      | inr test ↦
          let some = rw test at behind in
          let same : new ≡ union_of old (i ∷ []) = cc in
          rise laws old new i sound (added_right g i is) test same
    ]

pub positions-rise : SetLaws → PositionsRise
positions-rise laws old new g sound e = by_added laws old new g (added_by g) refl sound e
