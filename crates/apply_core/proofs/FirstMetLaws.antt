-- The first rows that clash among those of the keys that two boards both have.
use Rattle.std.proofs.Common.{◌≡◌, ◌≢◌, ℕ, ◌+◌, ◌<◌, ◌≤◌, ◌⊎◌, inl, inr, Bool, true, false, List, [], ◌∷◌, ◌++◌, Option, Some, None, MatchOption, refl, sym, ap, subst, ◌∙◌, arith}
use Rattle.std.proofs.lemmas.Bool.{true≢false}
use Rattle.std.specs.List.{AllByRecursion}
use Rattle.list_laws.proofs.Fronts.{each}
use Rattle.pk_copy.specs.KeyValue.{KeyValue}
use Rattle.target_tables.specs.declared.merge_side.MergeSide.{MergeSide}
use Rattle.apply_core.specs.Private.Meeting.{Met, clashes, AreOrdered, IsNoneBefore, IsNoneUpTo, NoneClash, IsFirstMet}

-- ---- one key more

pub all_join : {X : Type 0} (P : X → Type 0) (xs ys : List X) → AllByRecursion P xs → AllByRecursion P ys → AllByRecursion P (xs ++ ys)
all_join P [] ys h k = k
all_join P (x ∷ xs) ys h k = (h.0, all_join P xs ys h.1 k)

append_assoc : {X : Type 0} (xs ys zs : List X) → (xs ++ ys) ++ zs ≡ xs ++ (ys ++ zs)
append_assoc [] ys zs = refl
append_assoc {X} (x ∷ xs) ys zs = ap (λ (l : List X). x ∷ l) (append_assoc xs ys zs)

pub never : {P : Type 0} (b : Bool) → b ≡ false → b ≡ true → P
never b e f = absurd (true≢false (sym f ∙ e))

module _ (sides : List MergeSide) (seen : List Met) (met : Met) where
  pub none_more : NoneClash sides seen → clashes sides met.1.0 met.1.1 ≡ false → NoneClash sides (seen ++ met ∷ [])
  none_more none e = all_join (λ (m : Met). clashes sides m.1.0 m.1.1 ≡ false) seen (met ∷ []) none (e, tt)

  pub first_is : (later lower : ℕ) → NoneClash sides seen → clashes sides met.1.0 met.1.1 ≡ true → AreOrdered met.1.0 met.1.1 later lower → IsFirstMet sides (seen ++ met ∷ []) met.0 later lower
  first_is later lower none clash order = record {
    front = seen;
    met = met;
    back = [];
    parts = refl;
    is = refl;
    clash = clash;
    order = order;
    before = each (λ (m : Met). clashes sides m.1.0 m.1.1 ≡ false) (IsNoneUpTo sides later) (λ m e. never (clashes sides m.1.0 m.1.1) e) seen none;
    behind = tt;
  }

  module _ (key : KeyValue) (least own : ℕ) (h : IsFirstMet sides seen key least own) where
    pub first_stays : (clashes sides met.1.0 met.1.1 ≡ true → (least ≤ met.1.0) ⊎ (least ≤ met.1.1)) → IsFirstMet sides (seen ++ met ∷ []) key least own
    first_stays late = record {
      front = h.front;
      met = h.met;
      back = h.back ++ met ∷ [];
      parts = ap (λ (l : List Met). l ++ met ∷ []) h.parts ∙ append_assoc h.front (h.met ∷ h.back) (met ∷ []);
      is = h.is;
      clash = h.clash;
      order = h.order;
      before = h.before;
      behind = all_join (IsNoneBefore sides least) h.back (met ∷ []) h.behind (late, tt);
    }

    pub first_sooner : (later lower : ℕ) → clashes sides met.1.0 met.1.1 ≡ true → AreOrdered met.1.0 met.1.1 later lower → later < least → IsFirstMet sides (seen ++ met ∷ []) met.0 later lower
    first_sooner later lower clash order less = record {
      front = seen;
      met = met;
      back = [];
      parts = refl;
      is = refl;
      clash = clash;
      order = order;
      before = subst (AllByRecursion (IsNoneUpTo sides later)) (sym h.parts)
          (all_join (IsNoneUpTo sides later) h.front (h.met ∷ h.back)
          (each (IsNoneUpTo sides least) (IsNoneUpTo sides later) (λ m f c. elim (f c) [ inl l ↦ inl (omega (arith, l, less)) | inr l ↦ inr (omega (arith, l, less)) ]) h.front h.before) (
            (λ _. (elim h.order [ inl o ↦ inl (let e : least ≡ h.met.1.0 = o.0 in omega (arith, e, less)) | inr o ↦ inr (let e : least ≡ h.met.1.1 = o.0 in omega (arith, e, less)) ])),
            each (IsNoneBefore sides least) (IsNoneUpTo sides later) (λ m f c. elim (f c) [ inl l ↦ inl (omega (arith, l, less)) | inr l ↦ inr (omega (arith, l, less)) ]) h.back h.behind,
          ));
      behind = tt;
    }

-- ---- cases of an option

pub from_none : {A : Type 0} (X : Type 0) (Q : A → Type 0) (o : Option A) → o ≡ None → MatchOption o X Q → X
from_none {A} X Q o e h = subst (λ (p : Option A). MatchOption p X Q) e h

pub from_some : {A : Type 0} (X : Type 0) (Q : A → Type 0) (o : Option A) (a : A) → o ≡ Some a → MatchOption o X Q → Q a
from_some {A} X Q o a e h = subst (λ (p : Option A). MatchOption p X Q) e h
