-- What a position text means, from the intervals that it names.
use Rattle.std.proofs.Common.{◌≡◌, inl, inr, ◌==◌, ◌&&◌, ◌||◌, ℕ, ◌<◌, ◌≤◌, ◌^◌, Bool, true, false, refl, sym, ◌∙◌, ap, subst, arith, ltb, List, [], length, Result, Ok, Err}
use Rattle.std.proofs.lemmas.Bool.{cases_Bool, cond-true, cond-false}
use Rattle.std.proofs.lemmas.Bool.Decides.{nat_tests}
use Rattle.gtid_set.specs.declared.interval.Interval.{Interval}
use Rattle.gtid_set.specs.declared.fault.GtidFault.{GtidFault}
use Rattle.gtid_set.specs.declared.fault.GtidFault.TheVariants.{TooLarge, Flavor, BadUuid, Syntax, BadNumber, Memory}
use Rattle.list_laws.specs.Outcome.{◌>>=◌, Refuses}
use Rattle.gtid_set.specs.Fault.{meant}
use Rattle.gtid_set.specs.Inner.Kept.{RefusedBy}
use Rattle.gtid_set.specs.Position.{has, holds, IsInterval, IsCanonical, HasPairMore, with_pair, last_number}
use Rattle.gtid_set.specs.Text.{intervals_of_text, within_limit, text_limit, set_of, position_of_text, IsOfText, NamesSeveral}
use Rattle.gtid_set.proofs.Joined.{canonical-intervals, has-joined, union-canonical, has-union_of}
use Rattle.gtid_set.proofs.TextIntervals.{Each, each-named, bind_ok, ok_is}

pub position-is : (text : List ℕ) → position_of_text text ≡ (within_limit text >>= λ l. Ok (set_of l))
unfolding position_of_text within_limit
position-is text = by_test (ltb text_limit (length text)) refl
  where
    by_test : (t : Bool) → ltb text_limit (length text) ≡ t → position_of_text text ≡ (within_limit text >>= λ l. Ok (set_of l))
    by_test true e = rw e refl
    by_test false e = rw e refl

pub named-within : (text : List ℕ) (l : List Interval) → within_limit text ≡ Ok l → intervals_of_text text ≡ Ok l
unfolding within_limit
named-within text l e =
    elim (cases_Bool (ltb text_limit (length text))) [
      | inl t ↦ absurd (not_ok l (sym (cond-true (ltb text_limit (length text)) _ _ t) ∙ e))
      | inr f ↦ sym (cond-false (ltb text_limit (length text)) _ _ f) ∙ e
    ]
  where
    not_ok : (l : List Interval) → ◌≡◌ {A = Result (List Interval) GtidFault} (Err TooLarge) (Ok l) → ⊥
    not_ok l e = cc

position-refused : (text bytes : List ℕ) (e : GtidFault) → bytes ≡ text → within_limit bytes ≡ Err e → position_of_text text ≡ Err e
position-refused text bytes e same h = position-is text ∙ ap (λ (r : Result (List Interval) GtidFault). r >>= λ l. Ok (set_of l)) (ap within_limit (sym same) ∙ h)

pub same_fault : (e f : GtidFault) → ◌≡◌ {A = Result (List Interval) GtidFault} (Err e) (Err f) → e ≡ f
same_fault e f p = cc

pub fault_same : (e f : GtidFault) → e ≡ f → ◌≡◌ {A = Result (List Interval) GtidFault} (Err e) (Err f)
fault_same e f p = cc

pub no_fault : (set : List Interval) (f : GtidFault) → ◌≡◌ {A = Result (List Interval) GtidFault} (Ok set) (Err f) → ⊥
no_fault set f p = cc

-- what a refusal says of the text
pub record IsRefusal (e : GtidFault) (text : List ℕ) : Type 0 where
  pub exact : Refuses meant e (position_of_text text)
  pub every_fault : (f : GtidFault) → position_of_text text ≡ Err f → e ≡ f
  pub memory : e ≡ Memory → NamesSeveral text

own : (e : GtidFault) (text : List ℕ) → position_of_text text ≡ Err e → Refuses meant e (position_of_text text) → (e ≡ Memory → ⊥) → IsRefusal e text
own e text p exact other = record { exact = exact; every_fault = λ f q. same_fault e f (sym p ∙ q); memory = λ m. absurd (other m) }

pub refused : (e : GtidFault) (text bytes : List ℕ) → bytes ≡ text → RefusedBy e (within_limit bytes) → IsRefusal e text
refused TooLarge text bytes same h = let p = position-refused text bytes TooLarge same h in own TooLarge text p p (λ m. cc)
refused Flavor text bytes same h = let p = position-refused text bytes Flavor same h in own Flavor text p p (λ m. cc)
refused BadUuid text bytes same h = let p = position-refused text bytes BadUuid same h in own BadUuid text p p (λ m. cc)
refused Syntax text bytes same h = let p = position-refused text bytes Syntax same h in own Syntax text p p (λ m. cc)
refused BadNumber text bytes same h = let p = position-refused text bytes BadNumber same h in own BadNumber text p p (λ m. cc)
refused Memory text bytes same h =
    let named : within_limit text ≡ Ok h.0 = ap within_limit (sym same) ∙ h.1 in
    let read : position_of_text text ≡ Ok (set_of h.0) = position-is text ∙ ap (λ (r : Result (List Interval) GtidFault). r >>= λ l. Ok (set_of l)) named in
    record {
      exact = tt;
      every_fault = λ f q. absurd (no_fault (set_of h.0) f (sym read ∙ q));
      memory = λ m. (h.0, named-within text h.0 named, h.2);
    }

pub each-within : (text : List ℕ) (l : List Interval) → within_limit text ≡ Ok l → Each l
each-within text l e = each-named text l (named-within text l e)

pub record IsParsed (text : List ℕ) (set : List Interval) : Type 0 where
  pub exact : position_of_text text ≡ Ok set
  pub pairs : IsOfText text set
  pub canonical : IsCanonical set

set-parsed : (text : List ℕ) (named : List Interval) → within_limit text ≡ Ok named → IsParsed text (set_of named)
set-parsed text named e =
    let each = each-within text named e in
    record {
      exact = position-is text ∙ ap (λ (r : Result (List Interval) GtidFault). r >>= λ l. Ok (set_of l)) e;
      pairs = (named, named-within text named e, λ u n. has-union_of [] named u n tt each);
      canonical = union-canonical [] named tt each;
    }

pub is_parsed : (text bytes : List ℕ) (named set : List Interval) → bytes ≡ text → within_limit bytes ≡ Ok named → set ≡ set_of named → IsParsed text set
is_parsed text bytes named set same e is = subst (IsParsed text) (sym is) (set-parsed text named (ap within_limit (sym same) ∙ e))

-- ---- one pair more

abbrev pub pair_of : ℕ → ℕ → Interval
pair_of uuid number = record { uuid = uuid; first = number; last = number }

pub pair-interval : (uuid number : ℕ) → uuid < 2 ^ 128 → 1 ≤ number → number ≤ last_number → IsInterval (pair_of uuid number)
pair-interval uuid number u low high = record { uuid = u; from_one = low; holds_first = omega arith; to_last = high }

holds-pair : (uuid number u n : ℕ) → holds (pair_of uuid number) u n ≡ (u == uuid && n == number)
holds-pair uuid number u n = grind (arith, nat_tests)

or_swapped : (a b : Bool) → (a || b) ≡ (b || a)
or_swapped true true = refl
or_swapped true false = refl
or_swapped false true = refl
or_swapped false false = refl

pub pair-more : (s : List Interval) (uuid number : ℕ) → IsCanonical s → IsInterval (pair_of uuid number) → HasPairMore s uuid number (with_pair s uuid number)
pair-more s uuid number c one u n =
    has-joined s (pair_of uuid number) u n (canonical-intervals s c) one
    ∙ ap (λ b. b || has s u n) (holds-pair uuid number u n)
    ∙ or_swapped (u == uuid && n == number) (has s u n)

pub position-canonical : (text : List ℕ) (set : List Interval) → position_of_text text ≡ Ok set → IsCanonical set
position-canonical text set e =
    let a = bind_ok (within_limit text) (λ l. Ok (set_of l)) set (sym (position-is text) ∙ e) in
    subst (λ (s : List Interval). IsCanonical s) (ok_is (set_of a.0) set a.2) (union-canonical [] a.0 tt (each-within text a.0 a.1))
