-- What the touches of a group say of its changes: that no change has a row before, and then how many have a row after.
use Rattle.std.proofs.Common.{◌≡◌, ◌∙◌, ℕ, ◌+◌, ◌<◌, arith, Bool, true, false, cond, List, [], ◌∷◌, ◌++◌, length, Option, Some, None, Result, Ok, Err, refl, sym, ap, subst}
use Rattle.std.specs.Prelude.{◌&&◌, is_some, is_none}
use Rattle.std.specs.List.{AllByRecursion, count_by, list_all}
use Rattle.std.proofs.lemmas.Bool.{true≢false}
use Rattle.std.proofs.lemmas.List.{length-append}
use Rattle.std.proofs.lemmas.List.Folds.{list_all-append}
use Rattle.std.proofs.lemmas.List.Sums.{sum_by-cons}
use Rattle.filter_rule.specs.PlanValue.{PlanValue}
use Rattle.list_laws.specs.Outcome.{◌>>=◌}
use Rattle.pk_copy.specs.KeyValue.{KeyValue}
use Rattle.source_feed.specs.declared.fault.FeedFault.{FeedFault}
use Rattle.source_feed.specs.Planned.{PlannedChangeValue, PlannedGroupValue}
use Rattle.source_feed.specs.Touches.{TouchValue, PreparedValue, key_in_group, passes_in, touches_before, touches_after, touches_of_change, touches_of, prepared}
use Rattle.feed_check.specs.Base.{is_put, base_rows, IsBase, BasesAreTold}

-- touches put rows alone just where this is true, and then so many
record Says (added : Bool) (rows : ℕ) (touches : List TouchValue) : Type 0 where
  puts : list_all is_put touches ≡ added
  count : added ≡ true → length touches ≡ rows

abbrev is_added : PlannedChangeValue → Bool
is_added change = is_none change.before

abbrev leaves : PlannedChangeValue → Bool
leaves change = is_some change.after

says : (added : Bool) (rows : ℕ) (made touches : List TouchValue) → made ≡ touches → Says added rows made → Says added rows touches
says added rows made touches e h = subst (Says added rows) e h

-- ---- one change

before_says : (plan : PlanValue) (n t : ℕ) (row : Option (List (Option (List ℕ)))) (touches : List TouchValue) → touches_before plan n t row ≡ Ok touches → Says (is_none row) 0 touches
before_says plan n t None touches e = let none : [] ≡ touches = cc in says true 0 [] touches none (record { puts = refl; count = λ _. refl })
before_says plan n t (Some row) touches e = by (key_in_group plan n t row) e
  where
    by : (r : Result KeyValue FeedFault) → ((r >>= λ key. Ok (key, None)) >>= λ touch. Ok (touch ∷ [])) ≡ Ok touches → Says false 0 touches
    by (Ok key) e =
        let one : (key, None) ∷ [] ≡ touches = cc in
        says false 0 ((key, None) ∷ []) touches one (record { puts = refl; count = λ bad. absurd (true≢false (sym bad)) })
    by (Err fault) e = cc

after_says : (plan : PlanValue) (n t : ℕ) (row : Option (List (Option (List ℕ)))) (touches : List TouchValue) → touches_after plan n t row ≡ Ok touches → Says true (cond (is_some row) 1 0) touches
after_says plan n t None touches e = let none : [] ≡ touches = cc in says true 0 [] touches none (record { puts = refl; count = λ _. refl })
after_says plan n t (Some row) touches e = by (key_in_group plan n t row) (passes_in plan n t row) e
  where
    by : (r : Result KeyValue FeedFault) (p : Result Bool FeedFault) → ((r >>= λ key. p >>= λ passes. Ok (key, Some (record { row = row; passes = passes }))) >>= λ touch. Ok (touch ∷ [])) ≡ Ok touches
        → Says true 1 touches
    by (Ok key) (Ok passes) e =
        let one : (key, Some (record { row = row; passes = passes })) ∷ [] ≡ touches = cc in
        says true 1 ((key, Some (record { row = row; passes = passes })) ∷ []) touches one (record { puts = refl; count = λ _. refl })
    by (Ok key) (Err fault) e = cc
    by (Err fault) p e = cc

-- ---- one and another

both_true : (a b : Bool) → (a && b) ≡ true → (a ≡ true) × (b ≡ true)
both_true true b e = (refl, e)
both_true false b e = absurd (true≢false (sym e))

together : (a b : Bool) (m n : ℕ) (some others : List TouchValue) → Says a m some → Says b n others → Says (a && b) (m + n) (some ++ others)
together a b m n some others one other = record {
  puts = list_all-append is_put some others ∙ ap (λ (p : Bool). p && list_all is_put others) one.puts ∙ ap (λ (p : Bool). a && p) other.puts;
  count = λ e. let both = both_true a b e in
      length-append some others ∙ ap (λ (k : ℕ). k + length others) (one.count both.0) ∙ ap (λ (k : ℕ). m + k) (other.count both.1);
}

both_say : (a b : Bool) (m n : ℕ) (r s : Result (List TouchValue) FeedFault) (touches : List TouchValue)
    → ((some : List TouchValue) → r ≡ Ok some → Says a m some) → ((others : List TouchValue) → s ≡ Ok others → Says b n others)
    → (r >>= λ some. s >>= λ others. Ok (some ++ others)) ≡ Ok touches → Says (a && b) (m + n) touches
both_say a b m n (Ok some) (Ok others) touches first then e =
    let all : some ++ others ≡ touches = cc in
    says (a && b) (m + n) (some ++ others) touches all (together a b m n some others (first some refl) (then others refl))
both_say a b m n (Ok some) (Err fault) touches first then e = cc
both_say a b m n (Err fault) s touches first then e = cc

and-true : (a : Bool) → (a && true) ≡ a
and-true true = refl
and-true false = refl

no-more : (n : ℕ) → 0 + n ≡ n
no-more n = omega arith

change_says : (plan : PlanValue) (n : ℕ) (change : PlannedChangeValue) (touches : List TouchValue) → touches_of_change plan n change ≡ Ok touches → Says (is_added change) (cond (leaves change) 1 0) touches
change_says plan n change touches e =
    subst (λ (k : ℕ). Says (is_added change) k touches) (no-more (cond (leaves change) 1 0))
    (subst (λ (a : Bool). Says a (0 + cond (leaves change) 1 0) touches) (and-true (is_added change))
    (both_say (is_added change) true 0 (cond (leaves change) 1 0) (touches_before plan n change.table change.before) (touches_after plan n change.table change.after) touches
    (before_says plan n change.table change.before) (after_says plan n change.table change.after) e))

-- ---- all changes

changes_say : (plan : PlanValue) (n : ℕ) (changes : List PlannedChangeValue) (touches : List TouchValue) → touches_of plan n changes ≡ Ok touches → Says (list_all is_added changes) (count_by leaves changes) touches
changes_say plan n [] touches e = let none : [] ≡ touches = cc in says true 0 [] touches none (record { puts = refl; count = λ _. refl })
changes_say plan n (change ∷ later) touches e =
    subst (λ (k : ℕ). Says (list_all is_added (change ∷ later)) k touches) (sym (sum_by-cons (λ (one : PlannedChangeValue). cond (leaves one) 1 0) change later))
    (both_say (is_added change) (list_all is_added later) (cond (leaves change) 1 0) (count_by leaves later) (touches_of_change plan n change) (touches_of plan n later) touches (change_says plan n change)
    (changes_say plan n later) e)

group_says : (plan : PlanValue) (planned : PlannedGroupValue) (group : PreparedValue) → prepared plan planned ≡ Ok group → Says (list_all is_added planned.changes) (count_by leaves planned.changes) group.touches
group_says plan planned group e = by (touches_of plan planned.number planned.changes) refl e
  where
    by : (r : Result (List TouchValue) FeedFault) → touches_of plan planned.number planned.changes ≡ r
        → (r >>= λ touches. Ok (record { plan = plan; number = planned.number; position = planned.position; touches = touches })) ≡ Ok group
        → Says (list_all is_added planned.changes) (count_by leaves planned.changes) group.touches
    by (Ok touches) is e =
        let same : touches ≡ group.touches = cc in
        says (list_all is_added planned.changes) (count_by leaves planned.changes) touches group.touches same (changes_say plan planned.number planned.changes touches is)
    by (Err fault) is e = cc

-- ---- the base

added-none : (row : Option (List (Option (List ℕ)))) → is_none row ≡ true → row ≡ None
added-none None e = refl
added-none (Some row) e = absurd (true≢false (sym e))

all-added : (changes : List PlannedChangeValue) → list_all is_added changes ≡ true → AllByRecursion (λ (change : PlannedChangeValue). change.before ≡ None) changes
all-added [] e = tt
all-added (change ∷ later) e = let both = both_true (is_added change) (list_all is_added later) e in (added-none change.before both.0, all-added later both.1)

added-all : (changes : List PlannedChangeValue) → AllByRecursion (λ (change : PlannedChangeValue). change.before ≡ None) changes → list_all is_added changes ≡ true
added-all [] h = refl
added-all (change ∷ later) h = ap (λ (row : Option (List (Option (List ℕ)))). is_none row && list_all is_added later) h.0 ∙ added-all later h.1

rows-by : (group : PreparedValue) (b : Bool) → list_all is_put group.touches ≡ b → base_rows group ≡ cond b (length group.touches) 0
rows-by group b e = ap (λ (p : Bool). cond p (length group.touches) 0) e

told-base : (planned : PlannedGroupValue) (group : PreparedValue) (rows : ℕ) (b : Bool) → Says (list_all is_added planned.changes) (count_by leaves planned.changes) group.touches → 0 < rows
    → list_all is_put group.touches ≡ b → base_rows group ≡ rows → IsBase planned rows
told-base planned group rows true said some e told =
    let added = sym said.puts ∙ e in
    record { added = all-added planned.changes added; count = sym (said.count added) ∙ sym (rows-by group true e) ∙ told; some = some }
told-base planned group rows false said some e told =
    let none : 0 ≡ rows = sym (rows-by group false e) ∙ told in
    absurd (omega (arith, none, some))

base-told : (planned : PlannedGroupValue) (group : PreparedValue) (rows : ℕ) → Says (list_all is_added planned.changes) (count_by leaves planned.changes) group.touches → IsBase planned rows → base_rows group ≡ rows
base-told planned group rows said base =
    let added = added-all planned.changes base.added in
    rows-by group true (said.puts ∙ added) ∙ said.count added ∙ base.count

pub bases_told : BasesAreTold
bases_told plan planned group rows e some =
    let said = group_says plan planned group e in
    (told-base planned group rows (list_all is_put group.touches) said some refl, base-told planned group rows said)
