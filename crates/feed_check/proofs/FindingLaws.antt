-- Nothing is told exactly where each change is true.
use Rattle.std.proofs.Common.{◌≡◌, ◌↔◌, List, [], ◌∷◌, ◌++◌, Bool, true, false, cond, Option, Some, None, refl, ap, sym}
use Rattle.std.specs.Prelude.{IfSome}
use Rattle.std.specs.Option.{option_and_then, option_to_list}
use Rattle.vdiff.proofs.ReportLaws.{row_eq-Decides}
use Rattle.pk_copy.specs.KeyValue.{KeyValue}
use Rattle.vdiff.specs.Report.{row_eq}
use Rattle.source_feed.specs.History.{RowValue}
use Rattle.feed_check.specs.KeyedChanges.{KeyedRowValue, KeyedChangeValue}
use Rattle.feed_check.specs.Replay.{row_left}
use Rattle.feed_check.specs.Findings.{has_key, why_before, why_after, told, found_before, found_after, findings_in, AreTrue}
use Rattle.feed_check.specs.declared.finding.Doubt.{Doubt}
use Rattle.feed_check.specs.declared.finding.Doubt.TheVariants.{OtherRow}

-- ---- lists and options that are empty

left_empty : {A : Type 0} (xs ys : List A) → xs ++ ys ≡ [] → xs ≡ []
left_empty [] ys e = refl
left_empty (x ∷ xs) ys e = cc

right_empty : {A : Type 0} (xs ys : List A) → xs ++ ys ≡ [] → ys ≡ []
right_empty [] ys e = e
right_empty (x ∷ xs) ys e = cc

none_listed : {A : Type 0} (o : Option A) → option_to_list o ≡ [] → o ≡ None
none_listed None e = refl
none_listed (Some x) e = cc

none_told : (change : KeyedChangeValue) (key : KeyValue) (why : Option Doubt) → told change key why ≡ None → why ≡ None
none_told change key None e = refl
none_told change key (Some why) e = cc

-- ---- one change

why_before-none : (row : RowValue) (there : Option RowValue) → (why_before row there ≡ None) ↔ (there ≡ Some row)
why_before-none row None = (λ e. cc, λ e. cc)
why_before-none row (Some other) = by (row_eq row other) refl
  where
    by : (b : Bool) → row_eq row other ≡ b → (cond b None (Some OtherRow) ≡ None) ↔ (Some other ≡ Some row)
    by true e = (λ _. ap Some (sym ((row_eq-Decides row other).0 e)), λ _. refl)
    by false e = (λ x. cc, λ h. let same : row ≡ other = cc in let yes = (row_eq-Decides row other).1 same in cc)

why_after-none : (own : Bool) (there : Option RowValue) → (why_after own there ≡ None) ↔ (own ≡ false → there ≡ None)
why_after-none true there = (λ _ e. cc, λ _. refl)
why_after-none false None = (λ _ _. refl, λ _. refl)
why_after-none false (Some other) = (λ e _. cc, λ h. let none : Some other ≡ None = h refl in cc)

before-none : (change : KeyedChangeValue) (rows : KeyValue → Option RowValue) → (found_before change rows ≡ None) ↔ IfSome change.before (λ image. rows image.0 ≡ Some image.1)
before-none change rows = by change.before
  where
    by : (image : Option KeyedRowValue) → (option_and_then (λ i. told change i.0 (why_before i.1 (rows i.0))) image ≡ None) ↔ IfSome image (λ i. rows i.0 ≡ Some i.1)
    by None = (λ _. tt, λ _. refl)
    by (Some i) = (
      λ e. (why_before-none i.1 (rows i.0)).0 (none_told change i.0 _ e),
      λ h. ap (told change i.0) ((why_before-none i.1 (rows i.0)).1 h),
    )

after-none : (change : KeyedChangeValue) (rows : KeyValue → Option RowValue) → (found_after change rows ≡ None) ↔ IfSome change.after (λ image. has_key change.before image.0 ≡ false → rows image.0 ≡ None)
after-none change rows = by change.after
  where
    by : (image : Option KeyedRowValue) → (option_and_then (λ i. told change i.0 (why_after (has_key change.before i.0) (rows i.0))) image ≡ None) ↔ IfSome image (λ i. has_key change.before i.0 ≡ false → rows i.0 ≡ None)
    by None = (λ _. tt, λ _. refl)
    by (Some i) = (
      λ e. (why_after-none (has_key change.before i.0) (rows i.0)).0 (none_told change i.0 _ e),
      λ h. ap (told change i.0) ((why_after-none (has_key change.before i.0) (rows i.0)).1 h),
    )

-- ---- all changes

nothing : {A : Type 0} (xs : List A) (a b : Option A) → xs ≡ [] → a ≡ None → b ≡ None → xs ++ (option_to_list a ++ option_to_list b) ≡ []
nothing [] None None e f g = refl
nothing (x ∷ xs) a b e f g = cc
nothing [] (Some a) b e f g = cc
nothing [] None (Some b) e f g = cc

pub none_where_true : (past : List KeyedChangeValue) → (findings_in past ≡ []) ↔ AreTrue past
none_where_true [] = (λ _. tt, λ _. refl)
none_where_true (change ∷ earlier) =
    let rows = row_left earlier in
    let a = option_to_list (found_before change rows) in
    let b = option_to_list (found_after change rows) in (
      λ e. (
        (none_where_true earlier).0 (left_empty (findings_in earlier) (a ++ b) e),
        record {
          before = (before-none change rows).0 (none_listed _ (left_empty a b (right_empty (findings_in earlier) (a ++ b) e)));
          after = (after-none change rows).0 (none_listed _ (right_empty a b (right_empty (findings_in earlier) (a ++ b) e)));
        },
      ),
      λ h. nothing (findings_in earlier) (found_before change rows) (found_after change rows)
          ((none_where_true earlier).1 h.0) ((before-none change rows).1 h.1.before) ((after-none change rows).1 h.1.after),
    )
