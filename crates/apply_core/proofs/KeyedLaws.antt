-- The rows of a checkpoint and those of its streams stand at their own keys, so rows of one table with the same kept
-- columns have the same key.
use Rattle.std.proofs.Common.{◌≡◌, ℕ, ◌+◌, List, drop, Some, slice_get, refl, sym, ap, subst, ◌∙◌}
use Rattle.std.proofs.lemmas.Option.{same_Some}
use Rattle.std.specs.List.{AllByRecursion}
use Rattle.std.specs.Result.{result_ok}
use Rattle.std.specs.declared.cmp.Ordering.{Ordering}
use Rattle.std.specs.declared.cmp.Ordering.TheVariants.{Less, Equal, Greater}
use Rattle.filter_rule.specs.PlanValue.{PlanValue}
use Rattle.pk_copy.specs.KeyOfKept.{key_of_kept, KeysAreKept}
use Rattle.pk_copy.specs.KeyOrder.{key_cmp}
use Rattle.pk_copy.specs.KeyValue.{KeyValue}
use Rattle.source_feed.specs.History.{RowValue}
use Rattle.source_feed.specs.Image.{ImageRows}
use Rattle.source_feed.specs.Planned.{FeedValue}
use Rattle.vdiff.specs.Report.{IsFirstDifference}
use Rattle.vdiff.proofs.ReportLaws.{IsSameSoFar}
use Rattle.board_laws.specs.Lawful.{IsSoundState}
use Rattle.board_laws.specs.Meaning.{State}
use Rattle.board_laws.proofs.Lookups.{Ties, all-at}
use Rattle.board_laws.specs.Joined.{cut_rows}
use Rattle.checkpoint_laws.specs.Resumed.{IsResumedAt, AreResumed, AtEachPlace}
use Rattle.checkpoint_laws.specs.Said.{IsKeyed}
use Rattle.checkpoint_laws.specs.Saved.{SavedStream}
use Rattle.checkpoint_laws.proofs.ResumedLaws.{at_same_place}
use Rattle.checkpoint_laws.proofs.SaidLaws.{cut_keyed}
use Rattle.apply_core.specs.Private.Resuming.{AreSaid, HasKeysOf}
use Rattle.apply_core.proofs.ResumeLaws.{said_long, said_of, differs_less, differs_greater, differs_rows, goes_on}

-- rows of one table with the same columns stand at one key
pub one_key : (plan : PlanValue) (x y : KeyValue × RowValue) → IsKeyed plan x → IsKeyed plan y → x.0.table ≡ y.0.table → x.1 ≡ y.1 → x.0 ≡ y.0
one_key plan x y p q table row =
    same_Some x.0 y.0 (ap result_ok (sym p.key ∙ ap (λ (n : ℕ). key_of_kept plan n x.1) table ∙ ap (key_of_kept plan y.0.table) row ∙ q.key))

-- ---- the rows of a cut

-- what is found is the cut of a sound state
pub found_keyed : KeysAreKept → Ties → (state : State) → IsSoundState state → (rows : ImageRows) → rows ≡ cut_rows state → AllByRecursion (IsKeyed state.plan) rows
found_keyed kept ties state sound rows is =
    subst (AllByRecursion (IsKeyed state.plan)) (sym is)
    (cut_keyed kept ties state sound)

-- ---- the rows of a checkpoint

pub all_keyed : (feeds : List FeedValue) (saved : List SavedStream) (states : List State) → AreSaid feeds saved → AreResumed feeds saved states → AtEachPlace HasKeysOf saved states
all_keyed feeds saved states said resumed s one state there here =
    let feed = at_same_place saved feeds s one (said_long feeds saved said) there in
    let at : IsResumedAt feed.0 one state = resumed.each_stream s feed.0 one state feed.1 there here in
    subst (λ (plan : PlanValue). AllByRecursion (IsKeyed plan) one.rows) (sym (ap (λ (x : State). x.plan) at.state_is)) (said_of feeds saved said s feed.0 one feed.1 there).keyed

-- ---- two lists of rows

module _ (source target : ImageRows) (i : ℕ) (w : IsSameSoFar source target (drop i source) (drop i target)) (x y : KeyValue × RowValue) (here : slice_get source i ≡ Some x) (there : slice_get target i ≡ Some y) where
  -- rows that aren't the same of one table: the lesser of their keys is the first difference
  pub differs_there : Ties → ((x.0.table ≡ y.0.table) × (x.1 ≡ y.1) → ⊥) → (key : KeyValue) → (key_cmp x.0 y.0 ≡ Less → key ≡ x.0) → (key_cmp x.0 y.0 ≡ Equal → key ≡ x.0) → (key_cmp x.0 y.0 ≡ Greater → key ≡ y.0)
      → IsFirstDifference source target key
  differs_there ties other key less equal greater = by (key_cmp x.0 y.0) refl
    where
      by : (order : Ordering) → key_cmp x.0 y.0 ≡ order → IsFirstDifference source target key
      by Less e = subst (IsFirstDifference source target) (sym (less e)) (differs_less source target i w x y here there e)
      by Equal e =
          let key_is : x.0 ≡ y.0 = ties x.0 y.0 e in
          subst (IsFirstDifference source target) (sym (equal e)) (differs_rows source target i w x y here there key_is (λ row_is. other (ap (λ (k : KeyValue). k.table) key_is, row_is)))
      by Greater e = subst (IsFirstDifference source target) (sym (greater e)) (differs_greater source target i w x y here there e)

  -- rows that are the same of one table: their keys are too
  pub goes_on_keyed : (plan : PlanValue) → AllByRecursion (IsKeyed plan) source → AllByRecursion (IsKeyed plan) target → (x.0.table ≡ y.0.table) × (x.1 ≡ y.1) → IsSameSoFar source target (drop (i + 1) source) (drop (i + 1) target)
  goes_on_keyed plan p q same =
      let key_is : x.0 ≡ y.0 = one_key plan x y (all-at (IsKeyed plan) source i x p here) (all-at (IsKeyed plan) target i y q there) same.0 same.1 in
      goes_on source target i w x y here there key_is same.1
