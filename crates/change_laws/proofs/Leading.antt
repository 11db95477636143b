-- Changes that lead from the rows that stood to those that stand.
use Rattle.std.proofs.Common.{◌≡◌, ◌||◌, ℕ, Bool, true, false, cond, List, [], ◌∷◌, map, Option, Some, None, Ordering, refl, sym, ap, subst, ◌∙◌}
use Rattle.std.proofs.lemmas.Bool.{true≢false}
use Rattle.std.specs.Prelude.{unwrap_or}
use Rattle.std.specs.declared.cmp.Ordering.TheVariants.{Less}
use Rattle.std.specs.List.{AllByRecursion, list_any}
use Rattle.std.specs.List.Sorted.{IsStrictlySortedBy}
use Rattle.std.specs.Map.{lookup}
use Rattle.std.specs.Option.{option_map}
use Rattle.std.specs.Ordering.{eq_by_cmp}
use Rattle.pk_copy.specs.KeyOrder.{key_cmp}
use Rattle.pk_copy.specs.KeyValue.{KeyValue}
use Rattle.target_tables.specs.Contents.{value_at}
use Rattle.target_tables.specs.Rising.{IsRising}
use Rattle.source_feed.specs.History.{KeptRow}
use Rattle.board_laws.specs.Lawful.{IsLawful}
use Rattle.board_laws.specs.Meaning.{TargetRows, Meaning}
use Rattle.board_laws.proofs.Lookups.{Ties, is_key, same_key}
use Rattle.change_laws.specs.Changes.{Change, changed_at, LeadOn, changes_at, all_changes}
use Rattle.change_laws.specs.Since.{HaveGoneOn, IsTouchedSince}
use Rattle.change_laws.proofs.GoingOn.{untouched-stands}

abbrev Standing : Type 0
Standing = Option (ℕ × KeptRow)

-- ---- what stands at some keys

module _ (ties : Ties) (f : KeyValue → Standing) (q : KeyValue) where
  -- the change of a key that is among them
  lookup-among : (keys : List KeyValue) → list_any (is_key q) keys ≡ true → lookup (is_key q) (map (λ key. (key, f key)) keys) ≡ Some (f q)
  lookup-among [] e = absurd (true≢false (sym e))
  lookup-among (k ∷ keys) e = by (lookup-among keys) (is_key q k) refl e
    where
      by : (list_any (is_key q) keys ≡ true → lookup (is_key q) (map (λ key. (key, f key)) keys) ≡ Some (f q)) → (b : Bool) → is_key q k ≡ b → (b || list_any (is_key q) keys) ≡ true
          → cond b (Some (f k)) (lookup (is_key q) (map (λ key. (key, f key)) keys)) ≡ Some (f q)
      by more true same e = ap (λ (x : KeyValue). Some (f x)) (sym (same_key ties q k same))
      by more false same e = more e

  -- and of one that isn't
  lookup-not_among : (keys : List KeyValue) → list_any (is_key q) keys ≡ false → lookup (is_key q) (map (λ key. (key, f key)) keys) ≡ None
  lookup-not_among [] e = refl
  lookup-not_among (k ∷ keys) e = by (lookup-not_among keys) (is_key q k) e
    where
      by : (list_any (is_key q) keys ≡ false → lookup (is_key q) (map (λ key. (key, f key)) keys) ≡ None) → (b : Bool) → (b || list_any (is_key q) keys) ≡ false
          → cond b (Some (f k)) (lookup (is_key q) (map (λ key. (key, f key)) keys)) ≡ None
      by more true e = absurd (true≢false e)
      by more false e = more e

rising-keys : (f : KeyValue → Standing) (keys : List KeyValue) → IsStrictlySortedBy key_cmp keys → IsRising key_cmp (map (λ key. (key, f key)) keys)
unfolding IsStrictlySortedBy
rising-keys f [] sorted = tt
rising-keys f (k ∷ keys) sorted = (above keys sorted.0, rising-keys f keys sorted.1)
  where
    above : (others : List KeyValue) → AllByRecursion (λ (y : KeyValue). key_cmp k y ≡ Less) others → AllByRecursion (λ (later : Change). key_cmp k later.0 ≡ Less) (map (λ key. (key, f key)) others)
    above [] h = tt
    above (y ∷ others) h = (h.0, above others h.1)

pub changes-lead : (ties : Ties) (old new : Meaning) (keys : List KeyValue) → IsLawful old → IsLawful new → HaveGoneOn old new → IsStrictlySortedBy key_cmp keys
    → ((key : KeyValue) → IsTouchedSince old new key → list_any (eq_by_cmp key_cmp key) keys ≡ true)
    → LeadOn old.rows (changes_at new.rows keys) new.rows
changes-lead ties old new keys lawful still gone sorted all = record {
  rising = rising-keys (value_at key_cmp new.rows) keys sorted;
  each_key = λ key. by key (list_any (is_key key) keys) refl;
}
  where
    by : (key : KeyValue) (b : Bool) → list_any (is_key key) keys ≡ b → value_at key_cmp new.rows key ≡ changed_at (changes_at new.rows keys) old.rows key
    by key true e = ap (λ (v : Option Standing). unwrap_or v (value_at key_cmp old.rows key)) (sym (lookup-among ties (value_at key_cmp new.rows) key keys e))
    by key false e =
        untouched-stands old new key gone (λ touched. true≢false (sym (all key touched) ∙ e)) lawful still
        ∙ ap (λ (v : Option Standing). unwrap_or v (value_at key_cmp old.rows key)) (sym (lookup-not_among ties (value_at key_cmp new.rows) key keys e))

-- ---- all rows

lookup-all : (q : KeyValue) (rows : TargetRows) → lookup (is_key q) (all_changes rows) ≡ option_map Some (value_at key_cmp rows q)
lookup-all q [] = refl
lookup-all q (e ∷ rows) = elim (is_key q e.0) as (λ b. cond b (Some (Some e.1)) (lookup (is_key q) (all_changes rows)) ≡ option_map Some (cond b (Some e.1) (value_at key_cmp rows q))) [
  | true ↦ refl
  | false ↦ lookup-all q rows
]

rising-all : (rows : TargetRows) → IsRising key_cmp rows → IsRising key_cmp (all_changes rows)
rising-all [] rising = tt
rising-all (e ∷ rows) rising = (above rows rising.0, rising-all rows rising.1)
  where
    above : (others : TargetRows) → AllByRecursion (λ (later : KeyValue × (ℕ × KeptRow)). key_cmp e.0 later.0 ≡ Less) others → AllByRecursion (λ (later : Change). key_cmp e.0 later.0 ≡ Less) (all_changes others)
    above [] h = tt
    above (y ∷ others) h = (h.0, above others h.1)

pub all-lead : (rows : TargetRows) → IsRising key_cmp rows → LeadOn [] (all_changes rows) rows
all-lead rows rising = record {
  rising = rising-all rows rising;
  each_key = λ key. by (value_at key_cmp rows key) ∙ ap (λ (v : Option Standing). unwrap_or v None) (sym (lookup-all key rows));
}
  where
    by : (v : Standing) → v ≡ unwrap_or (option_map Some v) None
    by None = refl
    by (Some x) = refl
