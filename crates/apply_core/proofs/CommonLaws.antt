-- What stands at the keys that two boards both have.
use Rattle.std.proofs.Common.{◌≡◌, ℕ, Bool, true, false, cond, [], ◌∷◌, Option, Some, None, refl, sym, ap, subst, ◌∙◌}
use Rattle.std.proofs.lemmas.Option.{same_Some, none-some}
use Rattle.std.specs.declared.cmp.Ordering.TheVariants.{Less, Greater}
use Rattle.std.specs.List.{AllByRecursion}
use Rattle.std.specs.Ordering.{ordering_reverse, is_eq}
use Rattle.list_laws.proofs.Fronts.{each}
use Rattle.pk_copy.specs.KeyOrder.{key_cmp}
use Rattle.pk_copy.specs.KeyOrderLaws.{key_cmp_total}
use Rattle.pk_copy.specs.KeyValue.{KeyValue}
use Rattle.target_tables.specs.Contents.{value_at}
use Rattle.target_tables.specs.Common.{with_other, common}
use Rattle.target_tables.specs.Rising.{IsRising}
use Rattle.source_feed.specs.History.{RowValue}
use Rattle.board_laws.specs.Meaning.{TargetRows}
use Rattle.board_laws.proofs.Lookups.{Ties, is_key, is_itself, same_key}
use Rattle.apply_core.specs.Private.Meeting.{Met}

-- ---- what the keys that both have are

-- both lists have a row there, of these streams
pub record Stands (one other : TargetRows) (met : Met) : Type 0 where
  pub first : ℕ × RowValue
  pub second : ℕ × RowValue
  pub here : value_at key_cmp one met.0 ≡ Some first
  pub there : value_at key_cmp other met.0 ≡ Some second
  pub stream : met.1.0 ≡ first.0
  pub beside : met.1.1 ≡ second.0
  pub above : (d : KeyValue) → AllByRecursion (λ (e : KeyValue × (ℕ × RowValue)). key_cmp d e.0 ≡ Less) one → key_cmp d met.0 ≡ Less

pub all_stand : (one other : TargetRows) → IsRising key_cmp one → AllByRecursion (Stands one other) (common key_cmp one other)
all_stand [] other h = tt
all_stand (e ∷ one) other h = by (later (all_stand one other h.1)) (value_at key_cmp other e.0) refl
  where
    later : AllByRecursion (Stands one other) (common key_cmp one other) → AllByRecursion (Stands (e ∷ one) other) (common key_cmp one other)
    later rest = each (Stands one other) (Stands (e ∷ one) other) (λ m st. keep m st) (common key_cmp one other) rest
      where
        keep : (m : Met) → Stands one other m → Stands (e ∷ one) other m
        keep m st =
            let less : key_cmp e.0 m.0 ≡ Less = st.above e.0 h.0 in
            let greater : key_cmp m.0 e.0 ≡ Greater = key_cmp_total.antisymm m.0 e.0 ∙ ap ordering_reverse less in
            record {
              first = st.first;
              second = st.second;
              here = ap (λ r. cond (is_eq r) (Some e.1) (value_at key_cmp one m.0)) greater ∙ st.here;
              there = st.there;
              stream = st.stream;
              beside = st.beside;
              above = λ d up. st.above d up.1;
            }

    by : AllByRecursion (Stands (e ∷ one) other) (common key_cmp one other) → (v : Option (ℕ × RowValue)) → value_at key_cmp other e.0 ≡ v → AllByRecursion (Stands (e ∷ one) other) (with_other e v (common key_cmp one other))
    by rest None p = rest
    by rest (Some w) p = (
      record {
        first = e.1;
        second = w;
        here = ap (λ b. cond b (Some e.1) (value_at key_cmp one e.0)) (is_itself e.0);
        there = p;
        stream = refl;
        beside = refl;
        above = λ d up. up.0;
      },
      rest,
    )

pub rising_common : (one other : TargetRows) → IsRising key_cmp one → IsRising key_cmp (common key_cmp one other)
rising_common [] other h = tt
rising_common (e ∷ one) other h = by (rising_common one other h.1) (value_at key_cmp other e.0)
  where
    by : IsRising key_cmp (common key_cmp one other) → (v : Option (ℕ × RowValue)) → IsRising key_cmp (with_other e v (common key_cmp one other))
    by rest None = rest
    by rest (Some w) = (
      each (Stands one other) (λ (m : Met). key_cmp e.0 m.0 ≡ Less) (λ m st. st.above e.0 h.0) (common key_cmp one other) (all_stand one other h.1),
      rest,
    )

-- what is true of each such key
pub of_common : (ties : Ties) (P : Met → Type 0) (one other : TargetRows) (k : KeyValue) (v w : ℕ × RowValue) → value_at key_cmp one k ≡ Some v → value_at key_cmp other k ≡ Some w
    → AllByRecursion P (common key_cmp one other) → P (k, (v.0, w.0))
of_common ties P [] other k v w e f h = absurd (none-some v e)
of_common ties P (x ∷ one) other k v w e f h = by (λ p all. of_common ties P one other k v w p f all) (is_key k x.0) refl
  where
    rest : (o : Option (ℕ × RowValue)) → AllByRecursion P (with_other x o (common key_cmp one other)) → AllByRecursion P (common key_cmp one other)
    rest None all = all
    rest (Some y) all = all.1

    front : AllByRecursion P (with_other x (Some w) (common key_cmp one other)) → P (x.0, (x.1.0, w.0))
    front all = all.0

    by : (value_at key_cmp one k ≡ Some v → AllByRecursion P (common key_cmp one other) → P (k, (v.0, w.0))) → (b : Bool) → is_key k x.0 ≡ b → P (k, (v.0, w.0))
    by again true q =
        let key : k ≡ x.0 = same_key ties k x.0 q in
        let value : x.1 ≡ v = same_Some x.1 v (sym (ap (λ b. cond b (Some x.1) (value_at key_cmp one k)) q) ∙ e) in
        let there : value_at key_cmp other x.0 ≡ Some w = sym (ap (value_at key_cmp other) key) ∙ f in
        let p : P (x.0, (x.1.0, w.0)) = front (subst (λ (o : Option (ℕ × RowValue)). AllByRecursion P (with_other x o (common key_cmp one other))) there h) in
        subst (λ (n : ℕ). P (k, (n, w.0))) (ap (λ (y : ℕ × RowValue). y.0) value) (subst (λ (q : KeyValue). P (q, (x.1.0, w.0))) (sym key) p)
    by again false q =
        again (sym (ap (λ b. cond b (Some x.1) (value_at key_cmp one k)) q) ∙ e) (rest (value_at key_cmp other x.0) h)
