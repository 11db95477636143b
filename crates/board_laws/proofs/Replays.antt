-- The rows of a lawful board as replays, and a stream's board by itself.
use Rattle.std.proofs.Common.{◌≡◌, ◌≢◌, ◌==◌, ℕ, ◌≤◌, inl, inr, Bool, true, false, cond, map, Option, Some, None, slice_get, set, refl, sym, ap, subst, ◌∙◌}
use Rattle.std.proofs.lemmas.List.{length-map, length-set}
use Rattle.std.proofs.lemmas.Option.{same_Some, none-some, slice_get-map}
use borrow.Author.Tests.{eq-eqb, eqb-true}
use Rattle.std.specs.Prelude.{◌↔◌}
use Rattle.std.specs.Option.{option_map, option_and_then}
use Rattle.list_laws.proofs.Places.{slice_get-set_same, slice_get-set_other}
use Rattle.filter_rule.specs.PlanValue.{PlanValue}
use Rattle.pk_copy.specs.KeyOrder.{key_cmp}
use Rattle.pk_copy.specs.KeyValue.{KeyValue}
use Rattle.pk_copy.specs.Marks.{is_inside}
use Rattle.target_tables.specs.Contents.{value_at}
use Rattle.source_feed.specs.History.{RowValue, kept_at}
use Rattle.board_laws.specs.Meaning.{State, Meaning}
use Rattle.board_laws.specs.Cut.{cut_of, cut_in, own_row}
use Rattle.board_laws.specs.Lawful.{start_of, IsSoundState, IsLawful}
use Rattle.board_laws.specs.Lone.{IsAloneAs}
use Rattle.board_laws.specs.Reading.{IsReplayed}
use Rattle.board_laws.proofs.Fresh.{start-sound, start-cut}
use Rattle.board_laws.proofs.Lists.{slice_get-set}
use Rattle.board_laws.proofs.Making.{same-or-other}
use Rattle.board_laws.proofs.OwnPart.{own_part, only, rising_part, value_in_part, own-only, other-only}

-- ---- rows as replays

-- what stands there is the stream's row
its_row : (s : ℕ) (row : RowValue) (there : Option (ℕ × RowValue)) → own_row s there ≡ Some row → there ≡ Some (s, row)
its_row s row None e = absurd (none-some row e)
its_row s row (Some x) e = by (x.0 == s) refl e
  where
    by : (b : Bool) → (x.0 == s) ≡ b → cond b (Some x.1) None ≡ Some row → Some x ≡ Some (s, row)
    by true q e = ap (λ (n : ℕ). Some (n, x.1)) (eqb-true x.0 s q) ∙ ap (λ (r : RowValue). Some (s, r)) (same_Some x.1 row e)
    by false q e = absurd (none-some row e)

within : (row : RowValue) (b : Bool) (v : Option RowValue) → cond b v None ≡ Some row → (b ≡ true) × (v ≡ Some row)
within row true v e = (refl, e)
within row false v e = absurd (none-some row e)

pub replayed : (board : Meaning) → IsLawful board → (s : ℕ) (key : KeyValue) (row : RowValue) → (value_at key_cmp board.rows key ≡ Some (s, row)) ↔ IsReplayed board s key row
replayed board lawful s key row = (
  λ e. by (slice_get board.streams s) refl (sym (lawful.cuts s key) ∙ ap (own_row s) e ∙ ap (λ b. cond b (Some row) None) (eq-eqb s s refl)),
  λ r.
      its_row s row (value_at key_cmp board.rows key)
      (lawful.cuts s key
      ∙ ap (λ (o : Option State). option_and_then (λ x. cut_of x key) o) r.stream
      ∙ ap (λ b. cond b (kept_at r.state.plan r.state.list r.state.applied key) None) r.copied
      ∙ r.kept),
)
  where
    by : (o : Option State) → slice_get board.streams s ≡ o → option_and_then (λ x. cut_of x key) o ≡ Some row → IsReplayed board s key row
    by None at e = absurd (none-some row e)
    by (Some state) at e =
        let parts : (is_inside state.marks key ≡ true) × (kept_at state.plan state.list state.applied key ≡ Some row) = within row (is_inside state.marks key) (kept_at state.plan state.list state.applied key) e in
        record { state = state; stream = at; copied = parts.0; kept = parts.1 }

-- ---- a stream's board by itself

module _ (board : Meaning) (lawful : IsLawful board) (s : ℕ) (state : State) (here : slice_get board.streams s ≡ Some state) where
  abbrev fresh : State → State
  fresh x = start_of x.plan

  -- the stream with its state and rows, and the others fresh
  abbrev alone : Meaning
  alone = record { streams = set (map fresh board.streams) s state; rows = own_part s board.rows }

  at_alone : slice_get alone.streams s ≡ Some state
  at_alone = slice_get-set_same (map fresh board.streams) s state (fresh state) (slice_get-map fresh board.streams s ∙ ap (λ (o : Option State). option_map fresh o) here)

  was : (t : ℕ) (x : State) → slice_get (map fresh board.streams) t ≡ Some x → (y : State) × (slice_get board.streams t ≡ Some y) × (fresh y ≡ x)
  was t x e = by (slice_get board.streams t) refl (sym (slice_get-map fresh board.streams t) ∙ e)
    where
      by : (o : Option State) → slice_get board.streams t ≡ o → option_map fresh o ≡ Some x → (y : State) × (slice_get board.streams t ≡ Some y) × (fresh y ≡ x)
      by None at f = absurd (none-some x f)
      by (Some y) at f = (y, at, same_Some (fresh y) x f)

  before : (t : ℕ) (x : State) → slice_get alone.streams t ≡ Some x → (y : State) × (slice_get board.streams t ≡ Some y) × (x.plan ≡ y.plan)
  before t x e =
      elim (slice_get-set (map fresh board.streams) s state x t e) [
        | inl same ↦ (state, ap (slice_get board.streams) same.0 ∙ here, ap (λ (z : State). z.plan) (sym same.1))
        | inr other ↦
            let w : (y : State) × (slice_get board.streams t ≡ Some y) × (fresh y ≡ x) = was t x other.1 in
            (w.0, w.1, ap (λ (z : State). z.plan) (sym w.2))
      ]

  value_alone : (key : KeyValue) → value_at key_cmp alone.rows key ≡ only s (value_at key_cmp board.rows key)
  value_alone key = value_in_part s board.rows key lawful.rising

  none_alone : (t : ℕ) (key : KeyValue) → t ≢ s → own_row t (value_at key_cmp alone.rows key) ≡ None
  none_alone t key other = ap (own_row t) (value_alone key) ∙ other-only s t (value_at key_cmp board.rows key) other

  cut-same : (key : KeyValue) → own_row s (value_at key_cmp alone.rows key) ≡ cut_in alone s key
  cut-same key =
      ap (own_row s) (value_alone key)
      ∙ own-only s (value_at key_cmp board.rows key)
      ∙ lawful.cuts s key
      ∙ ap (λ (o : Option State). option_and_then (λ x. cut_of x key) o) (here ∙ sym at_alone)

  no_cut : (t : ℕ) (key : KeyValue) → t ≢ s → cut_in alone t key ≡ None
  no_cut t key other =
      ap (λ (o : Option State). option_and_then (λ x. cut_of x key) o) (slice_get-set_other (map fresh board.streams) s state t other ∙ slice_get-map fresh board.streams t)
      ∙ by (slice_get board.streams t)
    where
      by : (o : Option State) → option_and_then (λ x. cut_of x key) (option_map fresh o) ≡ None
      by None = refl
      by (Some y) = start-cut y.plan key

  alone-lawful : IsLawful alone
  alone-lawful = record {
    some = subst (λ n. 1 ≤ n) (sym (length-set (map fresh board.streams) s state ∙ length-map board.streams fresh)) lawful.some;
    few = subst (λ n. n ≤ 64) (sym (length-set (map fresh board.streams) s state ∙ length-map board.streams fresh)) lawful.few;
    sound = λ t x e. elim (slice_get-set (map fresh board.streams) s state x t e) [
      | inl same ↦ subst (λ (z : State). IsSoundState z) same.1 (lawful.sound s state here)
      | inr other ↦ (let w : (y : State) × (slice_get board.streams t ≡ Some y) × (fresh y ≡ x) = was t x other.1 in subst (λ (z : State). IsSoundState z) w.2 (start-sound w.0.plan (lawful.sound t w.0 w.1).plan))
    ];
    tables = λ t u x y e f.
        let one : (z : State) × (slice_get board.streams t ≡ Some z) × (x.plan ≡ z.plan) = before t x e in
        let two : (z : State) × (slice_get board.streams u ≡ Some z) × (y.plan ≡ z.plan) = before u y f in
        ap (λ (p : PlanValue). p.tables) one.2 ∙ lawful.tables t u one.0 two.0 one.1 two.1 ∙ ap (λ (p : PlanValue). p.tables) (sym two.2);
    rising = rising_part s board.rows lawful.rising;
    cuts = λ t key. elim (same-or-other t s) [
      | inl same ↦ subst (λ u. own_row u (value_at key_cmp alone.rows key) ≡ cut_in alone u key) (sym same) (cut-same key)
      | inr other ↦ none_alone t key other ∙ sym (no_cut t key other)
    ];
  }

  pub alone-is : (x : Meaning) × IsAloneAs s board x
  alone-is = (alone, record { lawful = alone-lawful; state = at_alone ∙ sym here; none = none_alone })
