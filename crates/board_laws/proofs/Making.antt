-- A step whose touches are made, or that makes none, keeps the board lawful.
use Rattle.std.proofs.Common.{◌≡◌, ◌≢◌, ◌==◌, ℕ, ◌≤◌, ◌⊎◌, inl, inr, Bool, true, false, cond, [], ◌∷◌, ◌++◌, length, Option, Some, None, slice_get, set, refl, sym, ap, subst, ◌∙◌}
use Rattle.std.proofs.lemmas.Bool.{eqb-false}
use Rattle.std.proofs.lemmas.List.{length-set}
use borrow.Author.Tests.{eqb-true}
use Rattle.std.specs.Prelude.{nat_le, unwrap_or}
use Rattle.std.specs.Option.{option_map, option_and_then}
use Rattle.list_laws.proofs.Places.{slice_get-set_same, slice_get-set_other}
use Rattle.filter_rule.specs.PlanValue.{PlanValue}
use Rattle.pk_copy.specs.KeyOrder.{key_cmp}
use Rattle.pk_copy.specs.KeyValue.{KeyValue}
use Rattle.pk_copy.specs.Lastpk.{KeysOfRowsAreTableKeys}
use Rattle.pk_copy.specs.Marks.{next_table}
use Rattle.source_feed.specs.Prepared.{IsPrepared}
use Rattle.source_feed.specs.History.{RowValue}
use Rattle.target_tables.specs.Contents.{value_at}
use Rattle.target_tables.specs.Rising.{IsRising}
use Rattle.target_tables.specs.Touches.{owner_in_the_way, NoneInTheWay, IsLeastClash, IsTouched}
use Rattle.board_laws.specs.Meaning.{State, TargetRows, Meaning}
use Rattle.board_laws.specs.Cut.{cut_of, cut_in, own_row}
use Rattle.board_laws.specs.Lawful.{IsSoundState, IsLawful}
use Rattle.board_laws.specs.Event.{Event, offer, advance, open_at, copy_rows, close, restart, OnOffer}
use Rattle.board_laws.specs.Chunk.{takes_all, rows_taken, marks_behind}
use Rattle.board_laws.specs.StateAfter.{answer_to, state_after}
use Rattle.board_laws.specs.Touching.{touch_of}
use Rattle.board_laws.specs.Allowed.{IsAllowed}
use Rattle.board_laws.specs.Step.{due_at, IsMade, IsClash}
use Rattle.board_laws.proofs.Lists.{slice_get-set}
use Rattle.board_laws.proofs.Lookups.{Ties}
use Rattle.board_laws.proofs.Owning.{own-touched, other-touched, same-owner}
use Rattle.board_laws.proofs.Sound.{sound-after}
use Rattle.board_laws.proofs.CutAfter.{cut-after}

-- a step keeps the stream's plan
pub plan-after : (state : State) (event : Event) → (state_after state event).plan ≡ state.plan
plan-after state (offer group) = elim (nat_le group.number (length state.list)) as (λ b. (cond b state (record state { list = state.list ++ group ∷ [] })).plan ≡ state.plan) [ true ↦ refl | false ↦ refl ]
plan-after state advance = refl
plan-after state (open_at m) = refl
plan-after state (copy_rows c) =
    elim (takes_all state c) as (λ b. (cond b (record state { marks = next_table state.marks; snapshot = None }) (record state { marks = marks_behind (rows_taken state c) state.marks })).plan ≡ state.plan) [ true ↦ refl | false ↦ refl ]
plan-after state close = refl
plan-after state restart = refl

-- the same number, or another
pub same-or-other : (t s : ℕ) → (t ≡ s) ⊎ (t ≢ s)
same-or-other t s = by (t == s) refl
  where
    by : (b : Bool) → (t == s) ≡ b → (t ≡ s) ⊎ (t ≢ s)
    by true e = inl (eqb-true t s e)
    by false e = inr (eqb-false t s e)

module _ (ties : Ties) (old : Meaning) (lawful : IsLawful old) (s : ℕ) (state : State) (here : slice_get old.streams s ≡ Some state) (event : Event) (allowed : IsAllowed state event) where
  sound : IsSoundState state
  sound = lawful.sound s state here

  -- the stream's own row is the one of its cut
  own : (key : KeyValue) → own_row s (value_at key_cmp old.rows key) ≡ cut_of state key
  own key = lawful.cuts s key ∙ ap (λ (o : Option State). option_and_then (λ x. cut_of x key) o) here

  -- the row of the new cut: what the step leaves, or the stream's own
  cut-new : (key : KeyValue) → cut_of (state_after state event) key ≡ unwrap_or (touch_of state event key) (own_row s (value_at key_cmp old.rows key))
  cut-new key = cut-after ties state event key sound allowed ∙ ap (λ (v : Option RowValue). unwrap_or (touch_of state event key) v) (sym (own key))

  -- whoever is in the way of what is due by the new cut is in the way of the step
  same-in_the_way : (key : KeyValue) → owner_in_the_way s (due_at (state_after state event) key) (value_at key_cmp old.rows key) ≡ owner_in_the_way s (touch_of state event key) (value_at key_cmp old.rows key)
  same-in_the_way key =
      ap (λ (v : Option RowValue). owner_in_the_way s (option_map Some v) (value_at key_cmp old.rows key)) (cut-new key)
      ∙ same-owner s (touch_of state event key) (value_at key_cmp old.rows key)

  -- the least clash of the step is the least clash of the new cut
  pub clash-of_cut : (key : KeyValue) (owner : ℕ) → IsLeastClash key_cmp old.rows s (touch_of state event) key owner → IsClash old.rows s state event key owner
  clash-of_cut key owner clash = record {
    allowed = allowed;
    least = record {
      here = same-in_the_way key ∙ clash.here;
      none_less = λ k less. same-in_the_way k ∙ clash.none_less k less;
    };
  }

  module _ (of_rows : KeysOfRowsAreTableKeys) (rows : TargetRows) (prepared : OnOffer IsPrepared event) (clear : NoneInTheWay key_cmp old.rows s (touch_of state event))
      (made : IsTouched key_cmp old.rows s (touch_of state event) rows) (rising : IsRising key_cmp rows) where
    abbrev new : Meaning
    new = record { streams = set old.streams s (state_after state event); rows = rows }

    -- each stream's plan is what it was
    before : (t : ℕ) (x : State) → slice_get new.streams t ≡ Some x → (y : State) × (slice_get old.streams t ≡ Some y) × (x.plan ≡ y.plan)
    before t x e =
        elim (slice_get-set old.streams s (state_after state event) x t e) [
          | inl same ↦ (state, ap (slice_get old.streams) same.0 ∙ here, ap (λ (z : State). z.plan) (sym same.1) ∙ plan-after state event)
          | inr other ↦ (x, other.1, refl)
        ]

    cut-same : (key : KeyValue) → own_row s (value_at key_cmp rows key) ≡ cut_in new s key
    cut-same key =
        ap (own_row s) (made key)
        ∙ own-touched s (touch_of state event key) (value_at key_cmp old.rows key)
        ∙ sym (cut-new key)
        ∙ ap (λ (o : Option State). option_and_then (λ x. cut_of x key) o) (sym (slice_get-set_same old.streams s (state_after state event) state here))

    cut-other : (t : ℕ) (key : KeyValue) → t ≢ s → own_row t (value_at key_cmp rows key) ≡ cut_in new t key
    cut-other t key other =
        ap (own_row t) (made key)
        ∙ other-touched s t (touch_of state event key) (value_at key_cmp old.rows key) other (clear key)
        ∙ lawful.cuts t key
        ∙ ap (λ (o : Option State). option_and_then (λ x. cut_of x key) o) (sym (slice_get-set_other old.streams s (state_after state event) t other))

    stays_lawful : IsLawful new
    stays_lawful = record {
      some = subst (λ n. 1 ≤ n) (sym (length-set old.streams s (state_after state event))) lawful.some;
      few = subst (λ n. n ≤ 64) (sym (length-set old.streams s (state_after state event))) lawful.few;
      sound = λ t x e. elim (slice_get-set old.streams s (state_after state event) x t e) [
        | inl same ↦ subst (λ (z : State). IsSoundState z) same.1 (sound-after ties of_rows state event sound allowed prepared)
        | inr other ↦ lawful.sound t x other.1
      ];
      tables = λ t u x y e f.
          let one : (z : State) × (slice_get old.streams t ≡ Some z) × (x.plan ≡ z.plan) = before t x e in
          let two : (z : State) × (slice_get old.streams u ≡ Some z) × (y.plan ≡ z.plan) = before u y f in
          ap (λ (p : PlanValue). p.tables) one.2 ∙ lawful.tables t u one.0 two.0 one.1 two.1 ∙ ap (λ (p : PlanValue). p.tables) (sym two.2);
      rising = rising;
      cuts = λ t key. elim (same-or-other t s) [
        | inl same ↦ subst (λ u. own_row u (value_at key_cmp rows key) ≡ cut_in new u key) (sym same) (cut-same key)
        | inr other ↦ cut-other t key other
      ];
    }

    -- a step whose touches are made
    pub step-made : IsMade old s event (answer_to state event) new
    step-made = record {
      state = state;
      stream = here;
      allowed = allowed;
      clear = λ key. same-in_the_way key ∙ clear key;
      answered = refl;
      streams = refl;
      lawful = stays_lawful;
    }
