-- The cut of the state behind a step: at each key what the step left there, or what stood there; first of whole
-- rows, then of their kept columns.
use Rattle.std.proofs.Common.{◌≡◌, ◌<◌, ◌≤◌, inl, inr, true, false, cond, [], ◌∷◌, ◌++◌, length, Option, Some, None, slice_get, refl, sym, ap, ◌∙◌, arith}
use Rattle.std.proofs.lemmas.Option.{slice_get_cases}
use borrow.Author.Tests.{lt-ltb}
use Rattle.std.specs.Prelude.{nat_le, unwrap_or}
use Rattle.std.specs.Option.{option_map, option_and_then}
use Rattle.filter_rule.specs.PlanValue.{PlanValue}
use Rattle.pk_copy.specs.KeyOrder.{key_cmp}
use Rattle.pk_copy.specs.KeyValue.{KeyValue}
use Rattle.pk_copy.specs.Marks.{is_inside, next_table}
use Rattle.target_tables.specs.Touches.{last_at}
use Rattle.source_feed.specs.Touches.{PreparedValue}
use Rattle.source_feed.specs.History.{RowValue, passed_at, kept_of}
use Rattle.board_laws.specs.Meaning.{State}
use Rattle.board_laws.specs.Cut.{cut_of}
use Rattle.board_laws.specs.Lawful.{IsSoundState}
use Rattle.board_laws.specs.Event.{Event, offer, advance, open_at, copy_rows, close, restart}
use Rattle.board_laws.specs.Chunk.{rows_taken, takes_all, marks_behind}
use Rattle.board_laws.specs.StateAfter.{state_after}
use Rattle.board_laws.specs.Touching.{passed_by, passed_touch, touch_of}
use Rattle.board_laws.specs.Allowed.{IsAllowed}
use Rattle.board_laws.proofs.Lookups.{Ties}
use Rattle.board_laws.proofs.History.{passed_at-next, cut-next, passed_at-push, passed_at-take}
use Rattle.board_laws.proofs.Chunks.{cut-after_copy}
use Rattle.board_laws.proofs.PassedCut.{passed_cut, cut-passed, mapped}
use Rattle.board_laws.proofs.Sound.{one_more, copying}

-- a group more in the list leaves the cut as it was
cut-offered : (state : State) (group : PreparedValue) (key : KeyValue) → state.applied ≤ length state.list → passed_cut (state_after state (offer group)) key ≡ passed_cut state key
cut-offered state group key h =
    elim (nat_le group.number (length state.list)) as (λ b. passed_cut (cond b state (record { plan = state.plan; list = state.list ++ group ∷ []; applied = state.applied; marks = state.marks; snapshot = state.snapshot })) key ≡ passed_cut state key) [
      | true ↦ refl
      | false ↦ ap (λ (v : Option RowValue). cond (is_inside state.marks key) v None) (passed_at-push state.list group state.applied key h)
    ]

cut-advanced : (state : State) (group : PreparedValue) (key : KeyValue) → slice_get state.list state.applied ≡ Some group → passed_cut (state_after state advance) key ≡ unwrap_or (passed_touch state advance key) (passed_cut state key)
cut-advanced state group key e =
    ap (λ (v : Option RowValue). cond (is_inside state.marks key) v None) (passed_at-next state.list state.applied group key e)
    ∙ cut-next (is_inside state.marks key) (last_at key_cmp group.touches key) (passed_at state.list state.applied key)
    ∙ ap (λ (o : Option PreparedValue). unwrap_or (option_and_then (λ g. passed_by state.marks g key) o) (passed_cut state key)) (sym e)

passed-after : (ties : Ties) (state : State) (event : Event) (key : KeyValue) → IsSoundState state → IsAllowed state event → passed_cut (state_after state event) key ≡ unwrap_or (passed_touch state event key) (passed_cut state key)
passed-after ties state (offer group) key sound allowed = cut-offered state group key sound.standing.applied
passed-after ties state advance key sound allowed =
    elim (slice_get_cases state.list state.applied).1 [
      | inl there ↦ cut-advanced state there.0 key there.2
      | inr past ↦ absurd (let more : state.applied < length state.list = one_more state sound.standing allowed.table in omega (arith, past.0))
    ]
passed-after ties state (open_at m) key sound allowed = refl
passed-after ties state (copy_rows c) key sound allowed =
    cut-after_copy ties state (lt-ltb state.marks.done state.marks.tables (copying state c sound.standing allowed.table)) c key
passed-after ties state close key sound allowed = refl
passed-after ties state restart key sound allowed = ap (λ (v : Option RowValue). cond (is_inside state.marks key) v None) (passed_at-take state.list state.applied key)

-- a step leaves a stream its plan
plan-after : (state : State) (event : Event) → (state_after state event).plan ≡ state.plan
plan-after state (offer group) =
    elim (nat_le group.number (length state.list)) as (λ b. (cond {A = State} b state (record { plan = state.plan; list = state.list ++ group ∷ []; applied = state.applied; marks = state.marks; snapshot = state.snapshot })).plan ≡ state.plan) [
      | true ↦ refl
      | false ↦ refl
    ]
plan-after state advance = refl
plan-after state (open_at m) = refl
plan-after state (copy_rows c) =
    elim (takes_all state c) as (λ b. (cond {A = State} b (record { plan = state.plan; list = state.list; applied = state.applied; marks = next_table state.marks; snapshot = None })
    (record { plan = state.plan; list = state.list; applied = state.applied; marks = marks_behind (rows_taken state c) state.marks; snapshot = state.snapshot })).plan ≡ state.plan) [
      | true ↦ refl
      | false ↦ refl
    ]
plan-after state close = refl
plan-after state restart = refl

pub cut-after : (ties : Ties) (state : State) (event : Event) (key : KeyValue) → IsSoundState state → IsAllowed state event → cut_of (state_after state event) key ≡ unwrap_or (touch_of state event key) (cut_of state key)
cut-after ties state event key sound allowed =
    cut-passed (state_after state event) key
    ∙ ap (λ (plan : PlanValue). option_map (kept_of plan key) (passed_cut (state_after state event) key)) (plan-after state event)
    ∙ ap (option_map (kept_of state.plan key)) (passed-after ties state event key sound allowed)
    ∙ mapped (kept_of state.plan key) (passed_touch state event key) (passed_cut state key)
    ∙ ap (unwrap_or (touch_of state event key)) (sym (cut-passed state key))
