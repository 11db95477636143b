-- The receipts of what a seat's stream applies, step by step.
use Rattle.std.proofs.Common.{◌≡◌, ℕ, ◌+◌, ◌-◌, Bool, true, false, cond, zero, suc, List, [], ◌∷◌, ◌++◌, append-nil, length, length-append, Some, None, Ok, slice_get, refl, sym, ap, subst, ◌∙◌, arith}
use Rattle.std.proofs.lemmas.Option.{same_Some}
use Rattle.std.specs.Arc.{arc_value}
use Rattle.std.specs.Prelude.{nat_le}
use Rattle.stream_core.specs.declared.step.Step.{Step}
use Rattle.stream_core.specs.declared.step.Step.TheVariants.{Offer, Advance, OpenAt, CopyRows, Close, Restart}
use Rattle.stream_core.specs.Standing.{Standing}
use Rattle.pk_copy.specs.Marks.{next_table}
use Rattle.source_feed.specs.Planned.{FeedValue}
use Rattle.source_feed.specs.Touches.{PreparedValue, prepared_at}
use Rattle.board_laws.specs.Meaning.{State}
use Rattle.board_laws.specs.Event.{Event, offer, advance, open_at, copy_rows, close}
use Rattle.board_laws.specs.Chunk.{takes_all, rows_taken, marks_behind}
use Rattle.board_laws.specs.StateAfter.{state_after}
use Rattle.board_laws.specs.Runs.{event_of_step}
use Rattle.stream_worker.specs.declared.receipt.Receipt.{Receipt}
use Rattle.stream_worker.specs.Seats.{IsReceiptOf}
use Rattle.stream_worker.specs.Worked.{IsReceiptBehind, AreReceiptsSince}
use Rattle.apply_core.specs.Courses.{LeadsOn}
use Rattle.stream_worker.proofs.SeatsAreClaimed.{each_pushed}
use Rattle.apply_core.proofs.CourseStepsAreAllowed.{of_offer}

-- ---- how far a stream comes by a step

-- a step that applies nothing: the list is longer, or the same
pub record IsNoAdvance (before after : State) : Type 0 where
  pub applied : after.applied ≡ before.applied
  pub rest : List PreparedValue
  pub list : after.list ≡ before.list ++ rest

-- an advance applies one group of the list
pub record IsAdvance (before after : State) : Type 0 where
  pub applied : after.applied ≡ before.applied + 1
  pub list : after.list ≡ before.list

pub same-list : (before after : State) → after.applied ≡ before.applied → after.list ≡ before.list → IsNoAdvance before after
same-list before after applied list = record { applied = applied; rest = []; list = list ∙ sym (append-nil before.list) }

-- what a step that is made does to the groups that its stream has applied
abbrev pub Comes : Step → State → State → Type 0
Comes Advance before after = IsAdvance before after
Comes step before after = IsNoAdvance before after

module _ (feed : FeedValue) (state : State) where
  comes-offer : (group : PreparedValue) → IsNoAdvance state (state_after state (offer group))
  comes-offer group = by (nat_le group.number (length state.list))
    where
      by : (b : Bool) → IsNoAdvance state (cond b state (record state { list = state.list ++ group ∷ [] }))
      by true = same-list state state refl refl
      by false = record { applied = refl; rest = group ∷ []; list = refl }

  comes-copy : (c : ℕ) → IsNoAdvance state (state_after state (copy_rows c))
  comes-copy c = by (takes_all state c)
    where
      by : (b : Bool) → IsNoAdvance state (cond b (record state { marks = next_table state.marks; snapshot = None }) (record state { marks = marks_behind (rows_taken state c) state.marks }))
      by true = same-list state _ refl refl
      by false = same-list state _ refl refl

  pub comes : (step : Step) (event : Event) (at : Standing) (groups was is : ℕ) → LeadsOn at groups was is step → event_of_step feed step ≡ Some event → Comes step state (state_after state event)
  comes (Offer n) event at groups was is leads h =
      let one : (group : PreparedValue) × (prepared_at feed n ≡ Ok group) × (offer group ≡ event) = of_offer feed n event h in
      subst (λ e. IsNoAdvance state (state_after state e)) one.2 (comes-offer one.0)
  comes Advance event at groups was is leads h = subst (λ e. IsAdvance state (state_after state e)) (same_Some advance event h) (record { applied = refl; list = refl })
  comes (OpenAt m) event at groups was is leads h = subst (λ e. IsNoAdvance state (state_after state e)) (same_Some (open_at m) event h) (same-list state (state_after state (open_at m)) refl refl)
  comes (CopyRows c) event at groups was is leads h = subst (λ e. IsNoAdvance state (state_after state e)) (same_Some (copy_rows c) event h) (comes-copy c)
  comes Close event at groups was is leads h = subst (λ e. IsNoAdvance state (state_after state e)) (same_Some close event h) (same-list state (state_after state close) refl refl)
  comes Restart event at groups was is leads h = absurd leads

-- ---- receipts

front-stays : {A : Type 0} (xs rest : List A) (i : ℕ) (x : A) → slice_get xs i ≡ Some x → slice_get (xs ++ rest) i ≡ Some x
front-stays [] rest i x e = cc
front-stays (y ∷ xs) rest zero x e = e
front-stays (y ∷ xs) rest (suc i) x e = front-stays xs rest i x e

module _ (first s : ℕ) (before after : State) (receipts : List Receipt) (all : AreReceiptsSince first s before receipts) where
  -- no group is applied
  pub receipts-stay : IsNoAdvance before after → AreReceiptsSince first s after receipts
  receipts-stay h = record { count = all.count ∙ sym h.applied; each = each }
    where
      each : (i : ℕ) (receipt : Receipt) → slice_get receipts i ≡ Some receipt → IsReceiptBehind s (first + i) after receipt
      each i receipt at =
          let one : IsReceiptBehind s (first + i) before receipt = all.each i receipt at in
          record {
            stream = one.stream;
            number = one.number;
            group = ap (λ (groups : List PreparedValue). slice_get groups (first + i)) h.list ∙ front-stays before.list h.rest (first + i) (arc_value receipt.group) one.group;
          }

  -- one more group is applied, and has a receipt
  pub receipts-more : IsAdvance before after → (more : List Receipt) (receipt : Receipt) → more ≡ receipts ++ receipt ∷ [] → IsReceiptOf s after receipt.stream receipt.number (arc_value receipt.group)
      → AreReceiptsSince first s after more
  receipts-more h more receipt is last =
      subst (λ (l : List Receipt). AreReceiptsSince first s after l) (sym is) (record {
        count = let sum = length-append receipts (receipt ∷ []) in omega (arith, sum, all.count, h.applied);
        each = each_pushed (λ i r. IsReceiptBehind s (first + i) after r) receipts receipt old new;
      })
    where
      old : (i : ℕ) (r : Receipt) → slice_get receipts i ≡ Some r → IsReceiptBehind s (first + i) after r
      old i r at =
          let one : IsReceiptBehind s (first + i) before r = all.each i r at in
          record { stream = one.stream; number = one.number; group = ap (λ (groups : List PreparedValue). slice_get groups (first + i)) h.list ∙ one.group }

      number : receipt.number ≡ (first + length receipts) + 1
      number = omega (arith, last.number, h.applied, all.count)

      place : first + length receipts ≡ receipt.number - 1
      place = let n = number in omega (arith, n)

      new : IsReceiptBehind s (first + length receipts) after receipt
      new = record {
        stream = last.stream;
        number = number;
        group = ap (slice_get after.list) place ∙ last.group;
      }
