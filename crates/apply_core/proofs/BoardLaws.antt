-- Steps of a board that touch no row, from the steps of its streams.
use Rattle.std.proofs.Common.{◌≡◌, ℕ, List, None, Result, Ok, Err, ◌++◌, length, take, drop, set, refl, sym, ap, subst, ◌∙◌, arith}
use Rattle.std.proofs.lemmas.List.{take-append-le, take_all}
use Rattle.pk_copy.specs.KeyValue.{KeyValue}
use Rattle.board_laws.specs.declared.answer.Answer.{Answer}
use Rattle.board_laws.specs.declared.refusal.Refusal.{Refusal}
use Rattle.source_feed.specs.Prepared.{IsPrepared}
use Rattle.board_laws.specs.Meaning.{State, TargetRows, Meaning}
use Rattle.board_laws.specs.Lawful.{IsLawful}
use Rattle.board_laws.specs.Event.{Event, OnOffer}
use Rattle.board_laws.specs.StateAfter.{state_after}
use Rattle.board_laws.specs.Touching.{touch_of}
use Rattle.board_laws.specs.Step.{IsMade, IsStep}
use Rattle.board_laws.specs.Laws.{StillSteps}
use Rattle.apply_core.specs.Private.StreamStep.{IsStreamStep}

-- a board is lawful behind every step
pub lawful-after : (old new : Meaning) (s : ℕ) (event : Event) (r : Result Answer Refusal) → IsLawful old → IsStep old s event r new → IsLawful new
lawful-after old new s event (Ok answer) lawful step = step.lawful
lawful-after old new s event (Err refusal) lawful step = subst (λ (b : Meaning). IsLawful b) (sym step.1) lawful

-- a step of the streams that touches no row is the board's
pub still-step : StillSteps → (streams new : List State) (rows : TargetRows) (board : Meaning) (seen : ◌≡◌ {A = Meaning} (record { streams = streams; rows = rows }) board) (s : ℕ) (event : Event) (r : Result Answer Refusal)
    → IsLawful (record { streams = streams; rows = rows }) → OnOffer IsPrepared event → ((state : State) (key : KeyValue) → touch_of state event key ≡ None) → IsStreamStep streams s event r new
    → IsStep board s event r (record { streams = new; rows = rows })
still-step still streams new rows board seen s event r lawful prepared untouched step =
    subst (λ (b : Meaning). IsStep b s event r (record { streams = new; rows = rows })) seen (by r step)
  where
    by : (r : Result Answer Refusal) → IsStreamStep streams s event r new → IsStep (record { streams = streams; rows = rows }) s event r (record { streams = new; rows = rows })
    by (Ok answer) h =
        subst (λ (xs : List State). IsMade (record { streams = streams; rows = rows }) s event answer (record { streams = xs; rows = rows })) (sym h.streams)
        (subst (λ (a : Answer). IsMade (record { streams = streams; rows = rows }) s event a (record { streams = set streams s (state_after h.may.state event); rows = rows })) (sym h.answered)
        (still (record { streams = streams; rows = rows }) s h.may.state event (record { lawful = lawful; stream = h.may.stream; allowed = h.may.allowed; prepared = prepared }) (untouched h.may.state)))
    by (Err refusal) h = (h.0 rows, ap (λ (xs : List State). record { streams = xs; rows = rows }) h.1)

-- what a loan of the streams writes back
pub refilled : (n : ℕ) (items new : List State) → length new ≡ n → take n (new ++ drop (length new) items) ≡ new
refilled n items new same = take-append-le n new (drop (length new) items) (omega (arith, same)) ∙ take_all n new (omega (arith, same))

module _ (still : StillSteps) (items : List State) (rows : TargetRows) (s : ℕ) (event : Event) (r : Result Answer Refusal) (lent new : List State) (is : lent ≡ items)
    (lawful : IsLawful (record { streams = items; rows = rows })) (prepared : OnOffer IsPrepared event) (untouched : (state : State) (key : KeyValue) → touch_of state event key ≡ None)
    (step : IsStreamStep lent s event r new) (n : ℕ) (same : length new ≡ n) where
  -- the step of lent streams that touches no row is the board's
  pub lent-step : (board : Meaning) → ◌≡◌ {A = Meaning} (record { streams = items; rows = rows }) board
      → IsStep board s event r (record { streams = take n (new ++ drop (length new) items); rows = rows })
  lent-step board seen =
      subst (λ (xs : List State). IsStep board s event r (record { streams = xs; rows = rows })) (sym (refilled n items new same))
      (still-step still items new rows board seen s event r lawful prepared untouched (subst (λ (xs : List State). IsStreamStep xs s event r new) is step))

  -- and leaves it lawful
  pub lent-lawful : IsLawful (record { streams = take n (new ++ drop (length new) items); rows = rows })
  lent-lawful =
      lawful-after (record { streams = items; rows = rows }) (record { streams = take n (new ++ drop (length new) items); rows = rows }) s event r lawful
      (lent-step (record { streams = items; rows = rows }) refl)
