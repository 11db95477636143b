-- Steps of a board that touch rows, from what the step puts and what the target then has.
use Rattle.std.proofs.Common.{◌≡◌, ℕ, true, List, Option, Some, None, ◌++◌, length, take, drop, set, slice_get, refl, sym, ap, subst, ◌∙◌}
use Rattle.std.specs.Prelude.{IfSome, MatchOption}
use Rattle.pk_copy.specs.KeyOrder.{key_cmp}
use Rattle.pk_copy.specs.KeyValue.{KeyValue}
use Rattle.target_tables.specs.declared.fault.TableFault.{TableFault}
use Rattle.target_tables.specs.declared.fault.TableFault.TheVariants as table
use Rattle.target_tables.specs.Contents.{value_at}
use Rattle.target_tables.specs.Rising.{IsRising}
use Rattle.target_tables.specs.Touches.{last_at, touched, owner_in_the_way, NoneInTheWay, IsTouched}
use Rattle.target_tables.specs.Clashes.{IsRefusal}
use Rattle.source_feed.specs.Prepared.{IsPrepared}
use Rattle.source_feed.specs.History.{RowValue}
use Rattle.board_laws.specs.declared.answer.Answer.{Answer}
use Rattle.board_laws.specs.declared.refusal.Refusal.{Refusal}
use Rattle.board_laws.specs.declared.refusal.Refusal.TheVariants.{NoStream}
use Rattle.board_laws.specs.Meaning.{State, TargetRows, Meaning}
use Rattle.board_laws.specs.Lawful.{IsLawful}
use Rattle.board_laws.specs.Event.{Event, OnOffer}
use Rattle.board_laws.specs.StateAfter.{state_after}
use Rattle.board_laws.specs.Touching.{touch_of}
use Rattle.board_laws.specs.Step.{takes_memory, IsMade, IsRefusedFor, IsRefusedOn}
use Rattle.board_laws.specs.Laws.{MayStep, TouchesAreSteps, ClashesAreOfTheCut}
use Rattle.apply_core.specs.Private.Changes.{refused_by}
use Rattle.apply_core.specs.Private.StreamStep.{MayMake, MakesStep, ArePutsOf}
use Rattle.apply_core.proofs.BoardLaws.{refilled}

module _ (streams : List State) (rows : TargetRows) (s : ℕ) (event : Event) (puts : List (KeyValue × Option RowValue))
    (lawful : IsLawful (record { streams = streams; rows = rows })) (prepared : OnOffer IsPrepared event) (are : ArePutsOf streams s event puts) where
  abbrev met : Meaning
  met = record { streams = streams; rows = rows }

  -- what the step does at a key, whatever the stream's state is called
  done_at : (state : State) → slice_get streams s ≡ Some state → (key : KeyValue) → last_at key_cmp puts key ≡ touch_of state event key
  done_at state stream = subst (λ (o : Option State). IfSome o (λ state. (key : KeyValue) → last_at key_cmp puts key ≡ touch_of state event key)) stream are.left

  may_step : (may : MayMake streams s event) → MayStep met s may.state event
  may_step may = record { lawful = lawful; stream = may.stream; allowed = may.allowed; prepared = prepared }

  -- the step is made where its puts are
  pub made-by_puts : TouchesAreSteps → (new : TargetRows) → NoneInTheWay key_cmp rows s (last_at key_cmp puts) → IsTouched key_cmp rows s (last_at key_cmp puts) new → IsRising key_cmp new
      → (answer : Answer) (after : List State) → MakesStep streams s event answer after → IsMade met s event answer (record { streams = after; rows = new })
  made-by_puts touches new clear values rising answer after h =
      subst (λ (xs : List State). IsMade met s event answer (record { streams = xs; rows = new })) (sym h.streams)
      (subst (λ (a : Answer). IsMade met s event a (record { streams = set streams s (state_after h.may.state event); rows = new })) (sym h.answered)
      (touches met s h.may.state event new (may_step h.may)
      (λ k. subst (λ (t : Option (Option RowValue)). owner_in_the_way s t (value_at key_cmp rows k) ≡ None) (done_at h.may.state h.may.stream k) (clear k))
      (λ k. subst (λ (t : Option (Option RowValue)). value_at key_cmp new k ≡ touched s t (value_at key_cmp rows k)) (done_at h.may.state h.may.stream k) (values k))
      rising))

  -- the step is refused where its puts are
  pub refused-by_puts : ClashesAreOfTheCut → ((state : State) → takes_memory state event ≡ true) → (fault : TableFault KeyValue) → IsRefusal key_cmp rows s (last_at key_cmp puts) fault → IsRefusedOn met s event (refused_by fault)
  refused-by_puts clashes takes fault h =
      subst (λ (o : Option State). MatchOption o (refused_by fault ≡ NoStream) (λ state. IsRefusedFor met s state event (refused_by fault))) (sym are.may.stream) (by fault h)
    where
      by : (fault : TableFault KeyValue) → IsRefusal key_cmp rows s (last_at key_cmp puts) fault → IsRefusedFor met s are.may.state event (refused_by fault)
      by table.Memory h = (are.may.allowed, takes are.may.state)
      by (table.OwnedByOther key owner) h =
          clashes met s are.may.state event key owner (may_step are.may) (record {
            here = subst (λ (t : Option (Option RowValue)). owner_in_the_way s t (value_at key_cmp rows key) ≡ Some owner) (done_at are.may.state are.may.stream key) h.here;
            none_less = λ k less. subst (λ (t : Option (Option RowValue)). owner_in_the_way s t (value_at key_cmp rows k) ≡ None) (done_at are.may.state are.may.stream k) (h.none_less k less);
          })

module _ (items : List State) (rows new : TargetRows) (s : ℕ) (event : Event) (puts : List (KeyValue × Option RowValue))
    (lawful : IsLawful (record { streams = items; rows = rows })) (prepared : OnOffer IsPrepared event) (lent : List State) (is : lent ≡ items) (are : ArePutsOf lent s event puts) where
  here_puts : ArePutsOf items s event puts
  here_puts = subst (λ (xs : List State). ArePutsOf xs s event puts) is are

  -- the step of lent streams whose puts are refused is the board's
  pub lent-refused : ClashesAreOfTheCut → ((state : State) → takes_memory state event ≡ true) → (fault : TableFault KeyValue) → IsRefusal key_cmp rows s (last_at key_cmp puts) fault
      → (refusal : Refusal) → refusal ≡ refused_by fault → new ≡ rows → (board : Meaning) → ◌≡◌ {A = Meaning} (record { streams = items; rows = rows }) board
      → IsRefusedOn board s event refusal × (◌≡◌ {A = Meaning} (record { streams = items; rows = new }) board)
  lent-refused clashes takes fault h refusal by unchanged board seen = (
    subst (λ (b : Meaning). IsRefusedOn b s event refusal) seen
        (subst (λ (r : Refusal). IsRefusedOn (record { streams = items; rows = rows }) s event r) (sym by)
        (refused-by_puts items rows s event puts lawful prepared here_puts clashes takes fault h)),
    ap (λ (there : TargetRows). record { streams = items; rows = there }) unchanged ∙ seen,
  )

  module _ (touches : TouchesAreSteps) (clear : NoneInTheWay key_cmp rows s (last_at key_cmp puts)) (values : IsTouched key_cmp rows s (last_at key_cmp puts) new) (rising : IsRising key_cmp new)
      (answer : Answer) (again after : List State) (same : again ≡ items) (step : MakesStep again s event answer after) (n : ℕ) (whole : length after ≡ n) where
    -- the step of lent streams whose puts are made is the board's
    pub lent-made : (board : Meaning) → ◌≡◌ {A = Meaning} (record { streams = items; rows = rows }) board
        → IsMade board s event answer (record { streams = take n (after ++ drop (length after) items); rows = new })
    lent-made board seen =
        subst (λ (xs : List State). IsMade board s event answer (record { streams = xs; rows = new })) (sym (refilled n items after whole))
        (subst (λ (b : Meaning). IsMade b s event answer (record { streams = after; rows = new })) seen
        (made-by_puts items rows s event puts lawful prepared here_puts touches new clear values rising answer after
        (subst (λ (xs : List State). MakesStep xs s event answer after) same step)))

    -- and leaves it lawful
    pub lent-made-lawful : IsLawful (record { streams = take n (after ++ drop (length after) items); rows = new })
    lent-made-lawful = (lent-made (record { streams = items; rows = rows }) refl).lawful

-- puts that were built before are those of the step on lent streams
pub puts_here : (lent items streams : List State) (s : ℕ) (event : Event) (puts : List (KeyValue × Option RowValue)) → lent ≡ items → items ≡ streams → MayMake lent s event
    → IfSome (slice_get streams s) (λ state. (key : KeyValue) → last_at key_cmp puts key ≡ touch_of state event key) → ArePutsOf lent s event puts
puts_here lent items streams s event puts one two may does = record {
  may = may;
  left = subst (λ (xs : List State). IfSome (slice_get xs s) (λ state. (key : KeyValue) → last_at key_cmp puts key ≡ touch_of state event key)) (sym (one ∙ two)) does;
}
