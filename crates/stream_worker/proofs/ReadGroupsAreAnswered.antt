-- An offered group whose number is read, as a step on the board.
use Rattle.std.proofs.Common.{◌≡◌, ℕ, ◌+◌, ◌-◌, ◌≤◌, ◌<◌, Bool, true, false, true≢false, cond, List, [], ◌∷◌, ◌++◌, length, set, Option, Some, None, Ok, Err, IsSomeAnd, MatchOption, slice_get, nat_le, inl, refl, sym, ap, ◌∙◌, subst, arith}
use Rattle.std.proofs.lemmas.Bool.{le-leb, le-ltb}
use Rattle.std.proofs.lemmas.List.{set-get_or}
use Rattle.std.proofs.lemmas.Option.{same_Some, slice_get_within, get_or_from_slice_get}
use Rattle.std.specs.Prelude.{IsOk, nat_lt}
use Rattle.std.specs.Option.{option_map}
use Rattle.stream_core.specs.declared.refusal.CoreRefusal.TheVariants.{Gap}
use Rattle.stream_core.specs.declared.step.Step.TheVariants.{Offer}
use Rattle.stream_core.specs.Rows.{first_standing}
use Rattle.stream_core.specs.Standing.{Standing}
use Rattle.stream_core.specs.StepTable.{row_of, decided}
use Rattle.source_feed.specs.Prepared.{IsPrepared}
use Rattle.source_feed.specs.Touches.{PreparedValue}
use Rattle.board_laws.specs.declared.answer.Answer.{Answer}
use Rattle.board_laws.specs.declared.answer.Answer.TheVariants.{Offered}
use Rattle.board_laws.specs.declared.answer.Offered.TheVariants.{Read, Repeat}
use Rattle.board_laws.specs.declared.refusal.Refusal.{Refusal}
use Rattle.board_laws.specs.declared.refusal.Refusal.TheVariants.{NoStream, WrongPlan, Diverged}
use Rattle.board_laws.specs.Meaning.{State, Meaning}
use Rattle.board_laws.specs.Lawful.{standing_of, IsLawful}
use Rattle.board_laws.specs.Event.{offer}
use Rattle.board_laws.specs.StateAfter.{answer_to, state_after}
use Rattle.board_laws.specs.Allowed.{IsAllowed}
use Rattle.board_laws.specs.Step.{IsMade, IsRefusedFor, IsStep}
use Rattle.board_laws.specs.Laws.{with_state, StillSteps}
use Rattle.stream_worker.specs.declared.found.Found.{Found}
use Rattle.stream_worker.specs.declared.found.Found.TheVariants.{Same, OtherPlan, OtherGroup}
use Rattle.stream_worker.specs.Knowing.{Laid, Knows, state_seen}
use Rattle.stream_worker.specs.Rule.{IsBoardTaken}
use Rattle.stream_worker.specs.Outlines.{Outlined, outline_of}
use Rattle.stream_worker.specs.Private.FoundGroups.{IsBeside, IsFound, answer_of}
use Rattle.stream_worker.specs.Seats.{IsBoardStep}
use Rattle.stream_worker.proofs.StepsOfOneStream.{of_step}
use Rattle.stream_worker.proofs.SeatsTakeAndPut.{own_as_seen}

-- ---- the step table

none-refuses : {A R : Type 0} (refusal : R) (answer : A) (b : Bool) → b ≡ false → IsOk (first_standing ((b, refusal) ∷ []) answer)
none-refuses refusal answer true e = absurd (true≢false e)
none-refuses refusal answer false e = refl

-- it doesn't refuse an offer of a number that is read
offer_decided : (standing : Standing) (n : ℕ) → n ≤ standing.read → IsOk (decided standing (Offer n))
offer_decided standing n within =
    none-refuses (Gap (standing.read + 1)) (row_of standing (Offer n)).otherwise (nat_lt (standing.read + 1) n) (le-ltb (standing.read + 1) n (omega (arith, within)))

-- ---- a board

set_back : {A : Type 0} (xs : List A) (s : ℕ) (x : A) → slice_get xs s ≡ Some x → set xs s x ≡ xs
set_back xs s x e = ap (set xs s) (sym (get_or_from_slice_get xs s x x e)) ∙ set-get_or xs s x

module _ (old : Meaning) (lawful : IsLawful old) (s : ℕ) (state : State) (here : slice_get old.streams s ≡ Some state) (group read : PreparedValue) (there : slice_get state.list (group.number - 1) ≡ Some read) where
  within : group.number ≤ length state.list
  within = let inside : group.number - 1 < length state.list = slice_get_within state.list (group.number - 1) read there in omega (arith, inside)

  planned : read.plan ≡ state.plan
  planned = (lawful.sound s state here).list.planned (group.number - 1) read there

  -- it is the one that was read: a repeat
  repeated : StillSteps → IsPrepared group → read ≡ group → IsStep old s (offer group) (Ok (Offered (Repeat group.number))) old
  repeated still prepared same =
      subst (λ (a : Answer). IsMade old s (offer group) a old) answers
      (subst (λ (b : Meaning). IsMade old s (offer group) (answer_to state (offer group)) b) stays
      (still old s state (offer group) (record { lawful = lawful; stream = here; allowed = allowed; prepared = prepared }) (λ key. refl)))
    where
      is_read : nat_le group.number (length state.list) ≡ true
      is_read = le-leb group.number (length state.list) within

      allowed : IsAllowed state (offer group)
      allowed = record {
        plan = sym (ap (λ (g : PreparedValue). g.plan) same) ∙ planned;
        place = inl (record { within = within; same = there ∙ ap (λ (g : PreparedValue). Some g) same });
        table = offer_decided (standing_of state) group.number within;
      }

      answers : answer_to state (offer group) ≡ Offered (Repeat group.number)
      answers = ap (λ b. Offered (cond b (Repeat group.number) (Read group.number))) is_read

      stays : with_state old s (state_after state (offer group)) old.rows ≡ old
      stays =
          ap (λ b. with_state old s (cond b state (record { plan = state.plan; list = state.list ++ group ∷ []; applied = state.applied; marks = state.marks; snapshot = state.snapshot })) old.rows) is_read
          ∙ ap (λ (xs : List State). record { streams = xs; rows = old.rows }) (set_back old.streams s state here)

  refused : (refusal : Refusal) → IsRefusedFor old s state (offer group) refusal → IsStep old s (offer group) (Err refusal) old
  refused refusal h = (subst (λ (o : Option State). MatchOption o (refusal ≡ NoStream) (λ state. IsRefusedFor old s state (offer group) refusal)) (sym here) h, refl)

  beside-step : StillSteps → IsPrepared group → (found : Found) → IsBeside read group found → IsStep old s (offer group) (answer_of group.number found) old
  beside-step still prepared Same h = repeated still prepared h
  beside-step still prepared OtherPlan h = refused WrongPlan (λ own. h (planned ∙ sym own))
  beside-step still prepared OtherGroup h = refused Diverged (sym h.0 ∙ planned, inl (within, λ e. h.1 (same_Some read group (sym there ∙ e))))

-- what was found of a group is what the board answers
pub found-step : StillSteps → (old : Meaning) (now : Laid) (given s : ℕ) (group : PreparedValue) (found : Found) → ◌≡◌ {A = Laid} (record { board = old.streams; given = given }) now → IsLawful old → IsPrepared group
    → IsSomeAnd (slice_get now.board s) (λ state. IsFound state.list group found) → IsBoardStep now s (offer group) (answer_of group.number found) now
found-step still old now given s group found is lawful prepared h =
    subst (λ (laid : Laid). IsBoardStep now s (offer group) (answer_of group.number found) laid) is
    (of_step old old now given s (offer group) (answer_of group.number found) is lawful
    (by (slice_get old.streams s) refl (subst (λ (laid : Laid). IsSomeAnd (slice_get laid.board s) (λ state. IsFound state.list group found)) (sym is) h)))
  where
    at : (state : State) → slice_get old.streams s ≡ Some state → (o : Option PreparedValue) → slice_get state.list (group.number - 1) ≡ o → IsSomeAnd o (λ read. IsBeside read group found)
        → IsStep old s (offer group) (answer_of group.number found) old
    at state here None e h = absurd h
    at state here (Some read) e h = beside-step old lawful s state here group read e still prepared found h

    by : (o : Option State) → slice_get old.streams s ≡ o → IsSomeAnd o (λ state. IsFound state.list group found) → IsStep old s (offer group) (answer_of group.number found) old
    by None e h = absurd h
    by (Some state) e h = at state e (slice_get state.list (group.number - 1)) refl h

-- ---- an outline

-- a group of the list, beside the one that is offered
pub found_in : (inside outline : Outlined) (n : ℕ) (group there read : PreparedValue) (found : Found) → inside ≡ outline → n ≡ group.number → slice_get inside.list (n - 1) ≡ Some there → read ≡ there → IsBeside read group found
    → IsFound outline.list group found
found_in inside outline n group there read found is number at same h =
    subst (λ (o : Outlined). IsFound o.list group found) is
    (subst (λ (m : ℕ). IsSomeAnd (slice_get inside.list (m - 1)) (λ read. IsBeside read group found)) number
    (subst (λ (o : Option PreparedValue). IsSomeAnd o (λ read. IsBeside read group found)) (sym at) (subst (λ (g : PreparedValue). IsBeside g group found) same h)))

-- ---- a seat

-- what a seat found of a group in its outline is so of its stream on the board that it took
pub found_taken : (before : Knows) (s : ℕ) (taken : Laid) (holding : Knows) (standing : Standing) (outline : Outlined) (group : PreparedValue) (found : Found) → before.streams ≡ s ∷ [] → IsBoardTaken before taken holding
    → option_map standing_of (state_seen before s) ≡ Some standing → option_map outline_of (state_seen before s) ≡ Some outline → IsFound outline.list group found
    → IsSomeAnd (slice_get taken.board s) (λ state. IsFound state.list group found)
found_taken before s taken holding standing outline group found own h numbers is fact = by (state_seen before s) refl is
  where
    by : (o : Option State) → state_seen before s ≡ o → option_map outline_of o ≡ Some outline → IsSomeAnd (slice_get taken.board s) (λ state. IsFound state.list group found)
    by None e none = cc
    by (Some state) e one =
        subst (λ (o : Option State). IsSomeAnd o (λ state. IsFound state.list group found)) (sym (own_as_seen before s taken standing own h.says numbers ∙ e))
        (subst (λ (o : Outlined). IsFound o.list group found) (sym (same_Some (outline_of state) outline one)) fact)
