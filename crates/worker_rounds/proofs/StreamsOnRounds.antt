-- What is so of one stream of a board on its round.
use Rattle.std.proofs.Common.{◌≡◌, inl, ℕ, suc, ◌+◌, ◌^◌, ◌<◌, ◌≤◌, Bool, true, false, List, [], ◌∷◌, ◌++◌, length, map, take, get_or, Option, Some, None, Ok, Err, slice_get, refl, sym, ap, subst, ◌∙◌, arith}
use Rattle.std.proofs.lemmas.Bool.{true≢false}
use Rattle.std.proofs.lemmas.List.{length-map, map-append, take_more}
use Rattle.std.proofs.lemmas.Option.{same_Some, none-some, slice_get-map, slice_get_read, slice_get_within, get_or_from_slice_get}
use Rattle.std.specs.Prelude.{IfSome, IsSomeAnd, is_some, not}
use Rattle.std.specs.Option.{option_map}
use Rattle.list_laws.proofs.Places.{place_of, slice_get-set_same}
use Rattle.pk_copy.specs.Marks.{Marks}
use Rattle.stream_core.specs.declared.step.Step.{Step}
use Rattle.stream_core.specs.declared.step.Step.TheVariants.{Offer, Advance}
use Rattle.stream_core.specs.Standing.{Standing}
use Rattle.source_feed.specs.Planned.{FeedValue}
use Rattle.board_laws.specs.declared.step_refusal.StepRefusal.{StepRefusal}
use Rattle.board_laws.specs.FedBoards.{Fed, IsFedBoard}
use Rattle.board_laws.specs.Lawful.{standing_of, IsLawful}
use Rattle.board_laws.specs.Laws.{ReadListsAreShort}
use Rattle.board_laws.specs.Meaning.{State, Meaning}
use Rattle.board_laws.proofs.FedBoards.{run-fed}
use Rattle.change_laws.specs.Since.{HasGoneOn, HaveGoneOn}
use Rattle.change_laws.proofs.GoingOn.{moved-goes_on}
use Rattle.worker_rounds.specs.Rounds.{OfStream, HasAppliedAll}
use Rattle.worker_rounds.specs.Private.OnRound.{Gone, IsOnRound, Runs, IsStopAt, IsStoppedIn, MayApply, IsStepOn, AppliesNone, AppliesOne, IsThrough, MayTakeIn}
use Rattle.worker_rounds.proofs.StepsOnRounds.{offer-applies_none, advance-applies_one}

-- ---- a list that is read at a place

pub read-at : {A : Type 0} (xs ys : List A) (s : ℕ) (x : A) → ys ≡ xs → s < length ys → x ≡ get_or ys s x → slice_get xs s ≡ Some x
read-at {A} xs ys s x same less is = ap (λ (zs : List A). slice_get zs s) (sym same) ∙ slice_get_read ys (length ys) s x refl less is

-- what it says of a stop
pub running-by : (stopped : List (Option StepRefusal)) (s : ℕ) (stop : Option StepRefusal) (runs : Bool) → slice_get stopped s ≡ Some stop → is_some stop ≡ not runs → runs ≡ true → slice_get stopped s ≡ Some None
running-by stopped s None runs at tells holds = at
running-by stopped s (Some refusal) runs at tells holds = absurd (true≢false (tells ∙ ap not holds))

pub stopped-by : (stopped : List (Option StepRefusal)) (s : ℕ) (stop : Option StepRefusal) (runs : Bool) → slice_get stopped s ≡ Some stop → is_some stop ≡ not runs → runs ≡ false → IsStopAt stopped s
stopped-by stopped s None runs at tells fails = absurd (true≢false (sym (tells ∙ ap not fails)))
stopped-by stopped s (Some refusal) runs at tells fails = (refusal, at)

-- ---- how many groups are applied

-- of one stream more
pub applied-more : (streams : List State) (s : ℕ) (at : Standing) (counts longer : List ℕ) → IsSomeAnd (slice_get streams s) (λ state. at ≡ standing_of state) → longer ≡ counts ++ at.applied ∷ []
    → counts ≡ map (λ (state : State). state.applied) (take s streams) → longer ≡ map (λ (state : State). state.applied) (take (s + 1) streams)
applied-more streams s at counts longer here is so_far = by (slice_get streams s) refl here
  where
    by : (o : Option State) → slice_get streams s ≡ o → IsSomeAnd o (λ state. at ≡ standing_of state) → longer ≡ map (λ (state : State). state.applied) (take (s + 1) streams)
    by None e h = absurd h
    by (Some state) e h =
        let more : take (s + 1) streams ≡ take s streams ++ state ∷ []
        = take_more streams s state (slice_get_within streams s state e) ∙ ap (λ (x : State). take s streams ++ x ∷ []) (get_or_from_slice_get streams s state state e) in
        is
        ∙ ap (λ (xs : List ℕ). xs ++ at.applied ∷ []) so_far
        ∙ ap (λ (n : ℕ). map (λ (x : State). x.applied) (take s streams) ++ n ∷ []) (ap (λ (x : Standing). x.applied) h)
        ∙ sym (map-append (λ (x : State). x.applied) (take s streams) (state ∷ []))
        ∙ ap (map (λ (x : State). x.applied)) (sym more)

-- ---- behind a step

pub step-stops : (feeds : List FeedValue) (s : ℕ) (step : Step) (old new : Gone) → Runs old s → IsStepOn feeds s step false old new → IsStoppedIn new s
step-stops feeds s step old new runs h =
    (h.0, ap (λ (xs : List (Option StepRefusal)). slice_get xs s) h.2 ∙ slice_get-set_same old.stopped s (Some h.0) None runs)

pub step-runs : (feeds : List FeedValue) (s : ℕ) (step : Step) (old new : Gone) → Runs old s → IsStepOn feeds s step true old new → Runs new s
step-runs feeds s step old new runs h = ap (λ (xs : List (Option StepRefusal)). slice_get xs s) h.1 ∙ runs

-- where a step was made a stream that ran still does, and where it wasn't it is stopped
pub runs-on : (feeds : List FeedValue) (s : ℕ) (step : Step) (made : Bool) (old new : Gone) → Runs old s → IsStepOn feeds s step made old new → made ≡ true → Runs new s
runs-on feeds s step true old new runs h e = step-runs feeds s step old new runs h
runs-on feeds s step false old new runs h e = absurd (true≢false (sym e))

pub stops-on : (feeds : List FeedValue) (s : ℕ) (step : Step) (made : Bool) (old new : Gone) → Runs old s → IsStepOn feeds s step made old new → made ≡ false → IsStoppedIn new s
stops-on feeds s step true old new runs h e = absurd (true≢false e)
stops-on feeds s step false old new runs h e = step-stops feeds s step old new runs h

pub offer-none : (feeds : List FeedValue) (s n : ℕ) (made : Bool) (old new : Gone) → IsStepOn feeds s (Offer n) made old new → AppliesNone s old.board new.board
offer-none feeds s n true old new h = λ before after stood stands. offer-applies_none feeds old.board new.board s n (Ok h.0.0) h.0.1 s before after stood stands
offer-none feeds s n false old new h = λ before after stood stands. offer-applies_none feeds old.board new.board s n (Err h.0) h.1 s before after stood stands

pub advance-one : (feeds : List FeedValue) (s : ℕ) (old new : Gone) → IsStepOn feeds s Advance true old new → AppliesOne s old.board new.board
advance-one feeds s old new h = advance-applies_one feeds old.board new.board s h.0.0 h.0.1

pub none-here : (s : ℕ) (board : Meaning) → AppliesNone s board board
none-here s board before after stood stands = ap (λ (x : State). x.applied) (same_Some after before (sym stands ∙ stood))

-- ---- on a round

module _ (fed : Fed) (most : ℕ) (gone : Gone) (on : IsOnRound fed most gone) where
  pub gone-on : HaveGoneOn fed.board gone.board
  gone-on = moved-goes_on fed.feeds fed.board gone.board on.begun.lawful on.moved

  pub streams-count : length gone.board.streams ≡ length fed.feeds
  streams-count = gone-on.count ∙ on.begun.count

  pub first-count : length gone.first ≡ length fed.feeds
  first-count = ap (λ (xs : List ℕ). length xs) on.first ∙ length-map fed.board.streams (λ (state : State). state.applied) ∙ on.begun.count

  pub fed-now : IsFedBoard fed.feeds gone.board
  fed-now = run-fed fed.feeds fed.board gone.board on.moved.steps on.moved.replies on.moved.run on.begun

  -- how many groups a stream had applied at first
  pub first-value : (s value : ℕ) → slice_get gone.first s ≡ Some value → (before : State) → slice_get fed.board.streams s ≡ Some before → value ≡ before.applied
  first-value s value first before stood =
      same_Some value before.applied
      (sym first
      ∙ ap (λ (xs : List ℕ). slice_get xs s) on.first
      ∙ slice_get-map (λ (state : State). state.applied) fed.board.streams s
      ∙ ap (option_map (λ (state : State). state.applied)) stood)

  pub may-yes : (s value : ℕ) (at : Standing) → slice_get gone.first s ≡ Some value → IsSomeAnd (slice_get gone.board.streams s) (λ state. at ≡ standing_of state) → at.applied < value + most → MayApply most fed.board gone.board s
  may-yes s value at first stands less before now stood there =
      let is : at ≡ standing_of now = subst (λ (o : Option State). IsSomeAnd o (λ state. at ≡ standing_of state)) there stands in
      let applied : at.applied ≡ now.applied = ap (λ (x : Standing). x.applied) is in
      let value_is : value ≡ before.applied = first-value s value first before stood in
      omega (arith, less, applied, value_is)

  pub may-no : (s value : ℕ) (at : Standing) → slice_get gone.first s ≡ Some value → IsSomeAnd (slice_get gone.board.streams s) (λ state. at ≡ standing_of state) → value + most ≤ at.applied
      → OfStream (λ feed before after. after.applied ≡ before.applied + most) fed.feeds fed.board gone.board s
  may-no s value at first stands more feed before now here stood there =
      let is : at ≡ standing_of now = subst (λ (o : Option State). IsSomeAnd o (λ state. at ≡ standing_of state)) there stands in
      let applied : at.applied ≡ now.applied = ap (λ (x : Standing). x.applied) is in
      let value_is : value ≡ before.applied = first-value s value first before stood in
      let upto : now.applied ≤ before.applied + most = on.upto s before now stood there in
      omega (arith, more, applied, value_is, upto)

  pub all-of : (s : ℕ) (feed : FeedValue) → slice_get fed.feeds s ≡ Some feed → IfSome (slice_get gone.board.streams s) (HasAppliedAll feed) → OfStream (λ feed before after. HasAppliedAll feed after) fed.feeds fed.board gone.board s
  all-of s feed at all other before after here stood there =
      subst (λ (f : FeedValue). HasAppliedAll f after) (same_Some feed other (sym at ∙ here)) (subst (λ (o : Option State). IfSome o (HasAppliedAll feed)) there all)

  -- what is so of the state that stands
  pub state-of : (s : ℕ) → s < length fed.feeds → (state : State) × (slice_get gone.board.streams s ≡ Some state)
  state-of s less = place_of gone.board.streams s (let count = streams-count in omega (arith, less, count))

  -- a stream that has a feed is there
  pub not-none : (s : ℕ) → s < length fed.feeds → slice_get gone.board.streams s ≡ None → ⊥
  not-none s less none = let one : (state : State) × (slice_get gone.board.streams s ≡ Some state) = state-of s less in none-some one.0 (sym none ∙ one.1)

  -- its marks are those that it had at first
  pub marks-begun : (s : ℕ) (marks : Marks) → s < length fed.feeds → IsSomeAnd (slice_get gone.board.streams s) (λ state. marks ≡ state.marks)
      → option_map (λ (state : State). state.marks) (slice_get fed.board.streams s) ≡ Some marks
  marks-begun s marks less stands =
      let now : (state : State) × (slice_get gone.board.streams s ≡ Some state) = state-of s less in
      let before : (state : State) × (slice_get fed.board.streams s ≡ Some state) = place_of fed.board.streams s (let count = on.begun.count in omega (arith, less, count)) in
      let one : HasGoneOn before.0 now.0 = gone-on.each s before.0 now.0 before.1 now.1 in
      let is : marks ≡ now.0.marks = subst (λ (o : Option State). IsSomeAnd o (λ state. marks ≡ state.marks)) now.1 stands in
      ap (option_map (λ (state : State). state.marks)) before.1 ∙ ap (λ (m : Marks). Some m) (sym (is ∙ one.marks))

  -- as many groups as are read are few
  pub read-short : ReadListsAreShort → (s : ℕ) (at : Standing) → IsLawful gone.board → s < length fed.feeds → IsSomeAnd (slice_get gone.board.streams s) (λ state. at ≡ standing_of state) → at.read < 2 ^ 31
  read-short short s at lawful less stands =
      let one : (state : State) × (slice_get gone.board.streams s ≡ Some state) = state-of s less in
      let is : at ≡ standing_of one.0 = subst (λ (o : Option State). IsSomeAnd o (λ state. at ≡ standing_of state)) one.1 stands in
      subst (λ (n : ℕ). n < 2 ^ 31) (sym (ap (λ (x : Standing). x.read) is)) (short one.0.plan one.0.list (lawful.sound s one.0 one.1).list)

-- a number of where the stream stands
pub number-of : (board : Meaning) (s : ℕ) (at : Standing) (number : Standing → ℕ) (P : State → ℕ) → ((state : State) → number (standing_of state) ≡ P state)
    → IsSomeAnd (slice_get board.streams s) (λ state. at ≡ standing_of state) → IfSome (slice_get board.streams s) (λ state. number at ≡ P state)
number-of board s at number P same stands = by (slice_get board.streams s) stands
  where
    by : (o : Option State) → IsSomeAnd o (λ state. at ≡ standing_of state) → IfSome o (λ state. number at ≡ P state)
    by None h = tt
    by (Some state) h = ap number h ∙ same state

-- as the board is seen
pub number-seen : (inside seen : Gone) (s n : ℕ) (at : Standing) (number : Standing → ℕ) (P : State → ℕ) → inside ≡ seen → ((state : State) → number (standing_of state) ≡ P state) → n ≡ number at
    → IsSomeAnd (slice_get inside.board.streams s) (λ state. at ≡ standing_of state) → IfSome (slice_get seen.board.streams s) (λ state. n ≡ P state)
number-seen inside seen s n at number P view same is stands =
    subst (λ (x : Gone). IfSome (slice_get x.board.streams s) (λ state. n ≡ P state)) view
    (subst (λ (m : ℕ). IfSome (slice_get inside.board.streams s) (λ state. m ≡ P state)) (sym is) (number-of inside.board s at number P same stands))

-- ---- from one step to the next

module _ (fed : Fed) (most : ℕ) (old new : Gone) (on : IsOnRound fed most old) (still : IsOnRound fed most new) (s : ℕ) where
  between : (after : State) → slice_get new.board.streams s ≡ Some after → (before : State) × (slice_get old.board.streams s ≡ Some before)
  between after there =
      let a = streams-count fed most old on in
      let b = streams-count fed most new still in
      let less = slice_get_within new.board.streams s after there in
      place_of old.board.streams s (omega (arith, a, b, less))

  pub may-still : AppliesNone s old.board new.board → MayApply most fed.board old.board s → MayApply most fed.board new.board s
  may-still none may before now stood there =
      let one : (x : State) × (slice_get old.board.streams s ≡ Some x) = between now there in
      let same : now.applied ≡ one.0.applied = none one.0 now one.1 there in
      let less : one.0.applied < before.applied + most = may before one.0 stood one.1 in
      omega (arith, same, less)

pub none-then-one : (fed : Fed) (most : ℕ) (old between new : Gone) → IsOnRound fed most old → IsOnRound fed most between → IsOnRound fed most new → (s : ℕ) → AppliesNone s old.board between.board → AppliesOne s between.board new.board
    → AppliesOne s old.board new.board
none-then-one fed most old middle new on still again s none one before after stood there =
    let x : (x : State) × (slice_get middle.board.streams s ≡ Some x) = between fed most middle new still again s after there in
    let same : x.0.applied ≡ before.applied = none before x.0 stood x.1 in
    let more : after.applied ≡ suc x.0.applied = one x.0 after x.1 there in
    omega (arith, same, more)

-- a stream whose next group was read, and then was applied or wasn't
module _ (fed : Fed) (most : ℕ) (old middle new : Gone) (on : IsOnRound fed most old) (still : IsOnRound fed most middle) (again : IsOnRound fed most new) (s : ℕ) (none : AppliesNone s old.board middle.board) (runs : Runs middle s) where
  pub went-on : (made : Bool) → IsStepOn fed.feeds s Advance made middle new → made ≡ true → AppliesOne s old.board new.board
  went-on true h e = none-then-one fed most old middle new on still again s none (advance-one fed.feeds s middle new h)
  went-on false h e = absurd (true≢false (sym e))

  pub through-on : (made : Bool) → IsStepOn fed.feeds s Advance made middle new → made ≡ false → IsThrough fed most new s
  through-on made h e = inl (stops-on fed.feeds s Advance made middle new runs h e)

-- ---- the next group

pub may-take : (fed : Fed) (most : ℕ) (gone : Gone) → IsOnRound fed most gone → (s read applied : ℕ) → s < length fed.feeds
    → IfSome (slice_get gone.board.streams s) (λ state. read ≡ length state.list) → IfSome (slice_get gone.board.streams s) (λ state. applied ≡ state.applied)
    → applied ≡ read → Runs gone s → MayApply most fed.board gone.board s → MayTakeIn fed most gone s (read + 1)
may-take fed most gone on s read applied less reads applies same runs room =
    let one : (state : State) × (slice_get gone.board.streams s ≡ Some state) = state-of fed most gone on s less in
    let read_is : read ≡ length one.0.list = subst (λ (o : Option State). IfSome o (λ state. read ≡ length state.list)) one.1 reads in
    let applied_is : applied ≡ one.0.applied = subst (λ (o : Option State). IfSome o (λ state. applied ≡ state.applied)) one.1 applies in
    record {
      runs = runs;
      state = one.0;
      there = one.1;
      applied = omega (arith, read_is, applied_is, same);
      number = omega (arith, read_is);
      room = room;
    }
