-- Feeds that make a board of what a checkpoint says are refused for nothing, and a board that is saved comes back.
use Rattle.std.proofs.Common.{◌≡◌, ◌≢◌, ℕ, zero, suc, ◌+◌, ◌^◌, ◌<◌, ◌≤◌, List, [], ◌∷◌, length, take, Some, None, Result, Ok, Err, IfOk, IfErr, slice_get, refl, sym, ap, subst, ◌∙◌, arith}
use Rattle.std.proofs.lemmas.List.{length-map}
use Rattle.std.proofs.lemmas.Option.{same_Some, none-some, slice_get-map}
use Rattle.std.specs.List.{AllByRecursion}
use Rattle.std.specs.Option.{option_map}
use Rattle.board_laws.proofs.JoinedFeeds.{in_the_way}
use Rattle.list_laws.proofs.Places.{slice_get-take}
use Rattle.filter_rule.specs.PlanValue.{PlanValue}
use Rattle.filter_rule.specs.WellFormed.{IsPlan}
use Rattle.pk_copy.specs.KeyOrder.{key_cmp}
use Rattle.pk_copy.specs.KeyValue.{KeyValue}
use Rattle.target_tables.specs.Contents.{value_at}
use Rattle.source_feed.specs.History.{RowValue}
use Rattle.source_feed.specs.Planned.{FeedValue, IsFeed}
use Rattle.source_feed.specs.SoundGroups.{sound_groups}
use Rattle.source_feed.proofs.PositionLaws.{one_number}
use Rattle.board_laws.specs.Cut.{cut_of}
use Rattle.board_laws.specs.Meaning.{State, TargetRows, Meaning}
use Rattle.board_laws.proofs.Lookups.{Ties}
use Rattle.board_laws.specs.Compatible.{AreApart, plans_of_board}
use Rattle.board_laws.specs.Joined.{rows_from}
use Rattle.board_laws.specs.RefusedJoin.{IsFirstClash}
use Rattle.board_laws.proofs.JoinedRows.{value_from, IsRowOf, whose}
use Rattle.checkpoint_laws.specs.declared.fault.ResumeFault.{ResumeFault}
use Rattle.checkpoint_laws.specs.declared.fault.ResumeFault.TheVariants.{FeedCount, WrongPlan, CheckpointBad, PositionUnknown, Unsound, CheckpointDiffers, OwnedByOther, Memory}
use Rattle.checkpoint_laws.specs.Saved.{SavedStream, saved_of}
use Rattle.checkpoint_laws.specs.Said.{IsCheckpoint}
use Rattle.checkpoint_laws.specs.Resumed.{resumed_state, IsResumedAt, AreResumed, AgreesWith, AtEachPlace, IsResumedBoard}
use Rattle.checkpoint_laws.specs.Refused.{plans_of_feeds, IsRefusedSaved, IsRefusedCheckpoint}
use Rattle.checkpoint_laws.specs.Laws.{AreFeeds, restarted, SavedBoardsAreSaid, CheckpointsSayOneThing, RestartedBoardsAreResumed}
use Rattle.checkpoint_laws.proofs.ResumedLaws.{at_same_place}
use Rattle.checkpoint_laws.proofs.RestartedLaws.{same_at_places}
use Rattle.apply_core.specs.Feeds.{AreWholeFeeds, AreFed}
use Rattle.apply_core.specs.Private.Resuming.{AreOthers, HaveClash, IsUnfed}
use Rattle.apply_core.specs.Private.Together.{AreTogether}
use Rattle.apply_core.specs.Resuming.{IsResumed, IsRefusedResume, GivesBoard, IsSavedOf}
use Rattle.apply_core.proofs.ResumeLaws.{resumed_known}

-- ---- streams that are apart don't clash

not_apart : (ties : Ties) (states : List State) (key : KeyValue) (owner : ℕ) → IsFirstClash states key owner → AreApart states → ⊥
not_apart ties states key owner clash apart =
    let front : List State = take clash.stream states in
    let way : (cut_of clash.state key ≢ None) × ((other : ℕ × RowValue) × (value_at key_cmp (rows_from 0 front) key ≡ Some other) × (other.0 ≢ clash.stream))
    = in_the_way clash.stream (cut_of clash.state key) (value_at key_cmp (rows_from 0 front) key) owner clash.least.here in
    let of : IsRowOf 0 front key way.1.0 = whose 0 front key way.1.0 (sym (value_from ties 0 front key) ∙ way.1.1) in
    let place : of.place ≡ clash.stream
    = apart of.place clash.stream of.state clash.state key (slice_get-take clash.stream states of.place of.state of.here) clash.here (λ n. none-some way.1.0.1 (sym n ∙ of.cut)) way.0 in
    let number : way.1.0.0 ≡ 0 + of.place = of.number in
    way.1.2 (omega (arith, number, place))

-- ---- what makes a board isn't refused

module _ (ties : Ties) (feeds : List FeedValue) (whole : AreWholeFeeds feeds) (saved : List SavedStream) (board : Meaning) (made : IsResumedBoard feeds saved board) where
  -- the state of a stream stands where the checkpoint says, and no other does
  record Stands (feed : FeedValue) (one : SavedStream) : Type 0 where
    state : State
    at : IsResumedAt feed one state

  stands : (s : ℕ) (feed : FeedValue) (one : SavedStream) → slice_get feeds s ≡ Some feed → slice_get saved s ≡ Some one → Stands feed one
  stands s feed one here there =
      let state : (state : State) × (slice_get board.streams s ≡ Some state) = at_same_place feeds board.streams s feed (sym made.states.count) here in
      record { state = state.0; at = made.states.each_stream s feed one state.0 here there state.1 }

  same_state : (feed : FeedValue) (one : SavedStream) (x y : State) → IsFeed feed → IsResumedAt feed one x → IsResumedAt feed one y → x ≡ y
  same_state feed one x y is p q = p.state_is ∙ ap (resumed_state feed one.marks) (one_number feed is one.position p.number q.number p.known q.known) ∙ sym q.state_is

  same_states : (states : List State) → AreResumed feeds saved states → states ≡ board.streams
  same_states states are = same_at_places states board.streams (are.count ∙ sym made.states.count) (λ i x y p q.
      let feed : (feed : FeedValue) × (slice_get feeds i ≡ Some feed) = at_same_place states feeds i x are.count p in
      let one : (one : SavedStream) × (slice_get saved i ≡ Some one) = at_same_place feeds saved i feed.0 (sym are.same_count) feed.1 in
      same_state feed.0 one.0 x y (whole i feed.0 feed.1) (are.each_stream i feed.0 one.0 x feed.1 one.1 p) (made.states.each_stream i feed.0 one.0 y feed.1 one.1 q))

  pub not_refused : (fault : ResumeFault) → IsRefusedSaved feeds saved fault → fault ≡ Memory
  not_refused FeedCount h = absurd h
  not_refused WrongPlan h = absurd h
  not_refused CheckpointBad h = absurd h
  not_refused (PositionUnknown s) h = let at : Stands h.one h.other = stands s h.one h.other h.here h.there in absurd (h.fails (at.at.number, at.at.known))
  not_refused (Unsound fault) h =
      let at : Stands h.first.one h.first.other = stands h.stream h.first.one h.first.other h.first.here h.first.there in
      absurd (h.first.fails (λ number known.
      subst (λ n. n ≤ length (sound_groups h.first.one)) (one_number h.first.one (whole h.stream h.first.one h.first.here) h.first.other.position at.at.number number at.at.known known) at.at.sound))
  not_refused (CheckpointDiffers s key) h =
      let there : slice_get board.streams s ≡ Some h.first.other = ap (λ (xs : List State). slice_get xs s) (sym (same_states h.states h.resumed)) ∙ h.first.there in
      absurd (h.first.fails (made.agree s h.first.one h.first.other h.first.here there))
  not_refused (OwnedByOther key owner) h = absurd (not_apart ties board.streams key owner (subst (λ (xs : List State). IsFirstClash xs key owner) (same_states h.states h.resumed) h.clash) made.apart)
  not_refused Memory h = refl

-- ---- a board that is saved

module _ (plans : List PlanValue) (feeds : List FeedValue) (bytes : List ℕ) (board : Meaning) (of : IsSavedOf plans feeds bytes board) where
  -- the feeds are those of the plans
  plans_are : plans_of_feeds feeds ≡ plans
  plans_are =
      same_at_places (plans_of_feeds feeds) (plans_of_board board)
      (length-map feeds (λ (feed : FeedValue). feed.plan) ∙ of.begins.count ∙ sym (length-map board.streams (λ (state : State). state.plan))) (λ i x y p q.
      let feed : (feed : FeedValue) × (slice_get feeds i ≡ Some feed) = at_same_place (plans_of_feeds feeds) feeds i x (length-map feeds (λ (feed : FeedValue). feed.plan)) p in
      let state : (state : State) × (slice_get board.streams i ≡ Some state) = at_same_place (plans_of_board board) board.streams i y (length-map board.streams (λ (state : State). state.plan)) q in
      let planned : feed.0.plan ≡ x = same_Some feed.0.plan x (sym (slice_get-map (λ (feed : FeedValue). feed.plan) feeds i ∙ ap (option_map (λ (feed : FeedValue). feed.plan)) feed.1) ∙ p) in
      let kept : state.0.plan ≡ y = same_Some state.0.plan y (sym (slice_get-map (λ (state : State). state.plan) board.streams i ∙ ap (option_map (λ (state : State). state.plan)) state.1) ∙ q) in
      sym planned ∙ sym (of.begins.each_stream i feed.0 state.0 feed.1 state.1).plan ∙ kept)
      ∙ sym of.planned

  -- a plan of these is that of a stream
  record IsOfStream (s : ℕ) (plan : PlanValue) : Type 0 where
    state : State
    here : slice_get board.streams s ≡ Some state
    is : state.plan ≡ plan

  of_stream : (s : ℕ) (plan : PlanValue) → slice_get plans s ≡ Some plan → IsOfStream s plan
  of_stream s plan p =
      let q : slice_get (plans_of_board board) s ≡ Some plan = ap (λ (ps : List PlanValue). slice_get ps s) (sym of.planned) ∙ p in
      let state : (state : State) × (slice_get board.streams s ≡ Some state) = at_same_place (plans_of_board board) board.streams s plan (length-map board.streams (λ (state : State). state.plan)) q in
      record {
        state = state.0;
        here = state.1;
        is = same_Some state.0.plan plan (sym (slice_get-map (λ (state : State). state.plan) board.streams s ∙ ap (option_map (λ (state : State). state.plan)) state.1) ∙ q);
      }

  pub fed_of : AreFed plans feeds
  fed_of = record {
    tables = λ s t x y p q.
        let one : IsOfStream s x = of_stream s x p in
        let other : IsOfStream t y = of_stream t y q in
        ap (λ (plan : PlanValue). plan.tables) (sym one.is) ∙ of.lawful.tables s t one.state other.state one.here other.here ∙ ap (λ (plan : PlanValue). plan.tables) other.is;
    opened = plans_are;
  }

module _ (ties : Ties) (said : SavedBoardsAreSaid) (one_thing : CheckpointsSayOneThing) (again : RestartedBoardsAreResumed) (plans : List PlanValue) (well : AllByRecursion IsPlan plans) (feeds : List FeedValue) (bytes : List ℕ)
    (long : length bytes < 2 ^ 64) (board : Meaning) (of : IsSavedOf plans feeds bytes board) (are : AreFeeds feeds) where
  -- what the bytes say is what is kept of the board
  says : IsCheckpoint plans bytes (saved_of board)
  says =
      subst (λ (ps : List PlanValue). IsCheckpoint ps bytes (saved_of board)) (sym of.planned)
      (subst (λ (bs : List ℕ). IsCheckpoint (plans_of_board board) bs (saved_of board)) (sym of.written)
      (said of.version board of.lawful of.within (subst (λ (bs : List ℕ). length bs < 2 ^ 64) of.written long)))

  kept_is : (saved : List SavedStream) → IsCheckpoint (plans_of_feeds feeds) bytes saved → saved ≡ saved_of board
  kept_is saved check = one_thing plans bytes saved (saved_of board) well (subst (λ (ps : List PlanValue). IsCheckpoint ps bytes saved) (plans_are plans feeds bytes board of) check) says

  resumed : IsResumedBoard feeds (saved_of board) (restarted board)
  resumed = (again feeds board are of.lawful of.begins).0

  of_saved : (fault : ResumeFault) (saved : List SavedStream) → IsCheckpoint (plans_of_feeds feeds) bytes saved → IsRefusedSaved feeds saved fault → fault ≡ Memory
  of_saved fault saved check refused =
      not_refused ties feeds are.whole (saved_of board) (restarted board) resumed fault (subst (λ (kept : List SavedStream). IsRefusedSaved feeds kept fault) (kept_is saved check) refused)

  none_refused : (fault : ResumeFault) → IsRefusedCheckpoint feeds bytes fault → fault ≡ Memory
  none_refused CheckpointBad h = absurd (h (saved_of board) (subst (λ (ps : List PlanValue). IsCheckpoint ps bytes (saved_of board)) (sym (plans_are plans feeds bytes board of)) says))
  none_refused Memory h = refl
  none_refused FeedCount h = of_saved FeedCount h.0 h.1 h.2
  none_refused WrongPlan h = of_saved WrongPlan h.0 h.1 h.2
  none_refused (PositionUnknown s) h = of_saved (PositionUnknown s) h.0 h.1 h.2
  none_refused (Unsound fault) h = of_saved (Unsound fault) h.0 h.1 h.2
  none_refused (CheckpointDiffers s key) h = of_saved (CheckpointDiffers s key) h.0 h.1 h.2
  none_refused (OwnedByOther key owner) h = of_saved (OwnedByOther key owner) h.0 h.1 h.2

  pub comes_back : (result : Result Meaning ResumeFault) → IfOk result (IsResumed feeds bytes) → IfErr result (IsRefusedCheckpoint feeds bytes) → GivesBoard (restarted board) result
  comes_back (Ok other) h refused = (again feeds board are of.lawful of.begins).1 other (subst (λ (kept : List SavedStream). IsResumedBoard feeds kept other) (kept_is h.saved h.said) h.made)
  comes_back (Err fault) h refused = none_refused fault refused

-- ---- plans and feeds

pub are_feeds : (plans : List PlanValue) (feeds : List FeedValue) → 1 ≤ length plans → length plans ≤ 64 → AreFed plans feeds → AreWholeFeeds feeds → AreFeeds feeds
are_feeds plans feeds some few fed whole =
    let long : length feeds ≡ length plans = sym (length-map feeds (λ (feed : FeedValue). feed.plan)) ∙ ap length fed.opened in
    let plan_at : (s : ℕ) (feed : FeedValue) → slice_get feeds s ≡ Some feed → slice_get plans s ≡ Some feed.plan =
    λ s feed here. ap (λ (ps : List PlanValue). slice_get ps s) (sym fed.opened) ∙ slice_get-map (λ (feed : FeedValue). feed.plan) feeds s ∙ ap (option_map (λ (feed : FeedValue). feed.plan)) here in
    record {
      some = subst (λ n. 1 ≤ n) (sym long) some;
      few = subst (λ n. n ≤ 64) (sym long) few;
      whole = whole;
      tables = λ s t one other p q. fed.tables s t one.plan other.plan (plan_at s one p) (plan_at t other q);
    }

-- plans and feeds that aren't taken are refused, whatever the bytes
pub unfed_refused : (plans : List PlanValue) (feeds : List FeedValue) (bytes : List ℕ) (fault : ResumeFault) → IsUnfed plans feeds fault → IsRefusedResume plans feeds bytes fault
unfed_refused plans feeds bytes FeedCount h = h
unfed_refused plans feeds bytes WrongPlan h = h
unfed_refused plans feeds bytes CheckpointBad h = absurd h
unfed_refused plans feeds bytes (PositionUnknown s) h = absurd h
unfed_refused plans feeds bytes (Unsound fault) h = absurd h
unfed_refused plans feeds bytes (CheckpointDiffers s key) h = absurd h
unfed_refused plans feeds bytes (OwnedByOther key owner) h = absurd h
unfed_refused plans feeds bytes Memory h = absurd h

pub fed_taken : {P : Type 0} (plans : List PlanValue) (feeds : List FeedValue) (fault : ResumeFault) → AreFed plans feeds → IsUnfed plans feeds fault → P
fed_taken plans feeds FeedCount fed h = absurd (h (sym (length-map feeds (λ (feed : FeedValue). feed.plan)) ∙ ap length fed.opened))
fed_taken plans feeds WrongPlan fed h = absurd (h.1 fed)
fed_taken plans feeds CheckpointBad fed h = absurd h
fed_taken plans feeds (PositionUnknown s) fed h = absurd h
fed_taken plans feeds (Unsound fault) fed h = absurd h
fed_taken plans feeds (CheckpointDiffers s key) fed h = absurd h
fed_taken plans feeds (OwnedByOther key owner) fed h = absurd h
fed_taken plans feeds Memory fed h = absurd h

-- what is refused of a checkpoint is refused, with plans and feeds that are taken
pub fed_refused : (plans : List PlanValue) (feeds : List FeedValue) (bytes : List ℕ) (fault : ResumeFault) → AreFed plans feeds → IsRefusedCheckpoint feeds bytes fault → IsRefusedResume plans feeds bytes fault
fed_refused plans feeds bytes FeedCount fed h = absurd h.2
fed_refused plans feeds bytes WrongPlan fed h = absurd h.2
fed_refused plans feeds bytes CheckpointBad fed h = (fed, h)
fed_refused plans feeds bytes (PositionUnknown s) fed h = (fed, h)
fed_refused plans feeds bytes (Unsound fault) fed h = (fed, h)
fed_refused plans feeds bytes (CheckpointDiffers s key) fed h = (fed, h)
fed_refused plans feeds bytes (OwnedByOther key owner) fed h = (fed, h)
fed_refused plans feeds bytes Memory fed h = (fed, h)

pub all_refused : {A : Type 0} (plans : List PlanValue) (feeds : List FeedValue) (bytes : List ℕ) (result : Result A ResumeFault) → AreFed plans feeds → IfErr result (IsRefusedCheckpoint feeds bytes)
    → IfErr result (IsRefusedResume plans feeds bytes)
all_refused plans feeds bytes (Ok x) fed h = h
all_refused plans feeds bytes (Err fault) fed h = fed_refused plans feeds bytes fault fed h

-- what a checkpoint says is refused, so it is
pub saved_refused : (feeds : List FeedValue) (bytes : List ℕ) (saved : List SavedStream) (fault : ResumeFault) → IsCheckpoint (plans_of_feeds feeds) bytes saved → IsRefusedSaved feeds saved fault → IsRefusedCheckpoint feeds bytes fault
saved_refused feeds bytes saved FeedCount said h = absurd h
saved_refused feeds bytes saved WrongPlan said h = absurd h
saved_refused feeds bytes saved CheckpointBad said h = absurd h
saved_refused feeds bytes saved (PositionUnknown s) said h = (saved, said, h)
saved_refused feeds bytes saved (Unsound fault) said h = (saved, said, h)
saved_refused feeds bytes saved (CheckpointDiffers s key) said h = (saved, said, h)
saved_refused feeds bytes saved (OwnedByOther key owner) said h = (saved, said, h)
saved_refused feeds bytes saved Memory said h = tt

-- one value more has a fact
pub all_more : {A : Type 0} (P : A → Type 0) (xs : List A) (n : ℕ) (x : A) → slice_get xs n ≡ Some x → P x → AllByRecursion P (take n xs) → AllByRecursion P (take (n + 1) xs)
all_more {A} P xs n x here fact before = let number : suc n ≡ n + 1 = omega arith in subst (λ m. AllByRecursion P (take m xs)) number (by xs n here before)
  where
    by : (ys : List A) (m : ℕ) → slice_get ys m ≡ Some x → AllByRecursion P (take m ys) → AllByRecursion P (take (suc m) ys)
    by [] m e h = absurd (none-some x e)
    by (y ∷ ys) zero e h = (subst P (sym (same_Some y x e)) fact, tt)
    by (y ∷ ys) (suc m) e h = (h.0, by ys m e h.1)

-- ---- the board of streams and rows

pub made_board : (feeds : List FeedValue) (saved : List SavedStream) (streams : List State) (rows : TargetRows) → AreResumed feeds saved streams → AtEachPlace AgreesWith saved streams → AreTogether streams rows
    → IsResumedBoard feeds saved (record { streams = streams; rows = rows })
made_board feeds saved streams rows are agree together =
    let with_these : TargetRows → Meaning = λ rs. record { streams = streams; rows = rs } in
    record { states = are; agree = agree; apart = together.apart; is = ap with_these together.target }

pub others_refused : (feeds : List FeedValue) (saved : List SavedStream) (states : List State) (fault : ResumeFault) → AreResumed feeds saved states → AreOthers saved states fault → IsRefusedSaved feeds saved fault
others_refused feeds saved states (CheckpointDiffers s key) are h = record { states = states; resumed = are; first = h.0; least = h.1 }
others_refused feeds saved states Memory are h = resumed_known feeds saved states are
others_refused feeds saved states FeedCount are h = h
others_refused feeds saved states WrongPlan are h = h
others_refused feeds saved states CheckpointBad are h = h
others_refused feeds saved states (PositionUnknown s) are h = absurd h
others_refused feeds saved states (Unsound fault) are h = absurd h
others_refused feeds saved states (OwnedByOther key owner) are h = absurd h

pub clash_refused : (feeds : List FeedValue) (saved : List SavedStream) (states : List State) (fault : ResumeFault) → AreResumed feeds saved states → AtEachPlace AgreesWith saved states → HaveClash states fault
    → IsRefusedSaved feeds saved fault
clash_refused feeds saved states (OwnedByOther key owner) are agree h = record { states = states; resumed = are; agree = agree; clash = h }
clash_refused feeds saved states Memory are agree h = resumed_known feeds saved states are
clash_refused feeds saved states FeedCount are agree h = h
clash_refused feeds saved states WrongPlan are agree h = h
clash_refused feeds saved states CheckpointBad are agree h = h
clash_refused feeds saved states (PositionUnknown s) are agree h = absurd h
clash_refused feeds saved states (Unsound fault) are agree h = absurd h
clash_refused feeds saved states (CheckpointDiffers s key) are agree h = absurd h
