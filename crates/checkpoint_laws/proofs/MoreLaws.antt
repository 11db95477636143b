-- What is kept of a board and feeds that go on from it under more tables make the board to which these are added.
use Rattle.std.proofs.Common.{◌≡◌, ℕ, zero, suc, ◌+◌, ◌<◌, ◌≤◌, inl, inr, List, [], ◌∷◌, length, map, take, Some, None, slice_get, refl, sym, ap, subst, ◌∙◌, arith}
use Rattle.std.proofs.lemmas.List.{length-map}
use Rattle.std.proofs.lemmas.Option.{same_Some, none-some, slice_get-map}
use Rattle.std.specs.Option.{option_map}
use Rattle.list_laws.proofs.Places.{place_of}
use Rattle.filter_rule.specs.PlanValue.{PlanValue}
use Rattle.source_feed.specs.GroupValue.{Position}
use Rattle.source_feed.specs.Planned.{PlannedGroupValue, FeedValue}
use Rattle.source_feed.specs.Positions.{IsNumberAt}
use Rattle.source_feed.specs.SoundGroups.{sound_groups}
use Rattle.source_feed.specs.Touches.{PreparedValue}
use Rattle.source_feed.proofs.PositionLaws.{one_number}
use Rattle.board_laws.specs.Event.{restart}
use Rattle.board_laws.specs.Lawful.{IsLawful}
use Rattle.board_laws.specs.Meaning.{State, TargetRows, Meaning}
use Rattle.board_laws.specs.Sources.{applied_position}
use Rattle.board_laws.specs.StateAfter.{state_after}
use Rattle.board_laws.specs.Allowed.{last_position}
use Rattle.board_laws.proofs.FeedGroups.{last_of}
use Rattle.board_laws.proofs.Lists.{take-take}
use Rattle.board_laws.proofs.Lookups.{Ties}
use Rattle.board_laws.specs.Extended.{marks_of_more, extended_state, extended_states, extended_board, MayExtend}
use Rattle.board_laws.specs.GoingOn.{GoesOn}
use Rattle.board_laws.proofs.AddedBoards.{IsOf, was, as_many, extended-lawful}
use Rattle.board_laws.proofs.AddedStates.{positions-stay}
use Rattle.checkpoint_laws.specs.Added.{under_plan, under_plans, ExtendedBoardsAreResumed, IsOfSameHistory, AreOfSameHistories}
use Rattle.checkpoint_laws.specs.Laws.{AreFeeds, restarted, BeginsWithApplied, BeginWithApplied}
use Rattle.checkpoint_laws.specs.Refused.{plans_of_feeds}
use Rattle.checkpoint_laws.specs.Resumed.{IsResumedAt, AreResumed, IsResumedBoard}
use Rattle.checkpoint_laws.specs.Saved.{SavedStream, own_rows, saved_stream, saved_from, saved_of}
use Rattle.checkpoint_laws.proofs.RestartedLaws.{saved_at, saved_long, restarted_boards}
use Rattle.checkpoint_laws.proofs.ResumedLaws.{at_same_place}

-- ---- what is kept of the board to which tables are added

-- what is kept of streams, under the plans of their feeds
kept_of_more : (k : ℕ) (feeds : List FeedValue) (states : List State) (rows : TargetRows) → length feeds ≡ length states
    → ((s : ℕ) (feed : FeedValue) (state : State) → slice_get feeds s ≡ Some feed → slice_get states s ≡ Some state → applied_position (extended_state feed state) ≡ applied_position state)
    → saved_from k (extended_states feeds states) rows ≡ under_plans (plans_of_feeds feeds) (saved_from k states rows)
kept_of_more k [] [] rows long same = refl
kept_of_more k [] (x ∷ states) rows long same = let clash : 0 ≡ suc (length states) = long in absurd (omega (arith, clash))
kept_of_more k (f ∷ feeds) [] rows long same = let clash : suc (length feeds) ≡ 0 = long in absurd (omega (arith, clash))
kept_of_more k (f ∷ feeds) (x ∷ states) rows long same =
    let rest : suc (length feeds) ≡ suc (length states) = long in
    let position : applied_position (extended_state f x) ≡ applied_position x = same 0 f x refl refl in
    let later : saved_from (k + 1) (extended_states feeds states) rows ≡ under_plans (plans_of_feeds feeds) (saved_from (k + 1) states rows)
    = kept_of_more (k + 1) feeds states rows (omega (arith, rest)) (λ s feed state p q. same (suc s) feed state p q) in
    let kept_at_position : Position → SavedStream = λ p. record { position = p; marks = marks_of_more (length f.plan.tables) x.marks; rows = own_rows k rows } in
    let one : saved_stream k (extended_state f x) rows ≡ under_plan f.plan (saved_stream k x rows) = ap kept_at_position position in
    λ i. one i ∷ later i

-- ---- a restart

abbrev again : State → State
again state = state_after state restart

same_again : (feeds : List FeedValue) (states : List State) → map again (extended_states feeds states) ≡ extended_states feeds states
same_again [] states = refl
same_again (f ∷ feeds) [] = refl
same_again (f ∷ feeds) (x ∷ states) =
    let with_list : List PreparedValue → State
    = λ list. record { plan = f.plan; list = list; applied = x.applied; marks = marks_of_more (length f.plan.tables) x.marks; snapshot = None } in
    let one : again (extended_state f x) ≡ extended_state f x = ap with_list (take-take x.applied (sound_groups f)) in
    let later : map again (extended_states feeds states) ≡ extended_states feeds states = same_again feeds states in
    λ i. one i ∷ later i

-- ---- the board

module _ (ties : Ties) (feeds : List FeedValue) (board : Meaning) (are : AreFeeds feeds) (lawful : IsLawful board) (may : MayExtend feeds board) where
  begins : BeginWithApplied feeds (extended_board feeds board)
  begins = record {
    count = may.count ∙ sym (as_many feeds board.streams may.count);
    each_stream = λ s feed state fed here.
        let of : IsOf feeds board.streams s state = was feeds board.streams s state here in
        subst (λ (f : FeedValue). BeginsWithApplied f state) (same_Some of.feed feed (sym of.fed ∙ fed))
        (subst (BeginsWithApplied of.feed) of.is (record { plan = refl; applied = take-take of.old.applied (sound_groups of.feed) }));
  }

  kept : saved_of (extended_board feeds board) ≡ under_plans (plans_of_feeds feeds) (saved_of board)
  kept =
      kept_of_more 0 feeds board.streams board.rows may.count
      (λ s feed state fed here. positions-stay feed state (lawful.sound s state here).standing.applied (may.goes_on s feed state fed here))

  restarted_same : restarted (extended_board feeds board) ≡ extended_board feeds board
  restarted_same = ap (λ (streams : List State). record { streams = streams; rows = board.rows }) (same_again feeds board.streams)

  made : IsResumedBoard feeds (saved_of (extended_board feeds board)) (restarted (extended_board feeds board))
      × ((other : Meaning) → IsResumedBoard feeds (saved_of (extended_board feeds board)) other → other ≡ restarted (extended_board feeds board))
  made = restarted_boards ties feeds (extended_board feeds board) are (extended-lawful ties feeds board lawful may) begins

  pub extended-resumed : IsResumedBoard feeds (under_plans (plans_of_feeds feeds) (saved_of board)) (extended_board feeds board)
  extended-resumed =
      subst (IsResumedBoard feeds (under_plans (plans_of_feeds feeds) (saved_of board))) restarted_same
      (subst (λ (saved : List SavedStream). IsResumedBoard feeds saved (restarted (extended_board feeds board))) kept made.0)

  pub no_other_extended : (other : Meaning) → IsResumedBoard feeds (under_plans (plans_of_feeds feeds) (saved_of board)) other → other ≡ extended_board feeds board
  no_other_extended other h = made.1 other (subst (λ (saved : List SavedStream). IsResumedBoard feeds saved other) (sym kept) h) ∙ restarted_same

pub extended_boards : Ties → ExtendedBoardsAreResumed
extended_boards ties feeds board are lawful may = (extended-resumed ties feeds board are lawful may, no_other_extended ties feeds board are lawful may)

-- ---- positions that are known

-- a feed of the same history has the position at which a stream stands
pub known_position : (feed : FeedValue) (state : State) → state.applied ≤ length state.list → IsOfSameHistory feed state → IsNumberAt feed (applied_position state) state.applied
known_position feed state within history = by state.applied within history.enough history.positions
  where
    by : (n : ℕ) → n ≤ length state.list → n ≤ length feed.groups
        → ((i : ℕ) (old : PreparedValue) (new : PlannedGroupValue) → i < n → slice_get state.list i ≡ Some old → slice_get feed.groups i ≡ Some new → new.position ≡ old.position)
        → IsNumberAt feed (last_position (take n state.list)) n
    by zero within enough same = inl (refl, refl)
    by (suc i) within enough same =
        let old : (group : PreparedValue) × (slice_get state.list i ≡ Some group) = place_of state.list i (omega (arith, within)) in
        let new : (group : PlannedGroupValue) × (slice_get feed.groups i ≡ Some group) = place_of feed.groups i (omega (arith, enough)) in
        inr (record { group = new.0; there = new.1; at = same i old.0 new.0 (omega arith) old.1 new.1 ∙ sym (last_of state.list i old.0 old.1) })

-- what is kept of a stream under its new plan stands at the stream's position
pub record StandsAt (board : Meaning) (s : ℕ) (one : SavedStream) : Type 0 where
  pub state : State
  pub here : slice_get board.streams s ≡ Some state
  pub at : one.position ≡ applied_position state

under_there : (plans : List PlanValue) (saved : List SavedStream) (s : ℕ) (one : SavedStream) → slice_get (under_plans plans saved) s ≡ Some one
    → (old : SavedStream) × (slice_get saved s ≡ Some old) × (one.position ≡ old.position)
under_there [] saved s one e = absurd (none-some one e)
under_there (x ∷ plans) [] s one e = absurd (none-some one e)
under_there (x ∷ plans) (y ∷ saved) zero one e = (y, refl, sym (ap (λ (z : SavedStream). z.position) (same_Some (under_plan x y) one e)))
under_there (x ∷ plans) (y ∷ saved) (suc s) one e = under_there plans saved s one e

pub stands_at : (plans : List PlanValue) (board : Meaning) (s : ℕ) (one : SavedStream) → slice_get (under_plans plans (saved_of board)) s ≡ Some one → StandsAt board s one
stands_at plans board s one e =
    let old : (old : SavedStream) × (slice_get (saved_of board) s ≡ Some old) × (one.position ≡ old.position) = under_there plans (saved_of board) s one e in
    let state : (state : State) × (slice_get board.streams s ≡ Some state) = at_same_place (saved_of board) board.streams s old.0 (saved_long 0 board.streams board.rows) old.1 in
    let is : saved_stream (0 + s) state.0 board.rows ≡ old.0 = same_Some (saved_stream (0 + s) state.0 board.rows) old.0 (sym (saved_at 0 board.streams board.rows s state.0 state.1) ∙ old.1) in
    record { state = state.0; here = state.1; at = old.2 ∙ sym (ap (λ (z : SavedStream). z.position) is) }

-- ---- feeds that make a board

module _ (feeds : List FeedValue) (board : Meaning) (are : AreFeeds feeds) (lawful : IsLawful board) (histories : AreOfSameHistories feeds board) where
  pub as_many_feeds : length feeds ≡ length board.streams
  as_many_feeds =
      sym (length-map feeds (λ (feed : FeedValue). feed.plan)) ∙ histories.extended.count ∙ length-map board.streams (λ (state : State). state.plan)

  pub known_at_stream : (s : ℕ) (feed : FeedValue) (one : SavedStream) → slice_get feeds s ≡ Some feed → (at : StandsAt board s one) → IsNumberAt feed one.position at.state.applied
  known_at_stream s feed one fed at =
      subst (λ p. IsNumberAt feed p at.state.applied) (sym at.at)
      (known_position feed at.state (lawful.sound s at.state at.here).standing.applied (histories.each_stream s feed at.state fed at.here))

  -- where the streams stand as a checkpoint says, the feeds go on from the board
  pub resumed_go_on : (states : List State) → AreResumed feeds (under_plans (plans_of_feeds feeds) (saved_of board)) states → MayExtend feeds board
  resumed_go_on states resumed = record {
    count = as_many_feeds;
    whole = are.whole;
    tables = are.tables;
    extends = λ s feed state fed here.
        histories.extended.each_plan s state.plan feed.plan
        (slice_get-map (λ (state : State). state.plan) board.streams s ∙ ap (option_map (λ (state : State). state.plan)) here)
        (slice_get-map (λ (feed : FeedValue). feed.plan) feeds s ∙ ap (option_map (λ (feed : FeedValue). feed.plan)) fed);
    goes_on = goes;
  }
    where
      goes : (s : ℕ) (feed : FeedValue) (state : State) → slice_get feeds s ≡ Some feed → slice_get board.streams s ≡ Some state → GoesOn feed state
      goes s feed state fed here =
          let one : (one : SavedStream) × (slice_get (under_plans (plans_of_feeds feeds) (saved_of board)) s ≡ Some one)
          = at_same_place feeds (under_plans (plans_of_feeds feeds) (saved_of board)) s feed (sym resumed.same_count) fed in
          let there : (x : State) × (slice_get states s ≡ Some x) = at_same_place feeds states s feed (sym resumed.count) fed in
          let at : IsResumedAt feed one.0 there.0 = resumed.each_stream s feed one.0 there.0 fed one.1 there.1 in
          let stands : StandsAt board s one.0 = stands_at (plans_of_feeds feeds) board s one.0 one.1 in
          let is : stands.state ≡ state = same_Some stands.state state (sym stands.here ∙ here) in
          let number : at.number ≡ stands.state.applied
          = one_number feed (are.whole s feed fed) one.0.position at.number stands.state.applied at.known (known_at_stream s feed one.0 fed stands) in
          let applied : stands.state.applied ≡ state.applied = ap (λ (x : State). x.applied) is in
          record { sound = omega (arith, at.sound, number, applied); same = (histories.each_stream s feed state fed here).same }
