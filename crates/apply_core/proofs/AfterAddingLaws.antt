-- A board that is saved comes back under plans with more tables, with these added.
use Rattle.std.proofs.Common.{◌≡◌, ◌⊎◌, ℕ, ◌^◌, ◌<◌, ◌≤◌, inl, inr, le_refl, List, [], ◌∷◌, length, map, Some, Result, Ok, Err, IfOk, IfErr, slice_get, refl, sym, ap, subst, ◌∙◌, arith}
use Rattle.std.proofs.lemmas.Bool.{cases_lt}
use Rattle.std.specs.List.{AllByRecursion}
use Rattle.filter_rule.specs.PlanValue.{PlanValue}
use Rattle.filter_rule.specs.WellFormed.{IsPlan}
use Rattle.source_feed.specs.declared.fault.FeedFault.{FeedFault}
use Rattle.source_feed.specs.Planned.{FeedValue}
use Rattle.source_feed.specs.SoundGroups.{sound_groups}
use Rattle.source_feed.proofs.PositionLaws.{one_number}
use Rattle.board_laws.specs.Event.{restart}
use Rattle.board_laws.specs.Meaning.{State, Meaning}
use Rattle.board_laws.specs.StateAfter.{state_after}
use Rattle.board_laws.proofs.Lookups.{Ties}
use Rattle.board_laws.specs.Extended.{extended_state, extended_states, extended_board, MayExtend}
use Rattle.board_laws.specs.GoingOn.{MeetsUnsound, GoOnBefore, StopsAt}
use Rattle.checkpoint_laws.specs.declared.fault.ResumeFault.{ResumeFault}
use Rattle.checkpoint_laws.specs.declared.fault.ResumeFault.TheVariants.{FeedCount, WrongPlan, CheckpointBad, PositionUnknown, Unsound, CheckpointDiffers, OwnedByOther, Memory}
use Rattle.checkpoint_laws.specs.Added.{under_plans, SavedBoardsAreSaidOfMore, ExtendedBoardsAreResumed, IsOfSameHistory}
use Rattle.checkpoint_laws.specs.Laws.{AreFeeds, restarted, CheckpointsSayOneThing}
use Rattle.checkpoint_laws.specs.Refused.{plans_of_feeds, AreUnsound, IsRefusedSaved, IsRefusedCheckpoint}
use Rattle.checkpoint_laws.specs.Resumed.{IsResumedBoard}
use Rattle.checkpoint_laws.specs.Said.{IsCheckpoint}
use Rattle.checkpoint_laws.specs.Saved.{SavedStream, saved_of}
use Rattle.checkpoint_laws.proofs.MoreLaws.{StandsAt, stands_at, as_many_feeds, known_at_stream, resumed_go_on}
use Rattle.checkpoint_laws.proofs.RestartedLaws.{saved_long}
use Rattle.checkpoint_laws.proofs.ResumedLaws.{at_same_place}
use Rattle.checkpoint_laws.proofs.SaidLaws.{under_long}
use Rattle.std.proofs.lemmas.List.{length-map}
use Rattle.std.proofs.lemmas.Option.{same_Some}
use Rattle.apply_core.specs.Resuming.{IsResumed, IsSavedBefore, IsRefusedOfMore, GivesMore}
use Rattle.apply_core.proofs.AfterSaveLaws.{not_refused}

-- a restart doesn't matter to the streams to which tables are added
after_restarts : (feeds : List FeedValue) (states : List State) → extended_states feeds (map (λ (state : State). state_after state restart) states) ≡ extended_states feeds states
after_restarts [] states = refl
after_restarts (f ∷ feeds) [] = refl
after_restarts (f ∷ feeds) (x ∷ states) = ap (λ (xs : List State). extended_state f x ∷ xs) (after_restarts feeds states)

after_restarts_board : (feeds : List FeedValue) (board : Meaning) → extended_board feeds board ≡ extended_board feeds (restarted board)
after_restarts_board feeds board = ap (λ (streams : List State). record { streams = streams; rows = board.rows }) (sym (after_restarts feeds board.streams))

module _ (ties : Ties) (said : SavedBoardsAreSaidOfMore) (one_thing : CheckpointsSayOneThing) (extended : ExtendedBoardsAreResumed) (plans : List PlanValue) (well : AllByRecursion IsPlan plans) (feeds : List FeedValue) (bytes : List ℕ)
    (long : length bytes < 2 ^ 64) (board : Meaning) (of : IsSavedBefore plans feeds bytes board) (are : AreFeeds feeds) where
  abbrev kept : List SavedStream
  kept = under_plans (plans_of_feeds feeds) (saved_of board)

  says : IsCheckpoint (plans_of_feeds feeds) bytes kept
  says =
      subst (λ (bs : List ℕ). IsCheckpoint (plans_of_feeds feeds) bs kept) (sym of.written)
      (said board (plans_of_feeds feeds) of.lawful of.within (subst (λ (bs : List ℕ). length bs < 2 ^ 64) of.written long) of.histories.extended)

  kept_is : (saved : List SavedStream) → IsCheckpoint (plans_of_feeds feeds) bytes saved → saved ≡ kept
  kept_is saved check = one_thing (plans_of_feeds feeds) bytes saved kept (subst (AllByRecursion IsPlan) (sym of.fed.opened) well) check says

  kept_long : length kept ≡ length feeds
  kept_long =
      under_long (plans_of_feeds feeds) (saved_of board)
      (saved_long 0 board.streams board.rows ∙ sym (as_many_feeds feeds board are of.lawful of.histories) ∙ sym (length-map feeds (λ (feed : FeedValue). feed.plan)))
      ∙ length-map feeds (λ (feed : FeedValue). feed.plan)

  -- what makes a board is refused for want of memory alone
  made_alone : MayExtend feeds board → (fault : ResumeFault) → IsRefusedSaved feeds kept fault → fault ≡ Memory
  made_alone may fault h = not_refused ties feeds are.whole kept (extended_board feeds board) (extended feeds board are of.lawful may).0 fault h

  -- what is kept of a stream
  record Kept (s : ℕ) (state : State) : Type 0 where
    one : SavedStream
    there : slice_get kept s ≡ Some one
    stands : StandsAt board s one
    is : stands.state ≡ state

  kept_at : (s : ℕ) (state : State) → slice_get board.streams s ≡ Some state → Kept s state
  kept_at s state here =
      let one : (one : SavedStream) × (slice_get kept s ≡ Some one) = at_same_place board.streams kept s state (sym (as_many_feeds feeds board are of.lawful of.histories) ∙ sym kept_long) here in
      let stands : StandsAt board s one.0 = stands_at (plans_of_feeds feeds) board s one.0 one.1 in
      record { one = one.0; there = one.1; stands = stands; is = same_Some stands.state state (sym stands.here ∙ here) }

  unsound : (fault : FeedFault) → AreUnsound feeds kept fault → (s : ℕ) × StopsAt (λ feed state. MeetsUnsound feed state fault) feeds board.streams s
  unsound fault h =
      let feed : FeedValue = h.first.one in
      let at : StandsAt board h.stream h.first.other = stands_at (plans_of_feeds feeds) board h.stream h.first.other h.first.there in
      let history : IsOfSameHistory feed at.state = of.histories.each_stream h.stream feed at.state h.first.here at.here in
      let inside : length (sound_groups feed) < at.state.applied = behind (cases_lt (length (sound_groups feed)) at.state.applied) in (
        h.stream,
        record {
          feed = feed;
          state = at.state;
          fed = h.first.here;
          here = at.here;
          stops = record {
            enough = history.enough;
            inside = inside;
            before = record { sound = le_refl (length (sound_groups feed)); same = λ i old new less p q. history.same i old new (omega (arith, less, inside)) p q };
            first = h.first_fault;
          };
          before = go_on;
        },
      )
    where
      behind : ((length (sound_groups h.first.one) < (stands_at (plans_of_feeds feeds) board h.stream h.first.other h.first.there).state.applied) ⊎ ((stands_at (plans_of_feeds feeds) board h.stream h.first.other h.first.there).state.applied ≤ length (sound_groups h.first.one)))
          → length (sound_groups h.first.one) < (stands_at (plans_of_feeds feeds) board h.stream h.first.other h.first.there).state.applied
      behind (inl less) = less
      behind (inr most) =
          let at : StandsAt board h.stream h.first.other = stands_at (plans_of_feeds feeds) board h.stream h.first.other h.first.there in
          absurd (h.first.fails (λ number known.
          subst (λ n. n ≤ length (sound_groups h.first.one))
          (one_number h.first.one (are.whole h.stream h.first.one h.first.here) h.first.other.position at.state.applied number (known_at_stream feeds board are of.lawful of.histories h.stream h.first.one h.first.other h.first.here at) known)
          most))

      go_on : GoOnBefore feeds board.streams h.stream
      go_on t f x less fed here =
          let k : Kept t x = kept_at t x here in
          let sound : k.stands.state.applied ≤ length (sound_groups f) = h.first.before t f k.one less fed k.there k.stands.state.applied (known_at_stream feeds board are of.lawful of.histories t f k.one fed k.stands) in
          record {
            sound = subst (λ (z : State). z.applied ≤ length (sound_groups f)) k.is sound;
            same = (of.histories.each_stream t f x fed here).same;
          }

  refused_saved : (fault : ResumeFault) → IsRefusedSaved feeds kept fault → IsRefusedOfMore feeds board fault
  refused_saved FeedCount h = h
  refused_saved WrongPlan h = h
  refused_saved CheckpointBad h = h
  refused_saved (PositionUnknown s) h =
      let at : StandsAt board s h.other = stands_at (plans_of_feeds feeds) board s h.other h.there in
      absurd (h.fails (at.state.applied, known_at_stream feeds board are of.lawful of.histories s h.one h.other h.here at))
  refused_saved (Unsound fault) h = unsound fault h
  refused_saved (CheckpointDiffers s key) h =
      let clash : CheckpointDiffers s key ≡ Memory = made_alone (resumed_go_on feeds board are of.lawful of.histories h.states h.resumed) (CheckpointDiffers s key) h in absurd cc
  refused_saved (OwnedByOther key owner) h =
      let clash : OwnedByOther key owner ≡ Memory = made_alone (resumed_go_on feeds board are of.lawful of.histories h.states h.resumed) (OwnedByOther key owner) h in absurd cc
  refused_saved Memory h = tt

  of_saved : (fault : ResumeFault) (saved : List SavedStream) → IsCheckpoint (plans_of_feeds feeds) bytes saved → IsRefusedSaved feeds saved fault → IsRefusedOfMore feeds board fault
  of_saved fault saved check h = refused_saved fault (subst (λ (s : List SavedStream). IsRefusedSaved feeds s fault) (kept_is saved check) h)

  refused_more : (fault : ResumeFault) → IsRefusedCheckpoint feeds bytes fault → IsRefusedOfMore feeds board fault
  refused_more CheckpointBad h = h kept says
  refused_more Memory h = tt
  refused_more FeedCount h = of_saved FeedCount h.0 h.1 h.2
  refused_more WrongPlan h = of_saved WrongPlan h.0 h.1 h.2
  refused_more (PositionUnknown s) h = of_saved (PositionUnknown s) h.0 h.1 h.2
  refused_more (Unsound fault) h = of_saved (Unsound fault) h.0 h.1 h.2
  refused_more (CheckpointDiffers s key) h = of_saved (CheckpointDiffers s key) h.0 h.1 h.2
  refused_more (OwnedByOther key owner) h = of_saved (OwnedByOther key owner) h.0 h.1 h.2

  pub comes_back_with_more : (result : Result Meaning ResumeFault) → IfOk result (IsResumed feeds bytes) → IfErr result (IsRefusedCheckpoint feeds bytes) → GivesMore feeds board result
  comes_back_with_more (Ok other) h refused =
      let made : IsResumedBoard feeds kept other = subst (λ (saved : List SavedStream). IsResumedBoard feeds saved other) (kept_is h.saved h.said) h.made in
      let may : MayExtend feeds board = resumed_go_on feeds board are of.lawful of.histories other.streams made.states in
      (may, (extended feeds board are of.lawful may).1 other made ∙ after_restarts_board feeds board)
  comes_back_with_more (Err fault) h refused = refused_more fault refused
