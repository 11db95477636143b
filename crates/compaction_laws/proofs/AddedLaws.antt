-- Tables are added over compacted feeds as over whole ones.
use Rattle.std.proofs.Common.{◌≡◌, ℕ, suc, List, [], ◌∷◌, length, map, Some, slice_get, refl, sym, ap, subst, ◌∙◌, arith, inl, inr}
use Rattle.std.proofs.lemmas.List.{length-map}
use Rattle.std.proofs.lemmas.Option.{slice_get-map}
use Rattle.list_laws.proofs.Choices.{mapped}
use Rattle.filter_rule.specs.Extending.{IsExtended}
use Rattle.filter_rule.specs.PlanValue.{PlanValue}
use Rattle.source_feed.specs.Planned.{FeedValue}
use Rattle.board_laws.specs.Meaning.{State, Meaning}
use Rattle.board_laws.specs.Extended.{AreExtended, extended_board, MayExtend}
use Rattle.board_laws.specs.Compatible.{plans_of_board}
use Rattle.checkpoint_laws.specs.Added.{SavedBoardsAreSaidOfMore, ExtendedBoardsAreResumed}
use Rattle.checkpoint_laws.specs.Refused.{plans_of_feeds}
use Rattle.checkpoint_laws.specs.Resumed.{IsResumedBoard}
use Rattle.checkpoint_laws.specs.Said.{IsCheckpoint}
use Rattle.checkpoint_laws.specs.Saved.{SavedStream}
use Rattle.checkpoint_laws.specs.Written.{checkpoint_of}
use Rattle.checkpoint_laws.proofs.ResumedLaws.{at_same_place}
use Rattle.compaction_laws.specs.Laws.{CanGoOn, CanAllGoOn, BoardsGoOn, AddedTablesGoOn, saved_with_more}

-- ---- plans

-- what a map has at a place is of what stands there
of_map : {A B : Type 0} (f : A → B) (xs : List A) (s : ℕ) (y : B) → slice_get (map f xs) s ≡ Some y → (x : A) × (slice_get xs s ≡ Some x) × (f x ≡ y)
of_map f xs s y e = mapped f (slice_get xs s) y (sym (slice_get-map f xs s) ∙ e)

plans_extend : (feeds : List FeedValue) (board : Meaning) → MayExtend feeds board → AreExtended (plans_of_board board) (plans_of_feeds feeds)
plans_extend feeds board may = record {
  count = length-map feeds (λ (feed : FeedValue). feed.plan) ∙ may.count ∙ sym (length-map board.streams (λ (state : State). state.plan));
  each_plan = each_plan;
}
  where
    each_plan : (s : ℕ) (one other : PlanValue) → slice_get (plans_of_board board) s ≡ Some one → slice_get (plans_of_feeds feeds) s ≡ Some other → IsExtended one other
    each_plan s one other e f =
        let was = of_map (λ (state : State). state.plan) board.streams s one e in
        let now = of_map (λ (feed : FeedValue). feed.plan) feeds s other f in
        subst (λ (p : PlanValue). IsExtended p other) was.2 (subst (λ (p : PlanValue). IsExtended was.0.plan p) now.2 (may.extends s now.0 was.0 now.1 was.1))

-- a feed that is gone on over is under the plan of the one before
same_plan : (old : FeedValue) (saved : SavedStream) (new : FeedValue) → CanGoOn old saved new → new.plan ≡ old.plan
same_plan old saved new (inl same) = ap (λ (feed : FeedValue). feed.plan) same
same_plan old saved new (inr (fewer, events, c, is, from)) = ap (λ (feed : FeedValue). feed.plan) is ∙ c.same_plan

plans_alike : (olds news : List FeedValue) → length news ≡ length olds → ((s : ℕ) (old new : FeedValue) → slice_get olds s ≡ Some old → slice_get news s ≡ Some new → new.plan ≡ old.plan) → plans_of_feeds news ≡ plans_of_feeds olds
plans_alike [] [] many each = refl
plans_alike [] (new ∷ news) many each = absurd (omega (arith, many))
plans_alike (old ∷ olds) [] many each = absurd (omega (arith, many))
plans_alike (old ∷ olds) (new ∷ news) many each =
    ap (λ (p : PlanValue). p ∷ plans_of_feeds news) (each 0 old new refl refl)
    ∙ ap (λ (ps : List PlanValue). old.plan ∷ ps) (plans_alike olds news (omega (arith, many)) (λ s. each (suc s)))

same_plans : (olds news : List FeedValue) (saved : List SavedStream) → length saved ≡ length olds → CanAllGoOn olds saved news → plans_of_feeds news ≡ plans_of_feeds olds
same_plans olds news saved many can = plans_alike olds news can.count each
  where
    each : (s : ℕ) (old new : FeedValue) → slice_get olds s ≡ Some old → slice_get news s ≡ Some new → new.plan ≡ old.plan
    each s old new e f = let one = at_same_place olds saved s old (sym many) e in same_plan old one.0 new (can.each_stream s old one.0 new e one.1 f)

-- ---- the board

pub added_go_on : SavedBoardsAreSaidOfMore → ExtendedBoardsAreResumed → BoardsGoOn → AddedTablesGoOn
added_go_on said resumed go_on = λ olds news board feeds lawful within short may can.
    let saved : List SavedStream = saved_with_more olds board in
    let is : IsCheckpoint (plans_of_feeds olds) (checkpoint_of board) saved = said board (plans_of_feeds olds) lawful within short (plans_extend olds board may) in
    let made : IsResumedBoard olds saved (extended_board olds board) = (resumed olds board feeds lawful may).0 in
    let plans : plans_of_feeds news ≡ plans_of_feeds olds = same_plans olds news saved made.states.same_count can in
    (subst (λ (ps : List PlanValue). IsCheckpoint ps (checkpoint_of board) saved) (sym plans) is, go_on olds news saved (extended_board olds board) can made)
