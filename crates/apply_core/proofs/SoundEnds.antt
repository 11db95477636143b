-- Streams at their feeds' ends have read no group that isn't sound.
use Rattle.std.proofs.Common.{◌≡◌, ◌≢◌, ◌∙◌, ℕ, zero, suc, ◌<◌, ◌≤◌, List, [], ◌∷◌, length, map, take, Option, Some, None, Result, Ok, Err, slice_get, sym, ap, subst, arith}
use Rattle.std.proofs.lemmas.List.{length-map}
use Rattle.std.proofs.lemmas.Option.{same_Some, none-some, slice_get_within}
use Rattle.std.specs.Prelude.{IfSome}
use Rattle.std.specs.Result.{ok_prefix}
use Rattle.list_laws.proofs.Places.{place_of}
use Rattle.source_feed.specs.Planned.{FeedValue}
use Rattle.source_feed.specs.SoundGroups.{sound_groups}
use Rattle.source_feed.specs.Touches.{PreparedValue, prepared}
use Rattle.board_laws.specs.Meaning.{State, Meaning}
use Rattle.board_laws.specs.Reading.{ReadsFeed, HasFeed}
use Rattle.apply_core.specs.Ended.{HasEnded, IsFedBoard, AllHaveEnded, AreSound}
use Rattle.apply_core.specs.LowerEnded.{HaveEndedBelow, LowerHaveEnded, EndsBelow, LowerCanEnd}
use Rattle.apply_core.specs.RunRefused.{IsLowest, IsOfStream, refused_stream}
use Rattle.apply_core.specs.declared.run_refusal.RunRefusal.{RunRefusal}
use Rattle.apply_core.specs.declared.run_refusal.RunRefusal.TheVariants.{FeedCount, WrongPlan, Unsound, OwnedByOther, Memory}

-- a stream at its feed's end has read no group that isn't sound
pub ended-sound : (feed : FeedValue) (state : State) → ReadsFeed feed state → HasEnded feed state → length (sound_groups feed) ≡ length feed.groups
ended-sound feed state reads ended =
    let most : length (take reads.length_read (sound_groups feed)) ≤ length (sound_groups feed) = take_within reads.length_read (sound_groups feed) in
    let read : length state.list ≡ length (take reads.length_read (sound_groups feed)) = ap (λ (xs : List PreparedValue). length xs) reads.list in
    let few : length (sound_groups feed) ≤ length (map (prepared feed.plan) feed.groups) = good_within (map (prepared feed.plan) feed.groups) in
    omega (arith, most, read, few, length-map feed.groups (prepared feed.plan), ended.read)
  where
    take_within : {A : Type 0} (n : ℕ) (xs : List A) → length (take n xs) ≤ length xs
    take_within zero xs = omega arith
    take_within (suc n) [] = omega arith
    take_within (suc n) (x ∷ xs) = let rest : length (take n xs) ≤ length xs = take_within n xs in omega (arith, rest)

    good_within : {A E : Type 0} (xs : List (Result A E)) → length (ok_prefix xs) ≤ length xs
    good_within [] = omega arith
    good_within (Ok x ∷ xs) = let rest : length (ok_prefix xs) ≤ length xs = good_within xs in omega (arith, rest)
    good_within (Err e ∷ xs) = omega arith

-- ---- a board with its feeds

module _ (feeds : List FeedValue) (board : Meaning) (fed : IsFedBoard feeds board) (s : ℕ) (feed : FeedValue) (at : slice_get feeds s ≡ Some feed)
    (ended : (state : State) → slice_get board.streams s ≡ Some state → HasEnded feed state) where
  -- the feed of a stream that has ended
  pub feed-sound : length (sound_groups feed) ≡ length feed.groups
  feed-sound =
      let within : s < length feeds = slice_get_within feeds s feed at in
      let there : (state : State) × (slice_get board.streams s ≡ Some state) = place_of board.streams s (omega (arith, within, fed.count)) in
      let has : HasFeed feeds s there.0 = fed.reads s there.0 there.1 in
      ended-sound feed there.0 (subst (λ (f : FeedValue). ReadsFeed f there.0) (same_Some has.feed feed (sym has.fed ∙ at)) has.reads) (ended there.0 there.1)

pub all-sound : (feeds : List FeedValue) (board : Meaning) → IsFedBoard feeds board → AllHaveEnded feeds board → AreSound feeds
all-sound feeds board fed ended s feed at = feed-sound feeds board fed s feed at (λ state here. ended s feed state at here)

-- ---- the lowest stream that is refused

-- a refusal of no stream has none below it
pub lowest-none : (feeds : List FeedValue) (refusal : RunRefusal) → refused_stream refusal ≡ None → IsLowest feeds refusal
lowest-none feeds FeedCount e = tt
lowest-none feeds WrongPlan e = tt
lowest-none feeds (Unsound stream fault) e = absurd (none-some stream (sym e))
lowest-none feeds (OwnedByOther stream key owner) e = absurd (none-some stream (sym e))
lowest-none feeds Memory e = tt

-- where the streams below one have ended, its refusal is the lowest
pub lowest-of : (feeds : List FeedValue) (board : Meaning) (s : ℕ) → IsFedBoard feeds board
    → ((t : ℕ) (feed : FeedValue) (state : State) → t < s → slice_get feeds t ≡ Some feed → slice_get board.streams t ≡ Some state → HasEnded feed state)
    → (refusal : RunRefusal) → IsOfStream s refusal → IsLowest feeds refusal
lowest-of feeds board s fed ended refusal of = by (refused_stream refusal) of
  where
    by : (o : Option ℕ) → IfSome o (λ t. t ≡ s) → IfSome o (λ u. (t : ℕ) (feed : FeedValue) → t < u → slice_get feeds t ≡ Some feed → length (sound_groups feed) ≡ length feed.groups)
    by None h = tt
    by (Some u) h = λ t feed less at. feed-sound feeds board fed t feed at (λ state here. ended t feed state (omega (arith, less, h)) at here)

-- they still have on the board behind it, which is as it was but for the stream that is refused
pub lower-ended : (feeds : List FeedValue) (before after : Meaning) (s : ℕ)
    → ((t : ℕ) (feed : FeedValue) (state : State) → t < s → slice_get feeds t ≡ Some feed → slice_get before.streams t ≡ Some state → HasEnded feed state)
    → ((t : ℕ) → t ≢ s → slice_get after.streams t ≡ slice_get before.streams t)
    → (refusal : RunRefusal) → IsOfStream s refusal → LowerHaveEnded feeds after refusal
lower-ended feeds before after s ended others refusal of = by (refused_stream refusal) of
  where
    by : (o : Option ℕ) → IfSome o (λ t. t ≡ s) → IfSome o (HaveEndedBelow feeds after)
    by None h = tt
    by (Some u) h = λ t less feed state at_f at_s.
        ended t feed state (omega (arith, less, h)) at_f (sym (others t (λ e. omega (arith, e, less, h))) ∙ at_s)

-- so there is such a board
pub lower-can_end : (feeds : List FeedValue) (board : Meaning) → IsFedBoard feeds board → (refusal : RunRefusal) → LowerHaveEnded feeds board refusal → LowerCanEnd feeds refusal
lower-can_end feeds board fed refusal ended = by (refused_stream refusal) ended
  where
    by : (o : Option ℕ) → IfSome o (HaveEndedBelow feeds board) → IfSome o (EndsBelow feeds)
    by None h = tt
    by (Some s) h = record { board = board; fed = fed; lower = h }

-- a refusal of no stream needs none
pub none-can_end : (feeds : List FeedValue) (refusal : RunRefusal) → refused_stream refusal ≡ None → LowerCanEnd feeds refusal
none-can_end feeds refusal e = subst (λ (o : Option ℕ). IfSome o (EndsBelow feeds)) (sym e) tt
