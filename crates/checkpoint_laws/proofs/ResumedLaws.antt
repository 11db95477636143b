-- A board that a checkpoint and feeds make is lawful, and says what the checkpoint says.
use Rattle.std.proofs.Common.{◌≡◌, ℕ, zero, suc, ◌+◌, ◌≤◌, inl, inr, List, [], ◌∷◌, length, take, Option, Some, None, slice_get, refl, sym, ap, subst, ◌∙◌, arith}
use Rattle.std.proofs.lemmas.List.{length-take-le}
use Rattle.std.proofs.lemmas.Option.{same_Some, none-some, slice_get-map}
use Rattle.list_laws.proofs.Places.{no_place, place_of}
use Rattle.filter_rule.specs.PlanValue.{PlanValue}
use Rattle.source_feed.specs.Planned.{PlannedGroupValue, FeedValue, IsFeed}
use Rattle.source_feed.specs.Positions.{IsNumberAt}
use Rattle.source_feed.specs.SoundGroups.{sound_groups}
use Rattle.source_feed.specs.Touches.{PreparedValue}
use Rattle.source_feed.proofs.SoundGroupLaws.{IsGroupOf, group_of}
use Rattle.vevent.specs.CheckpointPart.{StreamPartValue}
use Rattle.board_laws.specs.Allowed.{last_position}
use Rattle.board_laws.specs.Lawful.{IsSoundState, IsLawful}
use Rattle.board_laws.specs.Meaning.{State, Meaning}
use Rattle.board_laws.proofs.History.{read-cut}
use Rattle.board_laws.proofs.Lists.{take-take}
use Rattle.board_laws.proofs.Lookups.{Ties}
use Rattle.board_laws.proofs.JoinedRows.{states-lawful}
use Rattle.board_laws.specs.Sources.{applied_position}
use Rattle.checkpoint_laws.specs.Saved.{SavedStream, own_rows, saved_stream, saved_from, saved_of}
use Rattle.checkpoint_laws.specs.Said.{IsSaved, IsCheckpoint}
use Rattle.checkpoint_laws.specs.Resumed.{IsResumedAt, IsResumedBoard}
use Rattle.checkpoint_laws.specs.Refused.{plans_of_feeds}
use Rattle.checkpoint_laws.specs.Laws.{AreFeeds, ResumedBoardsAreLawful}
use Rattle.board_laws.proofs.FeedGroups.{last_of, sound-is_read}
use Rattle.checkpoint_laws.proofs.OwnRows.{own-is_cut}

-- a value at the same place of a list that is as long
pub at_same_place : {A B : Type 0} (xs : List A) (ys : List B) (i : ℕ) (x : A) → length xs ≡ length ys → slice_get xs i ≡ Some x → (y : B) × (slice_get ys i ≡ Some y)
at_same_place [] ys i x long e = no_place i x e
at_same_place (a ∷ xs) [] i x long e = let clash : length (a ∷ xs) ≡ 0 = long in absurd (omega (arith, clash))
at_same_place (a ∷ xs) (b ∷ ys) zero x long e = (b, refl)
at_same_place (a ∷ xs) (b ∷ ys) (suc i) x long e = let rest : suc (length xs) ≡ suc (length ys) = long in at_same_place xs ys i x (omega (arith, rest)) e

-- ---- one stream

module _ (feed : FeedValue) (whole : IsFeed feed) (saved : SavedStream) (sound : IsSaved feed.plan saved) (state : State) (at : IsResumedAt feed saved state) where
  long : length (take at.number (sound_groups feed)) ≡ at.number
  long = length-take-le at.number (sound_groups feed) at.sound

  pub resumed-sound : IsSoundState state
  resumed-sound = subst IsSoundState (sym at.state_is) (record {
    plan = whole.plan;
    list = read-cut feed.plan (sound_groups feed) at.number (sound-is_read feed whole);
    standing = record { applied = omega (arith, long); done = sound.marks.within; snapshot = tt };
    marks = sound.marks;
    tables = sound.tables;
    upto = sound.upto;
  })

  -- the position of the last applied group is the one at which the stream stands
  position_at : (number : ℕ) → number ≤ length (sound_groups feed) → IsNumberAt feed saved.position number → last_position (take number (take number (sound_groups feed))) ≡ saved.position
  position_at number fits (inl none) = ap (λ n. last_position (take n (take n (sound_groups feed)))) none.1 ∙ sym none.0
  position_at zero fits (inr has) = let clash : None ≡ Some has.group = has.there in absurd (none-some has.group clash)
  position_at (suc i) fits (inr has) =
      let there : (group : PreparedValue) × (slice_get (sound_groups feed) i ≡ Some group) = place_of (sound_groups feed) i (omega (arith, fits)) in
      let of : IsGroupOf feed i there.0 = group_of feed i there.0 there.1 in
      let planned : of.planned ≡ has.group = same_Some of.planned has.group (sym of.there ∙ has.there) in
      ap last_position (take-take (suc i) (sound_groups feed))
      ∙ last_of (sound_groups feed) i there.0 there.1
      ∙ ap (λ (g : PreparedValue). g.position) (sym of.is)
      ∙ ap (λ (g : PlannedGroupValue). g.position) planned
      ∙ has.at

  pub resumed-position : applied_position state ≡ saved.position
  resumed-position = ap applied_position at.state_is ∙ position_at at.number at.sound at.known

-- ---- the board

module _ (ties : Ties) (feeds : List FeedValue) (bytes : List ℕ) (saved : List SavedStream) (board : Meaning) (are : AreFeeds feeds)
    (check : IsCheckpoint (plans_of_feeds feeds) bytes saved) (made : IsResumedBoard feeds saved board) where
  record Stream (s : ℕ) (state : State) : Type 0 where
    feed : FeedValue
    fed : slice_get feeds s ≡ Some feed
    one : SavedStream
    kept : slice_get saved s ≡ Some one
    at : IsResumedAt feed one state
    sound : IsSaved feed.plan one

  stream_at : (s : ℕ) (state : State) → slice_get board.streams s ≡ Some state → Stream s state
  stream_at s state here =
      let feed : (feed : FeedValue) × (slice_get feeds s ≡ Some feed) = at_same_place board.streams feeds s state made.states.count here in
      let one : (one : SavedStream) × (slice_get saved s ≡ Some one) = at_same_place feeds saved s feed.0 (sym made.states.same_count) feed.1 in
      let plan : slice_get (plans_of_feeds feeds) s ≡ Some feed.0.plan = slice_get-map (λ (feed : FeedValue). feed.plan) feeds s ∙ ap (λ (o : Option FeedValue). plan_of o) feed.1 in
      let part : (part : StreamPartValue) × (slice_get check.parts s ≡ Some part) = at_same_place (plans_of_feeds feeds) check.parts s feed.0.plan (sym check.count) plan in
      record {
        feed = feed.0;
        fed = feed.1;
        one = one.0;
        kept = one.1;
        at = made.states.each_stream s feed.0 one.0 state feed.1 one.1 here;
        sound = (check.each_stream s feed.0.plan one.0 part.0 plan one.1 part.1).sound;
      }
    where
      plan_of : Option FeedValue → Option PlanValue
      plan_of None = None
      plan_of (Some feed) = Some feed.plan

  sound_at : (s : ℕ) (state : State) → slice_get board.streams s ≡ Some state → IsSoundState state
  sound_at s state here = let of = stream_at s state here in resumed-sound of.feed (are.whole s of.feed of.fed) of.one of.sound state of.at

  same_tables : (s t : ℕ) (x y : State) → slice_get board.streams s ≡ Some x → slice_get board.streams t ≡ Some y → x.plan.tables ≡ y.plan.tables
  same_tables s t x y p q =
      let one = stream_at s x p in
      let other = stream_at t y q in
      ap (λ (state : State). state.plan.tables) one.at.state_is
      ∙ are.tables s t one.feed other.feed one.fed other.fed
      ∙ ap (λ (state : State). state.plan.tables) (sym other.at.state_is)

  pub resumed-lawful : IsLawful board
  resumed-lawful =
      subst IsLawful (sym made.is)
      (states-lawful ties board.streams (subst (λ n. 1 ≤ n) (sym made.states.count) are.some) (subst (λ n. n ≤ 64) (sym made.states.count) are.few) sound_at same_tables made.apart)

  -- what is kept of a stream of the board is what was said of it
  same_saved : (s : ℕ) (state : State) (one : SavedStream) → slice_get board.streams s ≡ Some state → slice_get saved s ≡ Some one → saved_stream s state board.rows ≡ one
  same_saved s state one here kept =
      let of = stream_at s state here in
      let is : of.one ≡ one = same_Some of.one one (sym of.kept ∙ kept) in
      let position : applied_position state ≡ one.position = resumed-position of.feed (are.whole s of.feed of.fed) of.one of.sound state of.at ∙ ap (λ (x : SavedStream). x.position) is in
      let marks : state.marks ≡ one.marks = ap (λ (x : State). x.marks) of.at.state_is ∙ ap (λ (x : SavedStream). x.marks) is in
      let rows : own_rows s board.rows ≡ one.rows = own-is_cut ties board resumed-lawful s state here ∙ sym (made.agree s one state kept here) in
      λ i. record { position = position i; marks = marks i; rows = rows i }

  pub resumed-says : saved_of board ≡ saved
  resumed-says = from 0 board.streams saved (made.states.count ∙ sym made.states.same_count) (λ i state one here kept. (let none_more : 0 + i ≡ i = omega arith in ap (λ n. saved_stream n state board.rows) none_more ∙ same_saved i state one here kept))
    where
      from : (k : ℕ) (streams : List State) (others : List SavedStream) → length streams ≡ length others
          → ((i : ℕ) (state : State) (one : SavedStream) → slice_get streams i ≡ Some state → slice_get others i ≡ Some one → saved_stream (k + i) state board.rows ≡ one)
          → saved_from k streams board.rows ≡ others
      from k [] [] as_many same = refl
      from k [] (one ∷ others) as_many same = let clash : 0 ≡ suc (length others) = as_many in absurd (omega (arith, clash))
      from k (state ∷ streams) [] as_many same = let clash : suc (length streams) ≡ 0 = as_many in absurd (omega (arith, clash))
      from k (state ∷ streams) (one ∷ others) as_many same =
          let rest : suc (length streams) ≡ suc (length others) = as_many in
          let zero_more : k + 0 ≡ k = omega arith in
          let first : saved_stream k state board.rows ≡ one = ap (λ n. saved_stream n state board.rows) (sym zero_more) ∙ same 0 state one refl refl in
          let later : saved_from (k + 1) streams board.rows ≡ others = from (k + 1) streams others (omega (arith, rest)) (λ i x y p q.
          let more : k + 1 + i ≡ k + suc i = omega arith in
          ap (λ n. saved_stream n x board.rows) more ∙ same (suc i) x y p q) in
          λ i. first i ∷ later i

pub resumed_boards : Ties → ResumedBoardsAreLawful
resumed_boards ties feeds bytes saved board are check made = (resumed-lawful ties feeds bytes saved board are check made, resumed-says ties feeds bytes saved board are check made)
