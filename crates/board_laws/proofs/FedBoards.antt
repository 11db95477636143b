-- A board with its feeds: it shows their sources, and stays such a board behind steps and where a feed grows.
use Rattle.std.proofs.Common.{◌≡◌, ◌==◌, ℕ, ◌<◌, Bool, true, false, List, [], ◌∷◌, length, take, Option, Some, Ok, Err, slice_get, set, refl, sym, ap, subst, ◌∙◌, arith}
use Rattle.std.proofs.lemmas.Bool.{eqb-false}
use Rattle.std.proofs.lemmas.List.{length-set}
use Rattle.std.proofs.lemmas.Option.{same_Some, slice_get_within}
use borrow.Author.Tests.{eqb-true}
use Rattle.list_laws.proofs.Fronts.{front_of}
use Rattle.list_laws.proofs.Places.{place_of, slice_get-set_same, slice_get-set_other}
use Rattle.stream_core.specs.declared.step.Step.{Step}
use Rattle.source_feed.specs.Planned.{FeedValue}
use Rattle.source_feed.specs.SoundGroups.{sound_groups}
use Rattle.source_feed.specs.Touches.{PreparedValue}
use Rattle.board_laws.specs.FedBoards.{IsFedBoard, HasGrown}
use Rattle.board_laws.specs.Meaning.{State, Meaning}
use Rattle.board_laws.specs.Reading.{HasFeed, IsReplayed}
use Rattle.board_laws.specs.Schedule.{Reply, IsReply, IsRun}
use Rattle.board_laws.specs.Sources.{ShowsSource, ShowsItsSource, ShowAll}
use Rattle.board_laws.proofs.Agreeing.{run-length}
use Rattle.board_laws.proofs.FeedLaws.{run-reads}
use Rattle.board_laws.proofs.Following.{run-lawful}
use Rattle.board_laws.proofs.Replays.{replayed}
use Rattle.board_laws.proofs.Sources.{all_show}

-- ---- what it shows

pub fed_shows : (feeds : List FeedValue) (board : Meaning) → IsFedBoard feeds board → ShowAll feeds board
fed_shows feeds board fed = record {
  some = omega (arith, fed.lawful.some, fed.count);
  count = fed.count;
  shows = λ s feed at.
      let within : s < length feeds = slice_get_within feeds s feed at in
      let there : (state : State) × (slice_get board.streams s ≡ Some state) = place_of board.streams s (omega (arith, within, fed.count)) in
      let one : ShowsItsSource feeds board s = all_show feeds board fed.lawful fed.reads s there.0 there.1 in
      subst (λ (f : FeedValue). ShowsSource f board s) (same_Some one.feed feed (sym one.fed ∙ at)) one.shows;
  rising = fed.lawful.rising;
  closed = λ key s row stands.
      let is : IsReplayed board s key row = (replayed board fed.lawful s key row).0 stands in
      let within : s < length board.streams = slice_get_within board.streams s is.state is.stream in
      omega (arith, within, fed.count);
}

-- ---- behind steps

pub run-fed : (feeds : List FeedValue) (old new : Meaning) (steps : List (ℕ × Step)) (replies : List Reply) → IsRun feeds old steps replies new → IsFedBoard feeds old → IsFedBoard feeds new
run-fed feeds old new steps replies run fed = record {
  lawful = run-lawful feeds old new steps replies run fed.lawful;
  count = run-length feeds old new steps replies run ∙ fed.count;
  reads = run-reads feeds old new steps replies run fed.reads;
}

pub reply-fed : (feeds : List FeedValue) (old new : Meaning) (step : ℕ × Step) (reply : Reply) → IsReply feeds old step reply new → IsFedBoard feeds old → IsFedBoard feeds new
reply-fed feeds old new step reply h fed = run-fed feeds old new (step ∷ []) (reply ∷ []) (new, h, refl) fed

-- ---- a feed that grows

-- a stream that reads a feed reads it as it has grown
grown-reads : (feeds : List FeedValue) (s : ℕ) (old new : FeedValue) → slice_get feeds s ≡ Some old → HasGrown old new → (state : State) → HasFeed feeds s state → HasFeed (set feeds s new) s state
grown-reads feeds s old new at grown state has =
    let same : has.feed ≡ old = same_Some has.feed old (sym has.fed ∙ at) in
    let list : state.list ≡ take has.reads.length_read (sound_groups old) = has.reads.list ∙ ap (λ (f : FeedValue). take has.reads.length_read (sound_groups f)) same in
    let front : (k : ℕ) × (take has.reads.length_read (take (length (sound_groups old)) (sound_groups new)) ≡ take k (sound_groups new))
    = front_of has.reads.length_read (length (sound_groups old)) (sound_groups new) in
    record {
      feed = new;
      fed = slice_get-set_same feeds s new old at;
      whole = grown.whole;
      reads = record {
        plan = has.reads.plan ∙ ap (λ (f : FeedValue). f.plan) same ∙ sym grown.plan;
        length_read = front.0;
        list = list ∙ ap (λ (gs : List PreparedValue). take has.reads.length_read gs) (sym grown.begins) ∙ front.1;
      };
    }

other-reads : (feeds : List FeedValue) (s : ℕ) (new : FeedValue) (t : ℕ) → (t ≡ s → ⊥) → (state : State) → HasFeed feeds t state → HasFeed (set feeds s new) t state
other-reads feeds s new t ne state has = record {
  feed = has.feed;
  fed = slice_get-set_other feeds s new t ne ∙ has.fed;
  whole = has.whole;
  reads = has.reads;
}

pub grown-fed : (feeds : List FeedValue) (board : Meaning) (s : ℕ) (old new : FeedValue) → IsFedBoard feeds board → slice_get feeds s ≡ Some old → HasGrown old new → IsFedBoard (set feeds s new) board
grown-fed feeds board s old new fed at grown = record {
  lawful = fed.lawful;
  count = fed.count ∙ sym (length-set feeds s new);
  reads = λ t state here. by t state here (t == s) refl;
}
  where
    by : (t : ℕ) (state : State) → slice_get board.streams t ≡ Some state → (b : Bool) → (t == s) ≡ b → HasFeed (set feeds s new) t state
    by t state here true e =
        let same : t ≡ s = eqb-true t s e in
        subst (λ u. HasFeed (set feeds s new) u state) (sym same)
        (grown-reads feeds s old new at grown state (subst (λ u. HasFeed feeds u state) same (fed.reads t state here)))
    by t state here false e = other-reads feeds s new t (eqb-false t s e) state (fed.reads t state here)
