-- A resumed board reads its feeds.
use Rattle.std.proofs.Common.{◌≡◌, ◌<◌, List, length, Some, slice_get, ap, arith}
use Rattle.std.proofs.lemmas.Option.{slice_get_within}
use Rattle.list_laws.proofs.Places.{place_of}
use Rattle.source_feed.specs.Planned.{FeedValue}
use Rattle.board_laws.specs.Meaning.{State, Meaning}
use Rattle.board_laws.specs.Reading.{AllReadTheirFeeds}
use Rattle.checkpoint_laws.specs.Laws.{AreFeeds}
use Rattle.checkpoint_laws.specs.Resumed.{IsResumedAt, IsResumedBoard}
use Rattle.checkpoint_laws.specs.Saved.{SavedStream}

pub resumed-reads : (feeds : List FeedValue) (saved : List SavedStream) (board : Meaning) → AreFeeds feeds → IsResumedBoard feeds saved board → AllReadTheirFeeds feeds board
resumed-reads feeds saved board are made s state here =
    let inside : s < length board.streams = slice_get_within board.streams s state here in
    let of : (feed : FeedValue) × (slice_get feeds s ≡ Some feed) = place_of feeds s (omega (arith, inside, made.states.count)) in
    let one : (x : SavedStream) × (slice_get saved s ≡ Some x) = place_of saved s (omega (arith, inside, made.states.count, made.states.same_count)) in
    let at : IsResumedAt of.0 one.0 state = made.states.each_stream s of.0 one.0 state of.1 one.1 here in
    record {
      feed = of.0;
      fed = of.1;
      whole = are.whole s of.0 of.1;
      reads = record { plan = ap (λ (x : State). x.plan) at.state_is; length_read = at.number; list = ap (λ (x : State). x.list) at.state_is };
    }
