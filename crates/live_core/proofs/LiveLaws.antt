-- A board that goes on, and what is true of it.
use Rattle.std.proofs.Common.{◌≡◌, ◌==◌, ℕ, ◌<◌, ◌≤◌, inl, inr, Bool, true, List, ◌++◌, length, map, take, drop, Option, Some, None, Ok, slice_get, refl, sym, ap, subst, ◌∙◌, arith}
use Rattle.std.proofs.lemmas.List.{length-map, take-append-le, take_all}
use Rattle.std.proofs.lemmas.Option.{none-some, slice_get_past, slice_get_cases, slice_get_within, slice_get-map}
use borrow.Author.Tests.{eq-eqb}
use Rattle.std.specs.Prelude.{IfSome}
use Rattle.list_laws.proofs.Choices.{mapped}
use Rattle.list_laws.proofs.Places.{place_of}
use Rattle.stream_core.specs.declared.phase.Phase.TheVariants.{Running}
use Rattle.stream_core.specs.Standing.{phase_of}
use Rattle.source_feed.specs.Planned.{FeedValue, groups_under}
use Rattle.board_laws.specs.FedBoards.{IsFedBoard}
use Rattle.board_laws.specs.Lawful.{standing_of, IsLawful}
use Rattle.board_laws.specs.Meaning.{State, Meaning}
use Rattle.board_laws.specs.Sources.{ShowAll}
use Rattle.apply_core.specs.Ended.{AllHaveEnded}
use Rattle.apply_core.proofs.PhasesTellNumbers.{running-done}
use Rattle.change_laws.specs.Laws.{MovesGoOn, BoardsGoOnAndOn, BoardsStandStill}
use Rattle.change_laws.specs.Since.{HasGoneOn, HaveGoneOn, HasMoved}
use Rattle.live_core.specs.declared.source.Source.{Source}
use Rattle.live_core.specs.Live.{AreOfSources, AreRunning, HasGoneOnFrom, LiveValue, IsLive}
use Rattle.live_core.specs.Private.Kept.{IsKept}
use Rattle.live_core.specs.Source.{bytes_of}

-- ---- streams that have copied all

done-running : (state : State) → state.marks.done ≡ state.marks.tables → phase_of (standing_of state) ≡ Running
done-running state e = unstick (state.marks.done == state.marks.tables) refl (eq-eqb state.marks.done state.marks.tables e)
  where
    unstick : (b : Bool) → (state.marks.done == state.marks.tables) ≡ b → b ≡ true → phase_of (standing_of state) ≡ Running
    unstick b is true_one = rw (is ∙ true_one) refl

-- still have where they go on
pub running-still : (old new : Meaning) → HaveGoneOn old new → AreRunning old → AreRunning new
running-still old new gone running s state here =
    elim (slice_get_cases old.streams s).1 [
      | inl there ↦
          let one : HasGoneOn there.0 state = gone.each s there.0 state there.2 here in
          let done : there.0.marks.done ≡ there.0.marks.tables = running-done (standing_of there.0) (running s there.0 there.2) in
          done-running state (ap (λ m. m.done) one.marks ∙ done ∙ ap (λ m. m.tables) (sym one.marks))
      | inr past ↦
          let fits : length new.streams ≤ s = subst (λ n. n ≤ s) (sym gone.count) past.0 in
          absurd (none-some state (sym (slice_get_past new.streams s fits) ∙ here))
    ]

-- ---- what is kept

-- where the board has moved
pub kept-moved : MovesGoOn → BoardsGoOnAndOn → (feeds : List FeedValue) (old new : Meaning) (sources : List Source) (told : Option Meaning) → IsLawful old → HasMoved feeds old new → IsKept feeds old sources told
    → IsKept feeds new sources told
kept-moved moves again feeds old new sources told lawful moved kept =
    let gone : HaveGoneOn old new = moves feeds old new lawful moved in
    record {
      count = kept.count;
      known = kept.known;
      running = running-still old new gone kept.running;
      since = by told gone kept.since;
    }
  where
    by : (o : Option Meaning) → HaveGoneOn old new → IfSome o (HasGoneOnFrom old) → IfSome o (HasGoneOnFrom new)
    by None gone h = tt
    by (Some board) gone h = record { lawful = h.lawful; gone = again board old new h.gone gone }

-- the same by the feeds that there were
pub kept-further : MovesGoOn → BoardsGoOnAndOn → (feeds list : List FeedValue) (old new : Meaning) (sources : List Source) (told : Option Meaning) → list ≡ feeds → IsLawful old → HasMoved feeds old new
    → IsKept feeds old sources told → IsKept list new sources told
kept-further moves again feeds list old new sources told same lawful moved kept =
    subst (λ (l : List FeedValue). IsKept l new sources told) (sym same) (kept-moved moves again feeds old new sources told lawful moved kept)

-- where it is told
pub kept-told : BoardsStandStill → (feeds : List FeedValue) (board : Meaning) (sources : List Source) (told : Option Meaning) → IsLawful board → IsKept feeds board sources told → IsKept feeds board sources (Some board)
kept-told still feeds board sources told lawful kept = record {
  count = kept.count;
  known = kept.known;
  running = kept.running;
  since = record { lawful = lawful; gone = (still feeds board).0 };
}

-- where feeds and their sources have grown
pub kept-grown : (feeds new_feeds : List FeedValue) (board new_board : Meaning) (sources new : List Source) (told : Option Meaning) → new_board ≡ board → IsKept feeds board sources told → length new ≡ length new_feeds
    → AreOfSources new_feeds new → IsKept new_feeds new_board new told
kept-grown feeds new_feeds board new_board sources new told same kept count known = record {
  count = count;
  known = known;
  running = subst AreRunning (sym same) kept.running;
  since = subst (λ (b : Meaning). IfSome told (HasGoneOnFrom b)) (sym same) kept.since;
}

-- what a loan of the sources writes back
pub refilled-sources : (n : ℕ) (items new : List Source) → length new ≡ n → take n (new ++ drop (length new) items) ≡ new
refilled-sources n items new same = take-append-le n new (drop (length new) items) (omega (arith, same)) ∙ take_all n new (omega (arith, same))

-- so it shows its sources
pub kept-live : (live : LiveValue) (sources : List Source) → live.bytes ≡ map bytes_of sources → ShowAll live.fed.feeds live.fed.board → IsKept live.fed.feeds live.fed.board sources live.told → IsLive live
kept-live live sources are shows kept = record {
  shows = shows;
  count = ap (λ (l : List (List ℕ)). length l) are ∙ length-map sources bytes_of ∙ kept.count;
  bytes = λ s feed bytes fed there.
      let one : (source : Source) × (slice_get sources s ≡ Some source) × (bytes_of source ≡ bytes)
      = mapped bytes_of (slice_get sources s) bytes (sym (slice_get-map bytes_of sources s) ∙ ap (λ (l : List (List ℕ)). slice_get l s) (sym are) ∙ there) in
      subst (λ (b : List ℕ). groups_under b feed.plan ≡ Ok feed.groups) one.2 (kept.known s feed one.0 fed one.1).end.groups;
  running = kept.running;
}

-- ---- boards that have ended

pub ended-run : (feeds : List FeedValue) (board : Meaning) → IsFedBoard feeds board → AllHaveEnded feeds board → AreRunning board
ended-run feeds board fed ended s state here =
    let fits : s < length feeds = omega (arith, slice_get_within board.streams s state here, fed.count) in
    let there : (feed : FeedValue) × (slice_get feeds s ≡ Some feed) = place_of feeds s fits in
    (ended s there.0 state there.1 here).running
