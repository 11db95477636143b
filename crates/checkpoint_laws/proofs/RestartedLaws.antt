-- What is kept of a board and feeds that begin with its applied groups make the board after a restart of each stream.
use Rattle.std.proofs.Common.{◌≡◌, ℕ, zero, suc, ◌+◌, ◌≤◌, cond, List, [], ◌∷◌, length, map, take, min, Option, Some, None, slice_get, refl, sym, ap, subst, ◌∙◌, arith}
use Rattle.std.proofs.lemmas.List.{length-map, length-take, length-take-le}
use Rattle.std.proofs.lemmas.Option.{same_Some, none-some, slice_get-map}
use Rattle.std.specs.List.{filter, filter_map}
use Rattle.std.specs.Option.{option_map, option_and_then}
use Rattle.list_laws.proofs.Places.{no_place}
use Rattle.pk_copy.specs.KeyOrder.{key_cmp}
use Rattle.pk_copy.specs.KeyValue.{KeyValue}
use Rattle.pk_copy.specs.Marks.{is_inside}
use Rattle.target_tables.specs.Touches.{last_at}
use Rattle.source_feed.specs.History.{RowValue, touches_in, passing, kept_of}
use Rattle.source_feed.specs.Image.{ImageRows}
use Rattle.source_feed.specs.Planned.{FeedValue, IsFeed}
use Rattle.source_feed.specs.Positions.{IsNumberAt}
use Rattle.source_feed.specs.SoundGroups.{sound_groups}
use Rattle.source_feed.specs.Touches.{PreparedValue}
use Rattle.source_feed.proofs.PositionLaws.{one_number}
use Rattle.board_laws.specs.Allowed.{last_position}
use Rattle.board_laws.specs.Cut.{cut_of}
use Rattle.board_laws.specs.Event.{restart}
use Rattle.board_laws.specs.KeptRows.{touched_keys, kept_row}
use Rattle.board_laws.specs.Lawful.{IsLawful}
use Rattle.board_laws.specs.Meaning.{State, TargetRows, Meaning}
use Rattle.board_laws.specs.StateAfter.{state_after}
use Rattle.board_laws.proofs.History.{passed_at-take}
use Rattle.board_laws.proofs.Lists.{take-take}
use Rattle.board_laws.proofs.Lookups.{Ties}
use Rattle.board_laws.proofs.Sources.{known_at}
use Rattle.board_laws.specs.Compatible.{AreApart}
use Rattle.board_laws.specs.Joined.{cut_rows, with_rows, rows_from, board_of}
use Rattle.board_laws.proofs.JoinedBoards.{of_its_states}
use Rattle.checkpoint_laws.specs.Saved.{SavedStream, saved_stream, saved_from, saved_of}
use Rattle.checkpoint_laws.specs.Resumed.{resumed_state, IsResumedAt, AreResumed, IsResumedBoard}
use Rattle.checkpoint_laws.specs.Laws.{AreFeeds, restarted, BeginsWithApplied, BeginWithApplied, RestartedBoardsAreResumed}
use Rattle.checkpoint_laws.proofs.OwnRows.{own-is_cut}
use Rattle.checkpoint_laws.proofs.ResumedLaws.{at_same_place}

-- ---- a restart

abbrev again : State → State
again state = state_after state restart

cut_again : (state : State) (key : KeyValue) → cut_of (again state) key ≡ cut_of state key
cut_again state key = ap (λ (o : Option RowValue). cond (is_inside state.marks key) (option_map (kept_of state.plan key) o) None) (passed_at-take state.list state.applied key)

abbrev rows_behind : List PreparedValue → ImageRows
rows_behind groups =
    filter_map (λ (key : KeyValue). option_map (λ (row : RowValue). (key, row)) (option_and_then passing (option_and_then (λ put. put) (last_at key_cmp (touches_in groups) key))))
    (touched_keys (touches_in groups))

rows_again : (state : State) → cut_rows (again state) ≡ cut_rows state
rows_again state = ap (λ (groups : List PreparedValue). filter (λ row. is_inside state.marks row.0) (map (kept_row state.plan) (rows_behind groups))) (take-take state.applied state.list)

all_again : (s : ℕ) (states : List State) → rows_from s (map again states) ≡ rows_from s states
all_again s [] = refl
all_again s (state ∷ later) = λ i. with_rows s (rows_again state i) (all_again (s + 1) later i)

-- a stream of restarted ones
record WasBefore (states : List State) (s : ℕ) (state : State) : Type 0 where
  old : State
  here : slice_get states s ≡ Some old
  is : again old ≡ state

was_before : (states : List State) (s : ℕ) (state : State) → slice_get (map again states) s ≡ Some state → WasBefore states s state
was_before states s state e = by (slice_get states s) refl (sym (slice_get-map again states s) ∙ e)
  where
    by : (o : Option State) → slice_get states s ≡ o → option_map again (slice_get states s) ≡ Some state → WasBefore states s state
    by None here h = absurd (none-some state (sym (ap (option_map again) here) ∙ h))
    by (Some old) here h = record { old = old; here = here; is = same_Some (again old) state (sym (ap (option_map again) here) ∙ h) }

apart_again : (states : List State) → AreApart states → AreApart (map again states)
apart_again states apart s t x y key p q c d =
    let one : WasBefore states s x = was_before states s x p in
    let other : WasBefore states t y = was_before states t y q in
    apart s t one.old other.old key one.here other.here (λ n. c (ap (λ (z : State). cut_of z key) (sym one.is) ∙ cut_again one.old key ∙ n))
    (λ n. d (ap (λ (z : State). cut_of z key) (sym other.is) ∙ cut_again other.old key ∙ n))

-- ---- what is kept of each stream

pub saved_at : (k : ℕ) (streams : List State) (rows : TargetRows) (i : ℕ) (state : State) → slice_get streams i ≡ Some state → slice_get (saved_from k streams rows) i ≡ Some (saved_stream (k + i) state rows)
saved_at k [] rows i state e = no_place i state e
saved_at k (x ∷ streams) rows zero state e =
    let zero_more : k + 0 ≡ k = omega arith in
    ap (λ (z : State). Some (saved_stream k z rows)) (same_Some x state e) ∙ ap (λ n. Some (saved_stream n state rows)) (sym zero_more)
saved_at k (x ∷ streams) rows (suc i) state e =
    let more : k + 1 + i ≡ k + suc i = omega arith in
    saved_at (k + 1) streams rows i state e ∙ ap (λ n. Some (saved_stream n state rows)) more

pub saved_long : (k : ℕ) (streams : List State) (rows : TargetRows) → length (saved_from k streams rows) ≡ length streams
saved_long k [] rows = refl
saved_long k (x ∷ streams) rows = ap suc (saved_long (k + 1) streams rows)

-- ---- lists that are equal at every place

pub same_at_places : {A : Type 0} (xs ys : List A) → length xs ≡ length ys → ((i : ℕ) (x y : A) → slice_get xs i ≡ Some x → slice_get ys i ≡ Some y → x ≡ y) → xs ≡ ys
same_at_places [] [] long same = refl
same_at_places [] (y ∷ ys) long same = let clash : 0 ≡ suc (length ys) = long in absurd (omega (arith, clash))
same_at_places (x ∷ xs) [] long same = let clash : suc (length xs) ≡ 0 = long in absurd (omega (arith, clash))
same_at_places (x ∷ xs) (y ∷ ys) long same =
    let rest : suc (length xs) ≡ suc (length ys) = long in
    let first : x ≡ y = same 0 x y refl refl in
    let later : xs ≡ ys = same_at_places xs ys (omega (arith, rest)) (λ i p q e f. same (suc i) p q e f) in
    λ i. first i ∷ later i

-- ---- the board

module _ (ties : Ties) (feeds : List FeedValue) (board : Meaning) (are : AreFeeds feeds) (lawful : IsLawful board) (begins : BeginWithApplied feeds board) where
  module _ (s : ℕ) (feed : FeedValue) (state : State) (fed : slice_get feeds s ≡ Some feed) (here : slice_get board.streams s ≡ Some state) where
    begin : BeginsWithApplied feed state
    begin = begins.each_stream s feed state fed here

    applied : state.applied ≤ length state.list
    applied = (lawful.sound s state here).standing.applied

    fits : state.applied ≤ length (sound_groups feed)
    fits =
        let front : length (take state.applied state.list) ≡ state.applied = length-take-le state.applied state.list applied in
        let other : length (take state.applied (sound_groups feed)) ≡ min state.applied (length (sound_groups feed)) = length-take state.applied (sound_groups feed) in
        let same : length (take state.applied state.list) ≡ length (take state.applied (sound_groups feed)) = ap length begin.applied in
        omega (arith, front, other, same)

    resumed_at : IsResumedAt feed (saved_stream s state board.rows) (again state)
    resumed_at = record {
      number = state.applied;
      known = subst (λ p. IsNumberAt feed p state.applied) (ap last_position (sym begin.applied)) (known_at feed state.applied fits);
      sound = fits;
      state_is = λ i. record { plan = begin.plan i; list = begin.applied i; applied = state.applied; marks = state.marks; snapshot = None };
    }

  long : length (map again board.streams) ≡ length feeds
  long = length-map board.streams again ∙ sym begins.count

  -- what is kept of a stream is kept of the one before the restart
  kept_is : (s : ℕ) (one : SavedStream) (old : State) → slice_get board.streams s ≡ Some old → slice_get (saved_of board) s ≡ Some one → saved_stream s old board.rows ≡ one
  kept_is s one old here kept =
      let none_more : 0 + s ≡ s = omega arith in
      ap (λ n. saved_stream n old board.rows) (sym none_more) ∙ same_Some (saved_stream (0 + s) old board.rows) one (sym (saved_at 0 board.streams board.rows s old here) ∙ kept)

  states_resumed : AreResumed feeds (saved_of board) (map again board.streams)
  states_resumed = record {
    count = long;
    same_count = saved_long 0 board.streams board.rows ∙ sym begins.count;
    each_stream = λ s feed one state fed kept here.
        let was : WasBefore board.streams s state = was_before board.streams s state here in
        subst (λ x. IsResumedAt feed x state) (kept_is s one was.old was.here kept)
        (subst (IsResumedAt feed (saved_stream s was.old board.rows)) was.is (resumed_at s feed was.old fed was.here));
  }

  restarted_is : restarted board ≡ board_of (map again board.streams)
  restarted_is =
      let rows : board.rows ≡ rows_from 0 board.streams = ap (λ (b : Meaning). b.rows) (of_its_states ties board lawful).1 in
      ap (λ (rows : TargetRows). record { streams = map again board.streams; rows = rows }) (rows ∙ sym (all_again 0 board.streams))

  pub restarted-resumed : IsResumedBoard feeds (saved_of board) (restarted board)
  restarted-resumed = record {
    states = states_resumed;
    agree = λ s one state kept here.
        let was : WasBefore board.streams s state = was_before board.streams s state here in
        ap (λ (x : SavedStream). x.rows) (sym (kept_is s one was.old was.here kept))
        ∙ own-is_cut ties board lawful s was.old was.here
        ∙ sym (rows_again was.old)
        ∙ ap cut_rows was.is;
    apart = apart_again board.streams (of_its_states ties board lawful).0;
    is = restarted_is;
  }

  -- the same states, by the numbers at their positions
  same_state : (feed : FeedValue) (one : SavedStream) (x y : State) → IsFeed feed → IsResumedAt feed one x → IsResumedAt feed one y → x ≡ y
  same_state feed one x y whole p q =
      p.state_is ∙ ap (resumed_state feed one.marks) (one_number feed whole one.position p.number q.number p.known q.known) ∙ sym q.state_is

  pub no_other : (other : Meaning) → IsResumedBoard feeds (saved_of board) other → other ≡ restarted board
  no_other other made =
      let states : other.streams ≡ map again board.streams
      = same_at_places other.streams (map again board.streams) (made.states.count ∙ sym long) (λ i x y p q.
      let feed : (feed : FeedValue) × (slice_get feeds i ≡ Some feed) = at_same_place other.streams feeds i x made.states.count p in
      let one : (one : SavedStream) × (slice_get (saved_of board) i ≡ Some one) = at_same_place feeds (saved_of board) i feed.0 (sym made.states.same_count) feed.1 in
      same_state feed.0 one.0 x y (are.whole i feed.0 feed.1) (made.states.each_stream i feed.0 one.0 x feed.1 one.1 p) (states_resumed.each_stream i feed.0 one.0 y feed.1 one.1 q)) in
      made.is ∙ ap board_of states ∙ sym restarted_is

pub restarted_boards : Ties → RestartedBoardsAreResumed
restarted_boards ties feeds board are lawful begins = (restarted-resumed ties feeds board are lawful begins, no_other ties feeds board are lawful begins)
