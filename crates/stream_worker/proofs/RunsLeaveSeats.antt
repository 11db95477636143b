-- What is left of the runs of all seats, and the board that they leave.
use Rattle.std.proofs.Common.{◌≡◌, ◌≢◌, ℕ, zero, suc, ◌<◌, ◌≤◌, List, [], ◌∷◌, ◌++◌, length, map, Option, Some, None, IsSome, slice_get, refl, sym, ap, subst, ◌∙◌, arith}
use Rattle.std.proofs.lemmas.Option.{same_Some, none-some, slice_get-map, slice_get_within}
use Rattle.std.specs.Prelude.{IsSomeAnd, MatchOption}
use Rattle.std.specs.Option.{option_or, option_map}
use Rattle.source_feed.specs.Planned.{FeedValue, IsFeed}
use Rattle.source_feed.specs.SoundGroups.{sound_groups}
use Rattle.list_laws.proofs.Places.{place_of}
use Rattle.source_feed.specs.Touches.{PreparedValue}
use Rattle.board_laws.specs.Meaning.{State, Meaning}
use Rattle.board_laws.specs.Lawful.{IsLawful}
use Rattle.board_laws.specs.Reading.{ReadsFeed, HasFeed}
use Rattle.board_laws.specs.Runs.{IsTouchedIn}
use Rattle.stream_worker.specs.declared.seat.Seat.{Seat}
use Rattle.stream_worker.specs.declared.shared.Shared.{Shared}
use Rattle.stream_worker.specs.declared.seat_run.Ran.{Ran}
use Rattle.apply_core.specs.declared.run_refusal.RunRefusal.{RunRefusal}
use Rattle.apply_core.specs.declared.run_refusal.RunRefusal.TheVariants.{FeedCount, WrongPlan, Unsound, OwnedByOther, Memory}
use Rattle.apply_core.specs.Ended.{HasEnded, IsFedBoard, AllHaveEnded}
use Rattle.stream_worker.specs.Knowing.{Laid}
use Rattle.stream_worker.specs.Rule.{StateGoesOn}
use Rattle.apply_core.specs.RunRefused.{BothTouch, EndsRun, IsLowest, refused_stream}
use Rattle.stream_worker.specs.SeatOf.{known, seat_state, IsSeatOf, AreSeatsOf, AreStatesOf, AllGoOnFromSeen, SawAsMany, IsOpened}
use Rattle.stream_worker.specs.Worked.{HasCome, MeetsRow, EndsSeat}
use Rattle.stream_worker.specs.Private.SeatRuns.{IsSeated, IsRan, AreSeated, AreRan, first_refusal}
use Rattle.stream_worker.proofs.PassesTakeSeats.{seat_saw}
use Rattle.apply_core.proofs.SoundEnds.{ended-sound}
use Rattle.apply_core.proofs.StreamsThatStandSo.{the-one}
use Rattle.apply_core.proofs.StreamsStillRead.{cut_front, read_touched}

-- ---- the first refusal

-- a refusal stands at a place, before which there is none
pub record IsFirstRefused (rans : List Ran) (refusal : RunRefusal) : Type 0 where
  pub place : ℕ
  pub ran : Ran
  pub there : slice_get rans place ≡ Some ran
  pub refused : ran.refusal ≡ Some refusal
  pub before : (k : ℕ) (other : Ran) → k < place → slice_get rans k ≡ Some other → other.refusal ≡ None

first-refused : (rans : List Ran) (refusal : RunRefusal) → first_refusal rans ≡ Some refusal → IsFirstRefused rans refusal
first-refused [] refusal h = absurd (none-some refusal h)
first-refused (ran ∷ later) refusal h = by (first-refused later refusal) ran.refusal refl h
  where
    at_front : (x : RunRefusal) → ran.refusal ≡ Some x → x ≡ refusal → IsFirstRefused (ran ∷ later) refusal
    at_front x e same = record { place = 0; ran = ran; there = refl; refused = e ∙ ap (λ (r : RunRefusal). Some r) same; before = λ k other less at. absurd (omega (arith, less)) }

    behind : ran.refusal ≡ None → IsFirstRefused later refusal → IsFirstRefused (ran ∷ later) refusal
    behind e rest = record { place = suc rest.place; ran = rest.ran; there = rest.there; refused = rest.refused; before = none }
      where
        none : (k : ℕ) (other : Ran) → k < suc rest.place → slice_get (ran ∷ later) k ≡ Some other → other.refusal ≡ None
        none zero other less at = ap (λ (r : Ran). r.refusal) (sym (same_Some ran other at)) ∙ e
        none (suc k) other less at = rest.before k other (omega (arith, less)) at

    by : (first_refusal later ≡ Some refusal → IsFirstRefused later refusal) → (o : Option RunRefusal) → ran.refusal ≡ o → option_or o (first_refusal later) ≡ Some refusal → IsFirstRefused (ran ∷ later) refusal
    by rest None e h = behind e (rest h)
    by rest (Some x) e h = at_front x e (same_Some x refusal h)

none-refused : (rans : List Ran) → first_refusal rans ≡ None → (k : ℕ) (ran : Ran) → slice_get rans k ≡ Some ran → ran.refusal ≡ None
none-refused [] h k ran at = absurd (none-some ran at)
none-refused (one ∷ later) h k ran at = by (none-refused later) one.refusal refl h k at
  where
    by : (first_refusal later ≡ None → (k : ℕ) (ran : Ran) → slice_get later k ≡ Some ran → ran.refusal ≡ None) → (o : Option RunRefusal) → one.refusal ≡ o → option_or o (first_refusal later) ≡ None → (k : ℕ) → slice_get (one ∷ later) k ≡ Some ran → ran.refusal ≡ None
    by rest (Some x) e h k at = absurd (none-some x (sym h))
    by rest None e h zero at = ap (λ (r : Ran). r.refusal) (sym (same_Some one ran at)) ∙ e
    by rest None e h (suc k) at = rest h k ran at

-- the first refusal, with one run more
pub first_refusal-more : (rans : List Ran) (ran : Ran) → first_refusal (rans ++ ran ∷ []) ≡ option_or (first_refusal rans) ran.refusal
first_refusal-more [] ran = by ran.refusal
  where
    by : (o : Option RunRefusal) → option_or o None ≡ o
    by None = refl
    by (Some x) = refl
first_refusal-more (one ∷ later) ran = by one.refusal (first_refusal-more later ran)
  where
    by : (o : Option RunRefusal) → first_refusal (later ++ ran ∷ []) ≡ option_or (first_refusal later) ran.refusal → option_or o (first_refusal (later ++ ran ∷ [])) ≡ option_or (option_or o (first_refusal later)) ran.refusal
    by None rest = rest
    by (Some x) rest = refl

-- ---- the seats that are left

abbrev seats_of : List Ran → List Seat
seats_of rans = map (λ (ran : Ran). ran.seat) rans

seat-at : (rans : List Ran) (k : ℕ) (ran : Ran) → slice_get rans k ≡ Some ran → slice_get (seats_of rans) k ≡ Some ran.seat
seat-at rans k ran at = slice_get-map (λ (r : Ran). r.seat) rans k ∙ ap (option_map (λ (r : Ran). r.seat)) at

of-seat : (rans : List Ran) (k : ℕ) (seat : Seat) → slice_get (seats_of rans) k ≡ Some seat → (ran : Ran) × (slice_get rans k ≡ Some ran) × (ran.seat ≡ seat)
of-seat rans k seat at = by (slice_get rans k) refl (sym (slice_get-map (λ (r : Ran). r.seat) rans k) ∙ at)
  where
    by : (o : Option Ran) → slice_get rans k ≡ o → option_map (λ (r : Ran). r.seat) o ≡ Some seat → (ran : Ran) × (slice_get rans k ≡ Some ran) × (ran.seat ≡ seat)
    by None e h = absurd (none-some seat h)
    by (Some ran) e h = (ran, e, same_Some ran.seat seat h)

pub left-seats : (shared : Shared) (feeds : List FeedValue) (rans : List Ran) → AreRan shared feeds rans → AreSeatsOf shared (seats_of rans)
left-seats shared feeds rans ran k seat at =
    let one : (r : Ran) × (slice_get rans k ≡ Some r) × (r.seat ≡ seat) = of-seat rans k seat at in
    let is : IsRan shared feeds k one.0 = ran k one.0 one.1 in
    subst (λ (x : Seat). IsSeatOf shared x × (x.stream ≡ k)) one.2 (is.seated.at_board, is.stream)

-- ---- what opening gives

pub opened-seated : (feeds : List FeedValue) (board : Meaning) (fed : IsFedBoard feeds board) (shared : Shared) (seats : List Seat) → IsOpened board.streams shared seats
    → AreSeated shared feeds seats
opened-seated feeds board fed shared seats opened k seat at =
    let less : k < length seats = slice_get_within seats k seat at in
    let here : (state : State) × (slice_get board.streams k ≡ Some state) = place_of board.streams k (omega (arith, less, opened.count)) in
    let has : HasFeed feeds k here.0 = fed.reads k here.0 here.1 in
    let own : IsSeatOf shared seat × (seat.stream ≡ k) = opened.each k seat at in
    let state : seat_state seat ≡ Some here.0 = sym (opened.states k seat at) ∙ ap (slice_get board.streams) own.1 ∙ here.1 in
    let seated : IsSeated shared feeds seat
    = record {
      at_board = own.0;
      feed = has.feed;
      fed = ap (slice_get feeds) own.1 ∙ has.fed;
      follows = subst (λ (o : Option State). IsSomeAnd o (ReadsFeed has.feed)) (sym state) has.reads;
      many = λ laid saw. opened.many k seat laid at saw ∙ fed.count;
    } in
    (seated, own.1)

-- ---- the board that is left

module _ (feeds : List FeedValue) (old : Meaning) (fed : IsFedBoard feeds old) (shared : Shared) (rans : List Ran) (count : length rans ≡ length feeds) (ran : AreRan shared feeds rans)
    (board : Meaning) (lawful : IsLawful board) (states : AreStatesOf (seats_of rans) board.streams) (seen : AllGoOnFromSeen (seats_of rans) board.streams) (many : SawAsMany (seats_of rans) (length board.streams)) where
  -- the feed of a number is whole
  whole : (k : ℕ) (feed : FeedValue) → slice_get feeds k ≡ Some feed → IsFeed feed
  whole k feed at =
      let less : k < length feeds = slice_get_within feeds k feed at in
      let here : (state : State) × (slice_get old.streams k ≡ Some state) = place_of old.streams k (omega (arith, less, fed.count)) in
      let has : HasFeed feeds k here.0 = fed.reads k here.0 here.1 in
      subst IsFeed (same_Some has.feed feed (sym has.fed ∙ at)) has.whole

  -- the board has a stream for each feed
  streams-count : length board.streams ≡ length feeds
  streams-count =
      let first : (r : Ran) × (slice_get rans 0 ≡ Some r) = place_of rans 0 (let some : 1 ≤ length old.streams = fed.lawful.some in omega (arith, some, fed.count, count)) in
      by first.0 first.1 (known first.0.seat).seen refl (seat_saw first.0.seat)
    where
      by : (r : Ran) → slice_get rans 0 ≡ Some r → (o : Option Laid) → (known r.seat).seen ≡ o → IsSome o → length board.streams ≡ length feeds
      by r at None e some = absurd cc
      by r at (Some laid) e some = sym (many 0 r.seat laid (seat-at rans 0 r at) e) ∙ (ran 0 r at).seated.many laid e

  -- the seat of a stream knows its state
  record Sits (s : ℕ) (state : State) : Type 0 where
    one : Ran
    there : slice_get rans s ≡ Some one
    knows : seat_state one.seat ≡ Some state

  sits : (s : ℕ) (state : State) → slice_get board.streams s ≡ Some state → Sits s state
  sits s state at =
      let less : s < length board.streams = slice_get_within board.streams s state at in
      let one : (r : Ran) × (slice_get rans s ≡ Some r) = place_of rans s (omega (arith, less, streams-count, count)) in
      record {
        one = one.0;
        there = one.1;
        knows = sym (states s one.0.seat (seat-at rans s one.0 one.1)) ∙ ap (slice_get board.streams) (ran s one.0 one.1).stream ∙ at;
      }

  follows-here : (seat : Seat) (state : State) (P : State → Type 0) → seat_state seat ≡ Some state → IsSomeAnd (seat_state seat) P → P state
  follows-here seat state P is h =
      let one : (x : State) × (seat_state seat ≡ Some x) × P x = the-one (seat_state seat) P h in
      subst P (same_Some one.0 state (sym one.1 ∙ is)) one.2

  reads : (s : ℕ) (state : State) → slice_get board.streams s ≡ Some state → HasFeed feeds s state
  reads s state at =
      let sit : Sits s state = sits s state at in
      let is : IsRan shared feeds s sit.one = ran s sit.one sit.there in
      let reading : ReadsFeed is.seated.feed state = follows-here sit.one.seat state (ReadsFeed is.seated.feed) sit.knows is.seated.follows in
      let fed_here : slice_get feeds s ≡ Some is.seated.feed = ap (slice_get feeds) (sym is.stream) ∙ is.seated.fed in
      record {
        feed = is.seated.feed;
        fed = fed_here;
        whole = whole s is.seated.feed fed_here;
        reads = reading;
      }

  pub left-fed : IsFedBoard feeds board
  left-fed = record { lawful = lawful; count = streams-count; reads = reads }

  -- a seat that isn't refused has come to its feed's end
  come : (k : ℕ) (one : Ran) (at : slice_get rans k ≡ Some one) → one.refusal ≡ None → HasCome (ran k one at).seated.feed one.seat
  come k one at none = subst (λ (o : Option RunRefusal). MatchOption o (HasCome (ran k one at).seated.feed one.seat) (EndsSeat (ran k one at).seated.feed one.seat)) none (ran k one at).outcome

  pub left-ended : first_refusal rans ≡ None → AllHaveEnded feeds board
  left-ended none s feed state at_f at_s =
      let sit : Sits s state = sits s state at_s in
      let is : IsRan shared feeds s sit.one = ran s sit.one sit.there in
      let same : is.seated.feed ≡ feed = same_Some is.seated.feed feed (sym is.seated.fed ∙ ap (slice_get feeds) is.stream ∙ at_f) in
      subst (λ (f : FeedValue). HasEnded f state) same
      (follows-here sit.one.seat state (HasEnded is.seated.feed) sit.knows (come s sit.one sit.there (none-refused rans none s sit.one sit.there)))

  -- ---- a refusal

  -- a row that a seat met stands at a key that its feed and the owner's touch
  met : (k : ℕ) (one : Ran) (at : slice_get rans k ≡ Some one) (stream : ℕ) (key : _) (owner : ℕ) → one.seat.stream ≡ stream → MeetsRow (ran k one at).seated.feed (known one.seat) one.seat.stream key owner
      → BothTouch feeds stream owner key
  met k one at stream key owner same row =
      let is : IsRan shared feeds k one = ran k one at in
      let later : (x : State) × (slice_get board.streams owner ≡ Some x) × StateGoesOn row.state x = the-one (slice_get board.streams owner) (StateGoesOn row.state) (seen k one.seat row.laid (seat-at rans k one at) row.seen owner row.state row.there) in
      let has : HasFeed feeds owner later.0 = reads owner later.0 later.1 in
      let theirs : IsTouchedIn (sound_groups has.feed) key
      = read_touched has.feed later.0 row.state.applied key has.reads
      (subst (λ (groups : List PreparedValue). IsTouchedIn groups key) (sym later.2.groups) (cut_front row.state key row.row row.cut)) in (
        subst (λ n. owner ≢ n) same row.other,
        record { feed = is.seated.feed; fed = ap (slice_get feeds) (sym same) ∙ is.seated.fed; touched = row.touched },
        record { feed = has.feed; fed = has.fed; touched = theirs },
      )

  refused : (k : ℕ) (one : Ran) (at : slice_get rans k ≡ Some one) (refusal : RunRefusal) → EndsSeat (ran k one at).seated.feed one.seat refusal → EndsRun feeds refusal
  refused k one at FeedCount h = h
  refused k one at WrongPlan h = h
  refused k one at (Unsound stream fault) h = record { feed = (ran k one at).seated.feed; fed = ap (slice_get feeds) h.0 ∙ (ran k one at).seated.fed; first = h.1 }
  refused k one at (OwnedByOther stream key owner) h = met k one at stream key owner (sym h.0) h.1
  refused k one at Memory h = tt

  first-ends : (refusal : RunRefusal) (first : IsFirstRefused rans refusal) → EndsSeat (ran first.place first.ran first.there).seated.feed first.ran.seat refusal
  first-ends refusal first =
      subst (λ (o : Option RunRefusal). MatchOption o (HasCome (ran first.place first.ran first.there).seated.feed first.ran.seat) (EndsSeat (ran first.place first.ran first.there).seated.feed first.ran.seat)) first.refused
      (ran first.place first.ran first.there).outcome

  pub left-refused : (refusal : RunRefusal) → first_refusal rans ≡ Some refusal → EndsRun feeds refusal
  left-refused refusal h =
      let first : IsFirstRefused rans refusal = first-refused rans refusal h in
      refused first.place first.ran first.there refusal (first-ends refusal first)

  -- a feed whose seat has come to its end is sound
  come-sound : (k : ℕ) (one : Ran) (at : slice_get rans k ≡ Some one) → one.refusal ≡ None → length (sound_groups (ran k one at).seated.feed) ≡ length (ran k one at).seated.feed.groups
  come-sound k one at none =
      let is : IsRan shared feeds k one = ran k one at in
      let reads : (x : State) × (seat_state one.seat ≡ Some x) × ReadsFeed is.seated.feed x = the-one (seat_state one.seat) (ReadsFeed is.seated.feed) is.seated.follows in
      ended-sound is.seated.feed reads.0 reads.2 (follows-here one.seat reads.0 (HasEnded is.seated.feed) reads.1 (come k one at none))

  lower : (refusal : RunRefusal) (first : IsFirstRefused rans refusal) (s : ℕ) → s ≡ first.ran.seat.stream → (t : ℕ) (feed : FeedValue) → t < s → slice_get feeds t ≡ Some feed
      → length (sound_groups feed) ≡ length feed.groups
  lower refusal first s is t feed less at =
      let place : first.ran.seat.stream ≡ first.place = (ran first.place first.ran first.there).stream in
      let within : first.place < length rans = slice_get_within rans first.place first.ran first.there in
      let before : t < first.place = omega (arith, less, is, place) in
      let one : (r : Ran) × (slice_get rans t ≡ Some r) = place_of rans t (omega (arith, before, within)) in
      let here : IsRan shared feeds t one.0 = ran t one.0 one.1 in
      let same : here.seated.feed ≡ feed = same_Some here.seated.feed feed (sym here.seated.fed ∙ ap (slice_get feeds) here.stream ∙ at) in
      subst (λ (f : FeedValue). length (sound_groups f) ≡ length f.groups) same (come-sound t one.0 one.1 (first.before t one.0 before one.1))

  pub left-lowest : (refusal : RunRefusal) → first_refusal rans ≡ Some refusal → IsLowest feeds refusal
  left-lowest FeedCount h = tt
  left-lowest WrongPlan h = tt
  left-lowest (Unsound stream fault) h =
      let first : IsFirstRefused rans (Unsound stream fault) = first-refused rans (Unsound stream fault) h in
      lower (Unsound stream fault) first stream (first-ends (Unsound stream fault) first).0
  left-lowest (OwnedByOther stream key owner) h =
      let first : IsFirstRefused rans (OwnedByOther stream key owner) = first-refused rans (OwnedByOther stream key owner) h in
      lower (OwnedByOther stream key owner) first stream (first-ends (OwnedByOther stream key owner) first).0
  left-lowest Memory h = tt
