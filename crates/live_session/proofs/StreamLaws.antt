-- A stream is told as it stands.
use denote.Ref.{Bor}
use Rattle.std.proofs.Common.{◌≡◌, ℕ, ◌<◌, List, [], length, get_or, Option, Some, None, slice_get, subst, refl, sym, ap, ◌∙◌, arith}
use Rattle.std.specs.Prelude.{IsSomeAnd, option_map}
use Rattle.std.specs.Option.{option_copied, option_map_or}
use Rattle.std.proofs.lemmas.Option.{slice_get_read, slice_get_within}
use Rattle.list_laws.proofs.Places.{place_of}
use Rattle.filter_rule.specs.PlanTable.{TableValue}
use Rattle.filter_rule.specs.PlanValue.{PlanValue}
use Rattle.gtid_set.specs.declared.interval.Interval.{Interval}
use Rattle.stream_core.specs.Standing.{Standing, phase_of}
use Rattle.source_feed.specs.GroupValue.{Position}
use Rattle.source_feed.specs.Planned.{FeedValue}
use Rattle.board_laws.specs.Lawful.{standing_of}
use Rattle.board_laws.specs.FedBoards.{Fed}
use Rattle.board_laws.specs.Meaning.{Meaning, State}
use Rattle.board_laws.specs.Sources.{applied_position}
use Rattle.live_core.specs.Live.{IsLive, LiveValue}
use Rattle.pk_copy.specs.Marks.{MarkValue}
use Rattle.live_json.specs.Answers.{CopiedValue, StreamValue, position_text}
use Rattle.live_session.specs.Sessions.{AreCopied, IsPositionTold, IsTold}
use Rattle.live_session.specs.Stops.{refusal_of}
use Rattle.live_session.specs.declared.seat.Seat.{Seat}

-- ---- tables

-- what is true of what may be there is true of what is there
pub some-at : {A : Type 0} (P : A → Type 0) (o : Option A) (x : A) → o ≡ Some x → IsSomeAnd o P → P x
some-at {A} P o x is h = subst (λ (o : Option A). IsSomeAnd o P) is h

-- how far a table is copied, by its name and its mark
abbrev pub told_copied : List ℕ → MarkValue → CopiedValue
told_copied name mark = record { table = name; mark = mark }

pub copied-as : (told name : List ℕ) (mark other : MarkValue) → told ≡ name → mark ≡ other → told_copied told mark ≡ told_copied name other
copied-as told name mark other same alike = ap (λ (n : List ℕ). told_copied n mark) same ∙ ap (λ (m : MarkValue). told_copied name m) alike

-- ---- streams

there-is : {A : Type 0} (P : A → Type 0) (o : Option A) → IsSomeAnd o P → (x : A) × (o ≡ Some x) × P x
there-is P (Some x) h = (x, refl, h)
there-is P None h = absurd h

position-told : (position : Option (Bor (List Interval))) (applied : Position) (told : Option (List ℕ)) → option_map_or (λ set. set.now) position [] ≡ applied → told ≡ option_map position_text (option_copied position) → IsPositionTold applied told
position-told None applied told is said = subst (λ (text : Option (List ℕ)). IsPositionTold applied text) (sym said) (sym is)
position-told (Some set) applied told is said = subst (λ (text : Option (List ℕ)). IsPositionTold applied text) (sym said) (ap position_text is)

told-of : (live : LiveValue) (s : ℕ) (seat : Seat) (told : StreamValue) (feed : FeedValue) (at : Standing) (position : Option (Bor (List Interval))) → IsLive live → slice_get live.fed.feeds s ≡ Some feed
    → IsSomeAnd (slice_get live.fed.board.streams s) (λ state. at ≡ standing_of state) → IsSomeAnd (slice_get live.fed.board.streams s) (λ state. option_map_or (λ set. set.now) position [] ≡ applied_position state)
    → told.stream ≡ s → told.phase ≡ phase_of at → told.read ≡ at.read → told.applied ≡ at.applied → told.groups ≡ length feed.groups → told.bytes ≡ option_map_or (λ bytes. length bytes) (slice_get live.bytes s) 0 → told.tail ≡ seat.tail
    → told.position ≡ option_map position_text (option_copied position) → ((state : State) → slice_get live.fed.board.streams s ≡ Some state → AreCopied state.marks feed.plan.tables told.marks)
    → told.refused ≡ refusal_of feed.plan.tables seat.step seat.stopped → IsTold live s seat told
told-of live s seat told feed at position is fed standing stands number phase read applied groups taken tail text copied refused =
    let there = there-is (λ (state : State). at ≡ standing_of state) (slice_get live.fed.board.streams s) standing in
    let bytes = place_of live.bytes s (let less = slice_get_within live.fed.feeds s feed fed in omega (arith, less, is.count)) in
    let where_at = some-at (λ (state : State). option_map_or (λ set. set.now) position [] ≡ applied_position state) (slice_get live.fed.board.streams s) there.0 there.1 stands in
    record {
      state = there.0;
      stands = there.1;
      feed = feed;
      fed = fed;
      bytes = bytes.0;
      known = bytes.1;
      number = number;
      phase = phase ∙ ap phase_of there.2;
      read = read ∙ ap (λ (at : Standing). at.read) there.2;
      applied = applied ∙ ap (λ (at : Standing). at.applied) there.2;
      groups = groups;
      taken = taken ∙ ap (λ (found : Option (List ℕ)). option_map_or (λ bytes. length bytes) found 0) bytes.1;
      tail = tail;
      position = position-told position (applied_position there.0) told.position where_at text;
      copied = copied there.0 there.1;
      refused = refused;
    }

-- the same by what calls answer of the stream
pub told-by : (live : LiveValue) (fed : Fed) (s : ℕ) (seat : Seat) (told : StreamValue) (feeds : List FeedValue) (feed : FeedValue) (plan : PlanValue) (tables : List TableValue) (board : Meaning) (at : Standing)
    (position : Option (Bor (List Interval))) → IsLive live → fed ≡ live.fed → feeds ≡ fed.feeds → s < length live.fed.feeds → feed ≡ get_or feeds s feed → plan ≡ feed.plan → tables ≡ plan.tables → board ≡ fed.board
    → IsSomeAnd (slice_get fed.board.streams s) (λ state. at ≡ standing_of state) → IsSomeAnd (slice_get fed.board.streams s) (λ state. option_map_or (λ set. set.now) position [] ≡ applied_position state)
    → told.stream ≡ s → told.phase ≡ phase_of at → told.read ≡ at.read → told.applied ≡ at.applied → told.groups ≡ length feed.groups → told.bytes ≡ option_map_or (λ bytes. length bytes) (slice_get live.bytes s) 0 → told.tail ≡ seat.tail
    → told.position ≡ option_map position_text (option_copied position) → ((state : State) → slice_get board.streams s ≡ Some state → AreCopied state.marks tables told.marks) → told.refused ≡ refusal_of tables seat.step seat.stopped → IsTold live s seat told
told-by live fed s seat told feeds feed plan tables board at position is same all there item planned tabled boards standing stands number phase read applied groups taken tail text copied refused =
    let feeds_are : feeds ≡ live.fed.feeds = all ∙ ap (λ (f : Fed). f.feeds) same in
    let board_is : board ≡ live.fed.board = boards ∙ ap (λ (f : Fed). f.board) same in
    let tables_are : tables ≡ feed.plan.tables = tabled ∙ ap (λ (p : PlanValue). p.tables) planned in
    told-of live s seat told feed at position is (slice_get_read live.fed.feeds (length live.fed.feeds) s feed refl there (item ∙ ap (λ (fs : List FeedValue). get_or fs s feed) feeds_are))
    (subst (λ (f : Fed). IsSomeAnd (slice_get f.board.streams s) (λ state. at ≡ standing_of state)) same standing)
    (subst (λ (f : Fed). IsSomeAnd (slice_get f.board.streams s) (λ state. option_map_or (λ set. set.now) position [] ≡ applied_position state)) same stands) number phase read applied groups taken tail text
    (λ state h. subst (λ (ts : List TableValue). AreCopied state.marks ts told.marks) tables_are (copied state (subst (λ (m : Meaning). slice_get m.streams s ≡ Some state) (sym board_is) h)))
    (refused ∙ ap (λ (ts : List TableValue). refusal_of ts seat.step seat.stopped) tables_are)
