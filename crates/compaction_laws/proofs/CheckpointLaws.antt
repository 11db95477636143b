-- A checkpoint goes on over a compacted feed as over the whole one.
use Rattle.std.proofs.Common.{◌≡◌, ◌≢◌, ℕ, zero, suc, ◌+◌, ◌-◌, ◌<◌, ◌≤◌, List, [], ◌∷◌, length, map, take, filter, Option, None, Some, slice_get, refl, sym, ap, subst, ◌∙◌, arith, inl, inr}
use Rattle.std.proofs.lemmas.Option.{same_Some}
use Rattle.list_laws.proofs.Places.{no_place}
use Rattle.pk_copy.specs.KeyValue.{KeyValue}
use Rattle.pk_copy.specs.Marks.{is_inside}
use Rattle.vevent.specs.EventValue.{EventValue}
use Rattle.filter_rule.specs.PlanValue.{PlanValue}
use Rattle.source_feed.specs.Image.{ImageRows}
use Rattle.source_feed.specs.Planned.{FeedValue, IsFeed}
use Rattle.source_feed.specs.Positions.{IsNumberAt}
use Rattle.source_feed.specs.SoundGroups.{sound_groups}
use Rattle.source_feed.specs.Touches.{PreparedValue}
use Rattle.source_feed.proofs.PositionLaws.{one_number}
use Rattle.board_laws.specs.Cut.{cut_of}
use Rattle.board_laws.specs.KeptRows.{passed_rows, kept_row, kept_rows}
use Rattle.board_laws.specs.Meaning.{State, Meaning}
use Rattle.board_laws.proofs.Fresh.{passed-alike}
use Rattle.board_laws.proofs.KeptList.{list-is_passed, passed-is_list}
use Rattle.board_laws.proofs.Lists.{take-take}
use Rattle.board_laws.proofs.Lookups.{Ties}
use Rattle.board_laws.specs.Compatible.{AreApart}
use Rattle.board_laws.specs.Joined.{cut_rows, with_rows, rows_from, board_of}
use Rattle.checkpoint_laws.specs.Resumed.{resumed_state, IsResumedAt, IsResumedBoard}
use Rattle.checkpoint_laws.specs.Saved.{SavedStream}
use Rattle.checkpoint_laws.proofs.ResumedLaws.{at_same_place}
use Rattle.compaction_laws.specs.CompactedFeed.{IsCompactedFeed}
use Rattle.compaction_laws.specs.Laws.{IsFromBaseOn, GoesOn, CanGoOn, CanAllGoOn, GoesOnAs}

-- the first groups alone leave the rows that they leave before others
rows_of_front : (ties : Ties) (plan : PlanValue) (groups : List PreparedValue) (n : ℕ) → kept_rows plan (take n groups) n ≡ kept_rows plan groups n
rows_of_front ties plan groups n =
    let mine : ImageRows = passed_rows (take n groups) n in
    ap (λ (rows : ImageRows). map (kept_row plan) rows)
    (passed-is_list ties groups n mine (passed-alike (take n groups) groups n mine (take-take n groups) (list-is_passed ties (take n groups) n)))

module _ (ties : Ties) (old : FeedValue) (fewer : ℕ) (events : List EventValue) (c : IsCompactedFeed old fewer events) (saved : SavedStream) where
  at_start : GoesOn c.new saved (resumed_state old saved.marks 0) → (n : ℕ) → n ≡ 0 → GoesOn c.new saved (resumed_state old saved.marks n)
  at_start g n e = subst (λ (k : ℕ). GoesOn c.new saved (resumed_state old saved.marks k)) (sym e) g

  from_start : saved.position ≡ [] → GoesOn c.new saved (resumed_state old saved.marks 0)
  from_start e = record {
    again = resumed_state c.new saved.marks 0;
    resumed = record { number = 0; known = inl (e, refl); sound = omega arith; state_is = refl };
    plan = c.same_plan;
    marks = refl;
    cut = λ key. refl;
    rows = refl;
  }

  behind_base : (n : ℕ) → fewer < n → IsNumberAt old saved.position n → n ≤ length (sound_groups old) → GoesOn c.new saved (resumed_state old saved.marks n)
  behind_base n less known sound =
      let inside : List (KeyValue × List (Option (List ℕ))) → ImageRows = filter (λ row. is_inside saved.marks row.0) in
      record {
        again = resumed_state c.new saved.marks (n - fewer);
        resumed = record { number = n - fewer; known = c.numbers n saved.position less known; sound = c.many n less sound; state_is = refl };
        plan = c.same_plan;
        marks = refl;
        cut = λ key. c.cuts n saved.marks key less;
        rows = ap inside (rows_of_front ties c.new.plan (sound_groups c.new) (n - fewer) ∙ c.rows n less ∙ sym (rows_of_front ties old.plan (sound_groups old) n));
      }

  pub goes_on : IsFeed old → (state : State) → IsFromBaseOn old fewer saved.position → IsResumedAt old saved state → GoesOn c.new saved state
  goes_on whole state (inl empty) r =
      let is : r.number ≡ 0 = one_number old whole saved.position r.number 0 r.known (inl (empty, refl)) in
      subst (GoesOn c.new saved) (sym r.state_is) (at_start (from_start empty) r.number is)
  goes_on whole state (inr (n, less, known)) r =
      let is : n ≡ r.number = one_number old whole saved.position n r.number known r.known in
      subst (GoesOn c.new saved) (sym r.state_is)
      (subst (λ (k : ℕ). GoesOn c.new saved (resumed_state old saved.marks k)) is (behind_base n less known (subst (λ (k : ℕ). k ≤ length (sound_groups old)) (sym is) r.sound)))

-- ---- boards

can_go_on : (ties : Ties) (old : FeedValue) (saved : SavedStream) (new : FeedValue) (state : State) → IsFeed old → CanGoOn old saved new → IsResumedAt old saved state → GoesOn new saved state
can_go_on ties old saved new state whole (inl same) r = record {
  again = state;
  resumed = subst (λ (feed : FeedValue). IsResumedAt feed saved state) (sym same) r;
  plan = refl;
  marks = refl;
  cut = λ key. refl;
  rows = refl;
}
can_go_on ties old saved new state whole (inr (fewer, events, c, is, from)) r = subst (λ (feed : FeedValue). GoesOn feed saved state) (sym is) (goes_on ties old fewer events c saved whole state from r)

-- the streams that go on, one after another
record AllGoOn (news : List FeedValue) (saved : List SavedStream) (states : List State) : Type 0 where
  agains : List State
  long : length agains ≡ length states
  each : (s : ℕ) (new : FeedValue) (one : SavedStream) (state now : State) → slice_get news s ≡ Some new → slice_get saved s ≡ Some one → slice_get states s ≡ Some state → slice_get agains s ≡ Some now
      → (g : GoesOn new one state) × (g.again ≡ now)

all_go_on : (news : List FeedValue) (saved : List SavedStream) (states : List State) → length news ≡ length states → length saved ≡ length states
    → ((s : ℕ) (new : FeedValue) (one : SavedStream) (state : State) → slice_get news s ≡ Some new → slice_get saved s ≡ Some one → slice_get states s ≡ Some state → GoesOn new one state) → AllGoOn news saved states
all_go_on news saved [] n m h = record { agains = []; long = refl; each = λ s new one state now e f g k. no_place s state g }
all_go_on [] saved (state ∷ states) n m h = absurd (omega (arith, n))
all_go_on (new ∷ news) [] (state ∷ states) n m h = absurd (omega (arith, m))
all_go_on (new ∷ news) (one ∷ saved) (state ∷ states) n m h = by (h 0 new one state refl refl refl) (all_go_on news saved states (omega (arith, n)) (omega (arith, m)) (λ s. h (suc s)))
  where
    by : GoesOn new one state → AllGoOn news saved states → AllGoOn (new ∷ news) (one ∷ saved) (state ∷ states)
    by first others = record {
      agains = first.again ∷ others.agains;
      long = (let rest : length others.agains ≡ length states = others.long in omega (arith, rest));
      each = each_place;
    }
      where
        each_place : (s : ℕ) (feed : FeedValue) (was : SavedStream) (old now : State) → slice_get (new ∷ news) s ≡ Some feed → slice_get (one ∷ saved) s ≡ Some was → slice_get (state ∷ states) s ≡ Some old
            → slice_get (first.again ∷ others.agains) s ≡ Some now → (g : GoesOn feed was old) × (g.again ≡ now)
        each_place zero feed was old now e f g k =
            let P : FeedValue → SavedStream → State → Type 0 = λ x y z. (w : GoesOn x y z) × (w.again ≡ now) in
            subst (λ (x : FeedValue). P x was old) (same_Some new feed e)
            (subst (λ (y : SavedStream). P new y old) (same_Some one was f) (subst (λ (z : State). P new one z) (same_Some state old g) (first, same_Some first.again now k)))
        each_place (suc s) feed was old now e f g k = others.each s feed was old now e f g k

rows_alike : (k : ℕ) (xs ys : List State) → length xs ≡ length ys → ((s : ℕ) (x y : State) → slice_get xs s ≡ Some x → slice_get ys s ≡ Some y → cut_rows x ≡ cut_rows y) → rows_from k xs ≡ rows_from k ys
rows_alike k [] [] n h = refl
rows_alike k [] (y ∷ ys) n h = absurd (omega (arith, n))
rows_alike k (x ∷ xs) [] n h = absurd (omega (arith, n))
rows_alike k (x ∷ xs) (y ∷ ys) n h =
    ap (λ (rows : ImageRows). with_rows k rows (rows_from (k + 1) xs)) (h 0 x y refl refl) ∙ ap (with_rows k (cut_rows y)) (rows_alike (k + 1) xs ys (omega (arith, n)) (λ s. h (suc s)))

module _ (ties : Ties) (olds news : List FeedValue) (saved : List SavedStream) (board : Meaning) (can : CanAllGoOn olds saved news) (r : IsResumedBoard olds saved board) where
  each_goes : (s : ℕ) (new : FeedValue) (one : SavedStream) (state : State) → slice_get news s ≡ Some new → slice_get saved s ≡ Some one → slice_get board.streams s ≡ Some state → GoesOn new one state
  each_goes s new one state e f g =
      let old = at_same_place news olds s new can.count e in
      can_go_on ties old.0 one new state (can.whole s old.0 old.1) (can.each_stream s old.0 one new old.1 f e) (r.states.each_stream s old.0 one state old.1 f g)

  all : AllGoOn news saved board.streams
  all = all_go_on news saved board.streams (can.count ∙ sym r.states.count) (r.states.same_count ∙ sym r.states.count) each_goes

  -- what a new state was
  record At (s : ℕ) (now : State) : Type 0 where
    new : FeedValue
    one : SavedStream
    was : State
    at_news : slice_get news s ≡ Some new
    at_saved : slice_get saved s ≡ Some one
    at_streams : slice_get board.streams s ≡ Some was
    goes : GoesOn new one was
    is : goes.again ≡ now

  at_place : (s : ℕ) (now : State) → slice_get all.agains s ≡ Some now → At s now
  at_place s now e =
      let was = at_same_place all.agains board.streams s now all.long e in
      let new = at_same_place board.streams news s was.0 (r.states.count ∙ sym can.count) was.1 in
      let one = at_same_place board.streams saved s was.0 (r.states.count ∙ sym r.states.same_count) was.1 in
      let g = all.each s new.0 one.0 was.0 now new.1 one.1 was.1 e in
      record { new = new.0; one = one.0; was = was.0; at_news = new.1; at_saved = one.1; at_streams = was.1; goes = g.0; is = g.1 }

  resumed_again : (s : ℕ) (new : FeedValue) (one : SavedStream) (now : State) → slice_get news s ≡ Some new → slice_get saved s ≡ Some one → slice_get all.agains s ≡ Some now → IsResumedAt new one now
  resumed_again s new one now e f k =
      let a : At s now = at_place s now k in
      subst (λ (x : State). IsResumedAt new one x) a.is
      (subst (λ (x : FeedValue). IsResumedAt x one a.goes.again) (same_Some a.new new (sym a.at_news ∙ e))
      (subst (λ (y : SavedStream). IsResumedAt a.new y a.goes.again) (same_Some a.one one (sym a.at_saved ∙ f)) a.goes.resumed))

  rows_again : (s : ℕ) (now : State) (k : slice_get all.agains s ≡ Some now) → cut_rows now ≡ cut_rows (at_place s now k).was
  rows_again s now k = let a : At s now = at_place s now k in ap cut_rows (sym a.is) ∙ a.goes.rows

  agree_again : (s : ℕ) (one : SavedStream) (now : State) → slice_get saved s ≡ Some one → slice_get all.agains s ≡ Some now → one.rows ≡ cut_rows now
  agree_again s one now f k =
      let a : At s now = at_place s now k in
      ap (λ (x : SavedStream). x.rows) (same_Some one a.one (sym f ∙ a.at_saved)) ∙ r.agree s a.one a.was a.at_saved a.at_streams ∙ sym (rows_again s now k)

  has_row : (s : ℕ) (now : State) (k : slice_get all.agains s ≡ Some now) (key : KeyValue) → cut_of now key ≢ None → cut_of (at_place s now k).was key ≢ None
  has_row s now k key some none = let a : At s now = at_place s now k in some (ap (λ (x : State). cut_of x key) (sym a.is) ∙ a.goes.cut key ∙ none)

  apart_again : AreApart all.agains
  apart_again s t x y key e f p q =
      let a : At s x = at_place s x e in
      let b : At t y = at_place t y f in
      r.apart s t a.was b.was key a.at_streams b.at_streams (has_row s x e key p) (has_row t y f key q)

  same_stream : (s : ℕ) (now old : State) → slice_get all.agains s ≡ Some now → slice_get board.streams s ≡ Some old → (now.plan ≡ old.plan) × (now.marks ≡ old.marks) × (cut_rows now ≡ cut_rows old)
  same_stream s now old k f =
      let a : At s now = at_place s now k in
      let is : a.was ≡ old = same_Some a.was old (sym a.at_streams ∙ f) in (
        ap (λ (x : State). x.plan) (sym a.is) ∙ a.goes.plan ∙ ap (λ (x : State). x.plan) is,
        ap (λ (x : State). x.marks) (sym a.is) ∙ a.goes.marks ∙ ap (λ (x : State). x.marks) is,
        rows_again s now k ∙ ap cut_rows is,
      )

  pub boards_go_on : GoesOnAs news saved board
  boards_go_on = record {
    again = board_of all.agains;
    resumed = record {
      states = record { count = all.long ∙ r.states.count ∙ sym can.count; same_count = r.states.same_count ∙ sym can.count; each_stream = resumed_again };
      agree = agree_again;
      apart = apart_again;
      is = refl;
    };
    rows = rows_alike 0 all.agains board.streams all.long (λ s x y e f. (same_stream s x y e f).2) ∙ sym (ap (λ (b : Meaning). b.rows) r.is);
    each_stream = same_stream;
  }
