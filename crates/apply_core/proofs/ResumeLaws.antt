-- The streams of a checkpoint put together with their feeds, one stream more.
use Rattle.std.proofs.Common.{◌≡◌, ℕ, zero, suc, ◌+◌, ◌<◌, ◌≤◌, ◌⊎◌, inl, inr, Bool, true, false, cond, List, [], ◌∷◌, ◌++◌, length, map, take, drop, Option, Some, None, Result, Ok, Err, IfOk, MatchOption, slice_get, append-nil, refl, sym, ap, subst, ◌∙◌, arith}
use Rattle.std.proofs.lemmas.Bool.{cases_lt}
use Rattle.std.proofs.lemmas.List.{drop_all, length-append, length-map, length-take-le, map-append, take_all}
use Rattle.std.proofs.lemmas.List.Elements.{filter-append}
use Rattle.std.proofs.lemmas.Option.{same_Some, none-some, slice_get-map, slice_get_within}
use Rattle.std.specs.declared.cmp.Ordering.TheVariants.{Less, Equal, Greater}
use Rattle.std.specs.Cmp.{Equal-is}
use Rattle.std.specs.List.{AllByRecursion, filter}
use Rattle.std.specs.Prelude.{IfSome}
use Rattle.std.specs.Option.{option_or, option_map}
use Rattle.std.specs.Ordering.{eq_by_cmp, is_le}
use Rattle.list_laws.proofs.Places.{place_of, slice_get-push}
use Rattle.filter_rule.specs.PlanValue.{PlanValue}
use Rattle.pk_copy.specs.KeyOrder.{key_cmp}
use Rattle.pk_copy.specs.KeyValue.{KeyValue}
use Rattle.pk_copy.specs.Marks.{Marks, is_inside}
use Rattle.target_tables.specs.Rising.{IsRising}
use Rattle.target_tables.specs.Touches.{last_at, IsLeastClash}
use Rattle.source_feed.specs.declared.fault.FeedFault.{FeedFault}
use Rattle.source_feed.specs.declared.fault.FeedFault.TheVariants as faults
use Rattle.source_feed.specs.FaultNumber.{meant_of}
use Rattle.source_feed.specs.History.{RowValue, IsPassed}
use Rattle.source_feed.specs.Image.{ImageRows, row_in, lent_row}
use Rattle.source_feed.specs.Planned.{FeedValue, IsFeed}
use Rattle.source_feed.specs.Positions.{IsNumberAt}
use Rattle.source_feed.specs.SoundGroups.{sound_groups, AreFirst, StopsBefore}
use Rattle.source_feed.specs.Touches.{PreparedValue}
use Rattle.source_feed.proofs.PositionLaws.{one_number}
use Rattle.vevent.specs.CheckpointPart.{StreamPartValue}
use Rattle.vdiff.specs.Report.{IsFirstDifference}
use Rattle.vdiff.proofs.ReportLaws.{IsSameSoFar, stops_at_source, stops_at_target, stops_at_rows, same_for_longer, rest_of_source, rest_of_target}
use Rattle.board_laws.specs.Cut.{cut_of}
use Rattle.board_laws.specs.KeptRows.{passed_rows, kept_row}
use Rattle.board_laws.specs.Laws.{PassedRowsAreOneList}
use Rattle.board_laws.specs.Lawful.{IsSoundState}
use Rattle.board_laws.specs.Meaning.{State, TargetRows}
use Rattle.board_laws.specs.Step.{due_at}
use Rattle.board_laws.proofs.Lookups.{Ties, none_above}
use Rattle.board_laws.specs.Joined.{cut_rows, rows_from}
use Rattle.board_laws.specs.RefusedJoin.{IsFirstClash}
use Rattle.checkpoint_laws.specs.declared.fault.ResumeFault.{ResumeFault}
use Rattle.checkpoint_laws.specs.declared.fault.ResumeFault.TheVariants.{FeedCount, WrongPlan, CheckpointBad, PositionUnknown, Unsound, CheckpointDiffers, OwnedByOther, Memory}
use Rattle.checkpoint_laws.specs.Saved.{SavedStream}
use Rattle.checkpoint_laws.specs.Said.{IsSaved}
use Rattle.checkpoint_laws.specs.Resumed.{IsKnown, IsResumedAt, AreResumed, AgreesWith, AtEachPlace}
use Rattle.checkpoint_laws.specs.Refused.{plans_of_feeds, IsFirstOff, IsLeastDifference, IsRefusedSaved}
use Rattle.checkpoint_laws.proofs.OwnRows.{cut-at, cut-rising}
use Rattle.checkpoint_laws.proofs.ResumedLaws.{at_same_place, resumed-sound}
use Rattle.apply_core.specs.Feeds.{AreWholeFeeds}
use Rattle.apply_core.specs.Private.Changes.{IsOfTable, found_row, put_row}
use Rattle.apply_core.specs.Private.Resuming.{AtEachOfThree, AreSaid, IsUnsoundAt, refusal_of_feed, AreOthers, AllRise}
use Rattle.apply_core.specs.Private.StreamState.{IsStream}
use Rattle.apply_core.specs.Private.Together.{AreTogether, ArePutsOfCut}
use Rattle.apply_core.proofs.CopyLaws.{passed_of_tables}
use denote.Ref.{Bor}

-- ---- three lists

-- one value more, beside those of the other two lists
pub of_three_more : {A B C : Type 0} (P : A → B → C → Type 0) (xs : List A) (ys : List B) (zs new : List C) (n : ℕ) (x : A) (y : B) (z : C) → length zs ≡ n → slice_get xs n ≡ Some x → slice_get ys n ≡ Some y
    → new ≡ zs ++ z ∷ [] → P x y z → AtEachOfThree P xs ys zs → AtEachOfThree P xs ys new
of_three_more {A} {B} {C} P xs ys zs new n x y z long here there is fact before s a b c p q r =
    by (slice_get-push zs z c s (subst (λ (l : List C). slice_get l s ≡ Some c) is r))
  where
    by : ((s < length zs) × (slice_get zs s ≡ Some c)) ⊎ ((s ≡ length zs) × (z ≡ c)) → P a b c
    by (inl old) = before s a b c p q old.1
    by (inr last) =
        let at : s ≡ n = last.0 ∙ long in
        let one : x ≡ a = same_Some x a (sym here ∙ ap (slice_get xs) (sym at) ∙ p) in
        let other : y ≡ b = same_Some y b (sym there ∙ ap (slice_get ys) (sym at) ∙ q) in
        subst (λ (v : A). P v b c) one (subst (λ (v : B). P x v c) other (subst (P x y) last.1 fact))

one_longer : {A : Type 0} (xs new : List A) (x : A) (n : ℕ) → length xs ≡ n → new ≡ xs ++ x ∷ [] → length new ≡ n + 1
one_longer xs new x n long is = ap length is ∙ length-append xs (x ∷ []) ∙ ap (λ m. m + 1) long

-- ---- positions

-- the positions of the first n streams are known
abbrev KnownBefore : List FeedValue → List SavedStream → ℕ → Type 0
KnownBefore feeds saved n = (t : ℕ) (feed : FeedValue) (one : SavedStream) → t < n → slice_get feeds t ≡ Some feed → slice_get saved t ≡ Some one → IsKnown feed one

module _ (feeds : List FeedValue) (saved : List SavedStream) (n : ℕ) (feed : FeedValue) (one : SavedStream) (here : slice_get feeds n ≡ Some feed) (there : slice_get saved n ≡ Some one) where
  pub unknown_there : (¬ IsKnown feed one) → KnownBefore feeds saved n → IsFirstOff IsKnown feeds saved n
  unknown_there none before = record { one = feed; other = one; here = here; there = there; fails = none; before = before }

  pub known_more : IsKnown feed one → KnownBefore feeds saved n → KnownBefore feeds saved (n + 1)
  known_more known before t x y less p q = elim (cases_lt t n) [
    | inl earlier ↦ before t x y earlier p q
    | inr behind ↦ (
        let at : n ≡ t = omega (arith, less, behind) in
        let of_feed : feed ≡ x = same_Some feed x (sym here ∙ ap (slice_get feeds) at ∙ p) in
        let of_one : one ≡ y = same_Some one y (sym there ∙ ap (slice_get saved) at ∙ q) in
        subst (λ (z : FeedValue). IsKnown z y) of_feed (subst (IsKnown feed) of_one known))
  ]

-- streams that stand where a checkpoint says have known positions
pub resumed_known : (feeds : List FeedValue) (saved : List SavedStream) (states : List State) → AreResumed feeds saved states → AtEachPlace IsKnown feeds saved
resumed_known feeds saved states are s feed one here there =
    let state : (state : State) × (slice_get states s ≡ Some state) = at_same_place feeds states s feed (sym are.count) here in
    let at : IsResumedAt feed one state.0 = are.each_stream s feed one state.0 here there state.1 in
    (at.number, at.known)

-- ---- streams

module _ (feed : FeedValue) (saved : SavedStream) (number : ℕ) (groups : List PreparedValue) (plan : PlanValue) (marks : Marks) (planned : plan ≡ feed.plan) (marked : marks ≡ saved.marks) (first : AreFirst feed number groups)
    (known : IsNumberAt feed saved.position number) where
  pub is_resumed : IsResumedAt feed saved (record { plan = plan; list = groups; applied = number; marks = marks; snapshot = None })
  is_resumed = record {
    number = number;
    known = known;
    sound = first.sound;
    state_is = λ i. record { plan = planned i; list = first.are i; applied = number; marks = marked i; snapshot = None };
  }

  pub is_stream : IsFeed feed → IsSaved feed.plan saved → (image : ImageRows) → IsPassed groups 0 image → IsStream (record { plan = plan; list = groups; applied = number; marks = marks; snapshot = None }) 0 image
  is_stream whole sound image kept = record {
    sound = resumed-sound feed whole saved sound (record { plan = plan; list = groups; applied = number; marks = marks; snapshot = None }) is_resumed;
    kept = kept;
    within = omega arith;
    opened = tt;
  }

pub is_unsound : (feed : FeedValue) (saved : SavedStream) (number : ℕ) (fault : FeedFault) → IsNumberAt feed saved.position number → StopsBefore feed number fault → IsUnsoundAt feed saved (Unsound fault)
is_unsound feed saved number fault known stops = (λ h. let most = h number known in omega (arith, most, stops.inside), stops.first)

-- a fault of the feed says that a group isn't sound, or nothing
pub unsound_by : (feed : FeedValue) (saved : SavedStream) (number : ℕ) → IsNumberAt feed saved.position number → (fault : FeedFault) → IfSome (meant_of fault) (StopsBefore feed number) → IsUnsoundAt feed saved (refusal_of_feed fault)
unsound_by feed saved number known faults.Memory h = tt
unsound_by feed saved number known faults.FeedTooLong h = is_unsound feed saved number faults.FeedTooLong known h
unsound_by feed saved number known faults.Frame h = is_unsound feed saved number faults.Frame known h
unsound_by feed saved number known (faults.Event fault) h = is_unsound feed saved number (faults.Event fault) known h
unsound_by feed saved number known (faults.BadPosition fault) h = is_unsound feed saved number (faults.BadPosition fault) known h
unsound_by feed saved number known faults.NoPosition h = is_unsound feed saved number faults.NoPosition known h
unsound_by feed saved number known (faults.Diverged group) h = is_unsound feed saved number (faults.Diverged group) known h
unsound_by feed saved number known faults.FieldsDiffer h = is_unsound feed saved number faults.FieldsDiffer known h
unsound_by feed saved number known faults.NoFields h = is_unsound feed saved number faults.NoFields known h
unsound_by feed saved number known faults.ColumnCount h = is_unsound feed saved number faults.ColumnCount known h
unsound_by feed saved number known faults.OpenAtEnd h = is_unsound feed saved number faults.OpenAtEnd known h
unsound_by feed saved number known faults.ShardMissing h = is_unsound feed saved number faults.ShardMissing known h
unsound_by feed saved number known faults.Misplaced h = is_unsound feed saved number faults.Misplaced known h
unsound_by feed saved number known (faults.BadRow group table cause) h = is_unsound feed saved number (faults.BadRow group table cause) known h
unsound_by feed saved number known (faults.NoGroup groups) h = is_unsound feed saved number (faults.NoGroup groups) known h

-- the first n streams stand where a checkpoint says
pub record AreFirstResumed (feeds : List FeedValue) (saved : List SavedStream) (n : ℕ) (states : List State) : Type 0 where
  pub count : length states ≡ n
  pub each_stream : AtEachOfThree IsResumedAt feeds saved states

pub stream_more : (feeds : List FeedValue) (saved : List SavedStream) (n : ℕ) (states new : List State) (feed : FeedValue) (one : SavedStream) (state : State) → slice_get feeds n ≡ Some feed → slice_get saved n ≡ Some one
    → IsResumedAt feed one state → new ≡ states ++ state ∷ [] → AreFirstResumed feeds saved n states → AreFirstResumed feeds saved (n + 1) new
stream_more feeds saved n states new feed one state here there at is h = record {
  count = one_longer states new state n h.count is;
  each_stream = of_three_more IsResumedAt feeds saved states new n feed one state h.count here there is at h.each_stream;
}

pub said_long : (feeds : List FeedValue) (saved : List SavedStream) → AreSaid feeds saved → length saved ≡ length feeds
said_long feeds saved said = said.is.same_count ∙ length-map feeds (λ (feed : FeedValue). feed.plan)

pub stops_at : (feeds : List FeedValue) (saved : List SavedStream) (n : ℕ) (states : List State) (feed : FeedValue) (one : SavedStream) → AreWholeFeeds feeds → AtEachPlace IsKnown feeds saved
    → slice_get feeds n ≡ Some feed → slice_get saved n ≡ Some one → AreFirstResumed feeds saved n states → (fault : ResumeFault) → IsUnsoundAt feed one fault → IsRefusedSaved feeds saved fault
stops_at feeds saved n states feed one whole known here there h (Unsound fault) unsound = record {
  known = known;
  stream = n;
  first = record {
    one = feed;
    other = one;
    here = here;
    there = there;
    fails = unsound.0;
    before = λ t x y less p q number at.
        let state = place_of states t (subst (λ m. t < m) (sym h.count) less) in
        let stands : IsResumedAt x y state.0 = h.each_stream t x y state.0 p q state.1 in
        let same : number ≡ stands.number = one_number x (whole t x p) y.position number stands.number at stands.known in
        subst (λ m. m ≤ length (sound_groups x)) (sym same) stands.sound;
  };
  first_fault = unsound.1;
}
stops_at feeds saved n states feed one whole known here there h Memory unsound = known
stops_at feeds saved n states feed one whole known here there h FeedCount unsound = unsound
stops_at feeds saved n states feed one whole known here there h WrongPlan unsound = unsound
stops_at feeds saved n states feed one whole known here there h CheckpointBad unsound = unsound
stops_at feeds saved n states feed one whole known here there h (PositionUnknown s) unsound = absurd unsound
stops_at feeds saved n states feed one whole known here there h (CheckpointDiffers s key) unsound = absurd unsound
stops_at feeds saved n states feed one whole known here there h (OwnedByOther key owner) unsound = absurd unsound

-- what can be said of a stream
pub said_of : (feeds : List FeedValue) (saved : List SavedStream) → AreSaid feeds saved → (s : ℕ) (feed : FeedValue) (one : SavedStream) → slice_get feeds s ≡ Some feed → slice_get saved s ≡ Some one → IsSaved feed.plan one
said_of feeds saved said s feed one here there =
    let plan : slice_get (plans_of_feeds feeds) s ≡ Some feed.plan = slice_get-map (λ (feed : FeedValue). feed.plan) feeds s ∙ ap (option_map (λ (feed : FeedValue). feed.plan)) here in
    let part : (part : StreamPartValue) × (slice_get said.is.parts s ≡ Some part) = at_same_place (plans_of_feeds feeds) said.is.parts s feed.plan (sym said.is.count) plan in
    (said.is.each_stream s feed.plan one part.0 plan there part.1).sound

pub all_rise : (feeds : List FeedValue) (saved : List SavedStream) → AreSaid feeds saved → AllRise saved
all_rise feeds saved said s one there =
    let feed = at_same_place saved feeds s one (said_long feeds saved said) there in
    (said_of feeds saved said s feed.0 one feed.1 there).rising

-- ---- the rows of a stream

-- a test of keys takes the kept columns of the rows that it takes
filter-kept : (plan : PlanValue) (P : KeyValue → Bool) (rows : ImageRows) → map (kept_row plan) (filter (λ row. P row.0) rows) ≡ filter (λ row. P row.0) (map (kept_row plan) rows)
filter-kept plan P [] = refl
filter-kept plan P (row ∷ rows) = by (P row.0) (filter-kept plan P rows)
  where
    by : (b : Bool) → map (kept_row plan) (filter (λ (row : KeyValue × RowValue). P row.0) rows) ≡ filter (λ (row : KeyValue × RowValue). P row.0) (map (kept_row plan) rows)
        → map (kept_row plan) (cond b (row ∷ filter (λ (row : KeyValue × RowValue). P row.0) rows) (filter (λ (row : KeyValue × RowValue). P row.0) rows))
        ≡ cond b (kept_row plan row ∷ filter (λ (row : KeyValue × RowValue). P row.0) (map (kept_row plan) rows)) (filter (λ (row : KeyValue × RowValue). P row.0) (map (kept_row plan) rows))
    by true rest = ap (λ (later : ImageRows). kept_row plan row ∷ later) rest
    by false rest = rest

-- the rows of an image within the marks are those that pass there
pub found_pass : (one_list : PassedRowsAreOneList) (state : State) (image rows : ImageRows) (imaged : ℕ) → imaged ≡ state.applied → IsPassed state.list imaged image → rows ≡ filter (λ row. is_inside state.marks row.0) image
    → rows ≡ filter (λ row. is_inside state.marks row.0) (passed_rows state.list state.applied)
found_pass one_list state image rows imaged there kept is =
    is ∙ ap (filter (λ row. is_inside state.marks row.0)) (one_list state.list imaged image kept ∙ ap (passed_rows state.list) there)

pub found_of_tables : Ties → (state : State) → IsSoundState state → (rows : ImageRows) → rows ≡ filter (λ row. is_inside state.marks row.0) (passed_rows state.list state.applied) → AllByRecursion (λ row. IsOfTable state.plan row.0 row.1) rows
found_of_tables ties state sound rows is =
    subst (AllByRecursion (λ (row : KeyValue × RowValue). IsOfTable state.plan row.0 row.1)) (sym is) (passed_of_tables ties state sound (λ row. is_inside state.marks row.0))

each_found : (plan : PlanValue) (rows : List (Bor KeyValue × Bor RowValue)) → map (found_row plan) rows ≡ map (kept_row plan) (map lent_row rows)
each_found plan [] = refl
each_found plan (row ∷ rows) = ap (λ (later : ImageRows). found_row plan row ∷ later) (each_found plan rows)

-- their kept columns are those of the cut
pub found_are_cut : (state : State) (rows : List (Bor KeyValue × Bor RowValue)) → map lent_row rows ≡ filter (λ row. is_inside state.marks row.0) (passed_rows state.list state.applied) → map (found_row state.plan) rows ≡ cut_rows state
found_are_cut state rows is =
    each_found state.plan rows ∙ ap (map (kept_row state.plan)) is ∙ filter-kept state.plan (is_inside state.marks) (passed_rows state.list state.applied)

pub least_of : (ties : Ties) (saved : SavedStream) (state : State) (rows : ImageRows) (key : KeyValue) → rows ≡ cut_rows state → IsFirstDifference saved.rows rows key → IsLeastDifference saved state key
least_of ties saved state rows key is first =
    let at : (k : KeyValue) → row_in rows k ≡ cut_of state k = λ k. ap (λ (found : ImageRows). row_in found k) is ∙ cut-at ties state k in
    record {
      differs = λ same. first.differ (same ∙ sym (at key));
      none_less = λ k less. first.same_before k less ∙ at k;
    }

-- what two lists differ in, where one is what is said of a stream and the other its cut
pub least_found : {E : Type 0} (ties : Ties) (saved : SavedStream) (state : State) (ours rows : ImageRows) → ours ≡ saved.rows → rows ≡ cut_rows state → (result : Result (Option KeyValue) E)
    → IfOk result (λ key. MatchOption key (ours ≡ rows) (IsFirstDifference ours rows)) → IfOk result (λ found. MatchOption found (AgreesWith saved state) (IsLeastDifference saved state))
least_found ties saved state ours rows said is (Ok None) h = sym said ∙ h ∙ is
least_found ties saved state ours rows said is (Ok (Some key)) h = least_of ties saved state rows key is (subst (λ (xs : ImageRows). IsFirstDifference xs rows key) said h)
least_found ties saved state ours rows said is (Err fault) h = h

pub cut_rises : (ties : Ties) (state : State) (rows : ImageRows) → rows ≡ cut_rows state → IsRising key_cmp rows
cut_rises ties state rows is = subst (IsRising key_cmp) (sym is) (cut-rising ties state)

-- the first n streams agree
abbrev pub AgreeUpTo : List SavedStream → List State → ℕ → Type 0
AgreeUpTo saved states n = (s : ℕ) (one : SavedStream) (state : State) → s < n → slice_get saved s ≡ Some one → slice_get states s ≡ Some state → AgreesWith one state

pub agree_more : (saved : List SavedStream) (states : List State) (n : ℕ) (one : SavedStream) (state : State) → slice_get saved n ≡ Some one → slice_get states n ≡ Some state → AgreesWith one state → AgreeUpTo saved states n → AgreeUpTo saved states (n + 1)
agree_more saved states n one state there here same h s other stand less p q = elim (cases_lt s n) [
  | inl before ↦ h s other stand before p q
  | inr behind ↦ (
      let is : s ≡ n = omega (arith, less, behind) in
      let x : one ≡ other = same_Some one other (sym there ∙ ap (slice_get saved) (sym is) ∙ p) in
      let y : state ≡ stand = same_Some state stand (sym here ∙ ap (slice_get states) (sym is) ∙ q) in
      subst (λ (v : SavedStream). AgreesWith v stand) x (subst (AgreesWith one) y same)
      )
]

pub all_agree : (saved : List SavedStream) (states : List State) (n : ℕ) → length states ≤ n → AgreeUpTo saved states n → AtEachPlace AgreesWith saved states
all_agree saved states n most h s one state p q = let inside : s < length states = slice_get_within states s state q in h s one state (omega (arith, inside, most)) p q

pub differs_first : (ties : Ties) (saved : List SavedStream) (states : List State) (n : ℕ) (one : SavedStream) (state : State) (key : KeyValue) → slice_get saved n ≡ Some one → slice_get states n ≡ Some state
    → IsLeastDifference one state key → AgreeUpTo saved states n → AreOthers saved states (CheckpointDiffers n key)
differs_first ties saved states n one state key there here least h = (
  record {
    one = one;
    other = state;
    here = there;
    there = here;
    fails = λ same. least.differs (ap (λ (rows : ImageRows). row_in rows key) same ∙ cut-at ties state key);
    before = λ t x y less p q. h t x y less p q;
  },
  least,
)

-- ---- one stream more over one target

last_of_puts : (rows : ImageRows) (k : KeyValue) → IsRising key_cmp rows → last_at key_cmp (map put_row rows) k ≡ option_map Some (row_in rows k)
last_of_puts [] k h = refl
last_of_puts (x ∷ rows) k h =
    ap (λ (v : Option (Option RowValue)). option_or v (cond (eq_by_cmp key_cmp k x.0) (Some (Some x.1)) None)) (last_of_puts rows k h.1)
    ∙ by (eq_by_cmp key_cmp k x.0) refl
  where
    none : (v : Option RowValue) → option_or (option_map Some v) None ≡ option_map Some v
    none None = refl
    none (Some row) = refl

    by : (b : Bool) → eq_by_cmp key_cmp k x.0 ≡ b → option_or (option_map Some (row_in rows k)) (cond b (Some (Some x.1)) None) ≡ option_map Some (cond b (Some x.1) (row_in rows k))
    by true e =
        let tied : key_cmp k x.0 ≡ Equal = (Equal-is (key_cmp k x.0)).0 e in
        ap (λ (v : Option RowValue). option_or (option_map Some v) (Some (Some x.1))) (none_above k x.0 rows (ap is_le tied) h.0)
    by false e = none (row_in rows k)

pub puts_of_saved : (ties : Ties) (own : ImageRows) (state : State) (puts : List (KeyValue × Option RowValue)) → IsRising key_cmp own → own ≡ cut_rows state → puts ≡ map put_row own → ArePutsOfCut state puts
puts_of_saved ties own state puts rising agree is key =
    ap (λ (ps : List (KeyValue × Option RowValue)). last_at key_cmp ps key) is
    ∙ last_of_puts own key rising
    ∙ ap (λ (rows : ImageRows). option_map Some (row_in rows key)) agree
    ∙ ap (option_map Some) (cut-at ties state key)

take_next : {A : Type 0} (xs : List A) (s : ℕ) (x : A) → slice_get xs s ≡ Some x → take (suc s) xs ≡ take s xs ++ x ∷ []
take_next [] s x e = absurd (none-some x e)
take_next {A} (y ∷ xs) zero x e = ap (λ (z : A). z ∷ []) (same_Some y x e)
take_next {A} (y ∷ xs) (suc s) x e = ap (λ (zs : List A). y ∷ zs) (take_next xs s x e)

pub front_long : {A : Type 0} (xs : List A) (s : ℕ) → s < length xs → length (take s xs) ≡ s
front_long xs s inside = length-take-le s xs (omega (arith, inside))

pub together_more : (states : List State) (s : ℕ) (state : State) (rows : TargetRows) → slice_get states s ≡ Some state → AreTogether (take s states ++ state ∷ []) rows → AreTogether (take (s + 1) states) rows
together_more states s state rows here h =
    let number : suc s ≡ s + 1 = omega arith in
    subst (λ (xs : List State). AreTogether xs rows) (sym (take_next states s state here) ∙ ap (λ n. take n states) number) h

pub clash_at : (states : List State) (s : ℕ) (state : State) (rows : TargetRows) (key : KeyValue) (owner : ℕ) → s < length states → slice_get states s ≡ Some state → AreTogether (take s states) rows
    → IsLeastClash key_cmp (rows_from 0 (take s states)) (length (take s states)) (due_at state) key owner → IsFirstClash states key owner
clash_at states s state rows key owner inside here lower clash = record {
  stream = s;
  state = state;
  here = here;
  lower = lower.apart;
  least = subst (λ n. IsLeastClash key_cmp (rows_from 0 (take s states)) n (due_at state) key owner) (front_long states s inside) clash;
}

pub all_together : (states : List State) (n : ℕ) (rows : TargetRows) → length states ≤ n → AreTogether (take n states) rows → AreTogether states rows
all_together states n rows most h = subst (λ (xs : List State). AreTogether xs rows) (take_all n states most) h

-- ---- two lists of rows

-- what stands at a place, and what comes behind it
pub drop_at : {A : Type 0} (xs : List A) (i : ℕ) (x : A) → slice_get xs i ≡ Some x → drop i xs ≡ x ∷ drop (i + 1) xs
drop_at {A} xs i x e = let next : suc i ≡ i + 1 = omega arith in by xs i e ∙ ap (λ n. x ∷ drop n xs) next
  where
    by : (ys : List A) (j : ℕ) → slice_get ys j ≡ Some x → drop j ys ≡ x ∷ drop (suc j) ys
    by [] j e = absurd (none-some x e)
    by (y ∷ ys) zero e = ap (λ (z : A). z ∷ ys) (same_Some y x e)
    by (y ∷ ys) (suc j) e = by ys j e

-- what stands behind others in a list
pub stands_behind : {A : Type 0} (before left later whole : List A) (x : A) → left ≡ x ∷ later → before ++ left ≡ whole → slice_get whole (length before) ≡ Some x
stands_behind {A} before left later whole x is sum = subst (λ (xs : List A). slice_get xs (length before) ≡ Some x) (ap (λ (xs : List A). before ++ xs) (sym is) ∙ sum) (by before)
  where
    by : (ys : List A) → slice_get (ys ++ x ∷ later) (length ys) ≡ Some x
    by [] = refl
    by (y ∷ ys) = by ys

-- ---- rows that are copied

abbrev pub LentRow : Type 0
LentRow = Bor KeyValue × Bor RowValue

abbrev pub inside_of : Marks → ImageRows → ImageRows
inside_of marks rows = filter (λ row. is_inside marks row.0) rows

module _ (marks : Marks) (xs : List LentRow) (i : ℕ) (x : LentRow) (there : slice_get xs i ≡ Some x) (made : ImageRows) (is : made ≡ inside_of marks (map lent_row (take i xs))) where
  next_inside : inside_of marks (map lent_row (take (i + 1) xs)) ≡ inside_of marks (map lent_row (take i xs)) ++ cond (is_inside marks x.0.now) (lent_row x ∷ []) []
  next_inside =
      let number : i + 1 ≡ suc i = omega arith in
      ap (λ n. inside_of marks (map lent_row (take n xs))) number
      ∙ ap (λ (zs : List LentRow). inside_of marks (map lent_row zs)) (take_next xs i x there)
      ∙ ap (inside_of marks) (map-append lent_row (take i xs) (x ∷ []))
      ∙ filter-append (λ (row : KeyValue × RowValue). is_inside marks row.0) (map lent_row (take i xs)) (lent_row x ∷ [])

  pub inside_more : is_inside marks x.0.now ≡ true → (new : ImageRows) → new ≡ made ++ lent_row x ∷ [] → new ≡ inside_of marks (map lent_row (take (i + 1) xs))
  inside_more e new pushed =
      pushed ∙ ap (λ (rows : ImageRows). rows ++ lent_row x ∷ []) is ∙ ap (λ b. inside_of marks (map lent_row (take i xs)) ++ cond b (lent_row x ∷ []) []) (sym e) ∙ sym next_inside

  pub outside_more : is_inside marks x.0.now ≡ false → made ≡ inside_of marks (map lent_row (take (i + 1) xs))
  outside_more e =
      is ∙ sym (append-nil (inside_of marks (map lent_row (take i xs)))) ∙ ap (λ b. inside_of marks (map lent_row (take i xs)) ++ cond {A = ImageRows} b (lent_row x ∷ []) []) (sym e) ∙ sym next_inside

module _ (source target : ImageRows) (i : ℕ) (w : IsSameSoFar source target (drop i source) (drop i target)) where
  module _ (x y : KeyValue × RowValue) (here : slice_get source i ≡ Some x) (there : slice_get target i ≡ Some y) where
    both_there : IsSameSoFar source target (x ∷ drop (i + 1) source) (y ∷ drop (i + 1) target)
    both_there =
        subst (λ (l : ImageRows). IsSameSoFar source target l (y ∷ drop (i + 1) target)) (drop_at source i x here) (subst (IsSameSoFar source target (drop i source)) (drop_at target i y there) w)

    pub differs_less : key_cmp x.0 y.0 ≡ Less → IsFirstDifference source target x.0
    differs_less = stops_at_source source target x y (drop (i + 1) source) (drop (i + 1) target) both_there

    pub differs_greater : key_cmp x.0 y.0 ≡ Greater → IsFirstDifference source target y.0
    differs_greater = stops_at_target source target x y (drop (i + 1) source) (drop (i + 1) target) both_there

    pub differs_rows : x.0 ≡ y.0 → (x.1 ≡ y.1 → ⊥) → IsFirstDifference source target x.0
    differs_rows = stops_at_rows source target x y (drop (i + 1) source) (drop (i + 1) target) both_there

    pub goes_on : x.0 ≡ y.0 → x.1 ≡ y.1 → IsSameSoFar source target (drop (i + 1) source) (drop (i + 1) target)
    goes_on = same_for_longer source target x y (drop (i + 1) source) (drop (i + 1) target) both_there

  pub source_longer : (x : KeyValue × RowValue) → slice_get source i ≡ Some x → length target ≤ i → IsFirstDifference source target x.0
  source_longer x here most =
      rest_of_source source target (drop i source) (drop i target) x w (inr (drop_all i target most)) (sym (ap (λ (l : ImageRows). slice_get l 0) (drop_at source i x here)))

  pub target_longer : (y : KeyValue × RowValue) → slice_get target i ≡ Some y → length source ≤ i → IsFirstDifference source target y.0
  target_longer y there most =
      rest_of_target source target (drop i source) (drop i target) y w (sym (ap (λ (l : ImageRows). slice_get l 0) (drop_all i source most)))
      (sym (ap (λ (l : ImageRows). slice_get l 0) (drop_at target i y there)))
