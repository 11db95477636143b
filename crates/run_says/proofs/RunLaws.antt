-- What `run` is known to write is what the relations say.
use Rattle.std.proofs.Common.{◌≡◌, ℕ, zero, suc, List, [], ◌∷◌, length, map, take, reverse, Bool, true, false, cond, Option, None, Some, Ok, refl, sym, ap, subst, ◌∙◌, arith}
use Rattle.std.specs.Prelude.{slice_get, option_map, option_and_then}
use Rattle.std.specs.List.{filter}
use Rattle.std.specs.Option.{option_to_list}
use Rattle.std.specs.Result.{ok_prefix}
use Rattle.filter_rule.specs.PlanValue.{PlanValue}
use Rattle.filter_rule.specs.Reading.{plans_of}
use Rattle.filter_rule.proofs.FollowLaws.{mapped_at}
use Rattle.pk_copy.specs.KeyOrder.{key_cmp}
use Rattle.pk_copy.specs.KeyValue.{KeyValue}
use Rattle.row_view.specs.Row.{RowValue}
use Rattle.target_tables.specs.Touches.{last_at}
use Rattle.source_feed.specs.GroupValue.{Position, GroupValue}
use Rattle.source_feed.specs.EventList.{events_of_feed}
use Rattle.source_feed.specs.Grammar.{blocks}
use Rattle.source_feed.specs.Groups.{groups_of, first_fault}
use Rattle.source_feed.specs.PastEvents.{PastEvents}
use Rattle.source_feed.specs.History.{touches_in, passing, kept_of, kept_at}
use Rattle.source_feed.specs.Planned.{FeedValue, PlannedGroupValue, planned_group, groups_under, source_of}
use Rattle.source_feed.specs.SoundGroups.{sound_groups}
use Rattle.source_feed.specs.Touches.{PutValue, PreparedValue, prepared}
use Rattle.dump.specs.DumpRowsValue.{DumpRowsValue}
use Rattle.dump.specs.Dump.{dump_of}
use Rattle.vrepl_choices.specs.UntilValue.{UntilValue}
use Rattle.feed_ends.specs.AtPosition.{lies_within}
use Rattle.feed_ends.specs.Positions.{text_for}
use Rattle.feed_ends.specs.EndedFeeds.{IsEndedBy}
use Rattle.gtid_set.specs.Position.{within_of}
use Rattle.gtid_set.proofs.Parsed.{position-canonical}
use Rattle.run_says.specs.Wire.{EachIs, HaveTogether}
use Rattle.run_says.specs.Positions.{IsPositionText}
use Rattle.run_says.proofs.PositionLaws.{position_says}
use Rattle.run_says.specs.Transactions.{AreChanges}
use Rattle.run_says.specs.Says.{AreOfChange, SaysTouches}
use Rattle.run_says.specs.Workflow.{SaysPlans}
use Rattle.run_says.specs.Rows.{Stream, Keeps, AreKeptRows}
use Rattle.run_says.specs.RunIsRight.{RunIsRight}
use Rattle.run_says.specs.Laws.{AreGiven, FeedKeeps, AreRowsOf}
use Rattle.run_says.proofs.MessageLaws.{feed_says}
use Rattle.run_says.proofs.TransactionLaws.{are_blocks, are_changes, is_defined, changes_in_groups, groups_before, groups_are_first, IsEnd}
use Rattle.run_says.proofs.TouchLaws.{groups_prepared, groups_made, agree_all, is_under}
use Rattle.run_says.proofs.WorkflowLaws.{plans_say}

-- ---- lists

take_all : {A : Type 0} (xs : List A) → take (length xs) xs ≡ xs
take_all [] = refl
take_all (x ∷ xs) = ap (λ ys. x ∷ ys) (take_all xs)

there_too : {A B : Type 0} (xs : List A) (ys : List B) (i : ℕ) (y : B) → length xs ≡ length ys → slice_get ys i ≡ Some y → (x : A) × (slice_get xs i ≡ Some x)
there_too xs [] i y e is = absurd cc
there_too [] (z ∷ ys) i y e is = absurd (omega (arith, e))
there_too (x ∷ xs) (z ∷ ys) zero y e is = (x, refl)
there_too (x ∷ xs) (z ∷ ys) (suc i) y e is = there_too xs ys i y (omega (arith, e)) is

same_lists : {A : Type 0} (xs ys : List A) → length xs ≡ length ys → ((i : ℕ) (x y : A) → slice_get xs i ≡ Some x → slice_get ys i ≡ Some y → x ≡ y) → xs ≡ ys
same_lists [] [] e h = refl
same_lists [] (y ∷ ys) e h = absurd (omega (arith, e))
same_lists (x ∷ xs) [] e h = absurd (omega (arith, e))
same_lists {A} (x ∷ xs) (y ∷ ys) e h = ap (λ (z : A). z ∷ xs) (h 0 x y refl refl) ∙ ap (λ (zs : List A). y ∷ zs) (same_lists xs ys (omega (arith, e)) (λ i a b a_is b_is. h (suc i) a b a_is b_is))

mapped_length : {A B : Type 0} (f : A → B) (xs : List A) → length (map f xs) ≡ length xs
mapped_length f [] = refl
mapped_length f (x ∷ xs) = ap suc (mapped_length f xs)

mapped_there : {A B : Type 0} (f : A → B) (xs : List A) (i : ℕ) (x : A) → slice_get xs i ≡ Some x → slice_get (map f xs) i ≡ Some (f x)
mapped_there f [] i x is = absurd cc
mapped_there f (y ∷ xs) zero x is = let same : y ≡ x = cc in ap (λ z. Some (f z)) same
mapped_there f (y ∷ xs) (suc i) x is = mapped_there f xs i x is

-- ---- a stream's feed

abbrev stream_of : FeedValue → Stream
stream_of feed = record { plan = feed.plan; touches = touches_in (sound_groups feed) }

-- a feed up to the position whose text is given: the end, and the groups that lie before it
record IsOpened (plan : PlanValue) (until : Option (List ℕ)) (all : List GroupValue) (feed : FeedValue) : Type 0 where
  end : Option Position
  ends : EachIs IsPositionText (option_to_list until) (option_to_list end)
  set : IsEnd end
  groups : feed.groups ≡ map (planned_group plan) (groups_before end all)
  plan_is : feed.plan ≡ plan

mapped_take : {A B : Type 0} (f : A → B) (n : ℕ) (xs : List A) → take n (map f xs) ≡ map f (take n xs)
mapped_take f zero xs = refl
mapped_take f (suc n) [] = refl
mapped_take f (suc n) (x ∷ xs) = ap (λ ys. f x ∷ ys) (mapped_take f n xs)

many_planned : (plan : PlanValue) (end : Position) (all : List GroupValue) → length (filter (lies_within end) (map (planned_group plan) all)) ≡ length (filter (λ (g : GroupValue). within_of g.position end) all)
many_planned plan end [] = refl
many_planned plan end (g ∷ all) = of_test (within_of g.position end) (many_planned plan end all)
  where
    of_test : (t : Bool) → length (filter (lies_within end) (map (planned_group plan) all)) ≡ length (filter (λ (h : GroupValue). within_of h.position end) all)
        → length (cond t (planned_group plan g ∷ filter (lies_within end) (map (planned_group plan) all)) (filter (lies_within end) (map (planned_group plan) all))) ≡ length (cond t (g ∷ filter (λ (h : GroupValue). within_of h.position end) all) (filter (λ (h : GroupValue). within_of h.position end) all))
    of_test true e = ap suc e
    of_test false e = e

is_opened : (plan : PlanValue) (until : Option (List ℕ)) (past : PastEvents) (all : List GroupValue) (whole feed : FeedValue) → whole.plan ≡ plan → first_fault (source_of plan) past ≡ None → groups_of (source_of plan) past ≡ all → map (planned_group plan) all ≡ whole.groups → IsEndedBy until whole feed → IsOpened plan until all feed
is_opened plan None past all whole feed same faultless all_is are ended = record {
  end = None;
  ends = tt;
  set = tt;
  groups = ap (λ (f : FeedValue). f.groups) ended ∙ sym are;
  plan_is = ap (λ (f : FeedValue). f.plan) ended ∙ same;
}
is_opened plan (Some text) past all whole feed same faultless all_is are (end, read, ends) =
    let set = position-canonical text end read in
    let many : ends.number ≡ length (filter (λ (g : GroupValue). within_of g.position end) all) = ends.last ∙ ap (λ (gs : List PlannedGroupValue). length (filter (lies_within end) gs)) (sym are) ∙ many_planned plan end all in
    let first : take (length (filter (λ (g : GroupValue). within_of g.position end) all)) all ≡ groups_before (Some end) all = subst (λ (gs : List GroupValue). take (length (filter (λ (g : GroupValue). within_of g.position end) gs)) gs ≡ groups_before (Some end) gs) all_is (groups_are_first (source_of plan) past end set faultless) in
    record {
      end = Some end;
      ends = (position_says text end read, tt);
      set = set;
      groups = ends.groups ∙ ap (λ n. take n whole.groups) many ∙ ap (λ (gs : List PlannedGroupValue). take (length (filter (λ (g : GroupValue). within_of g.position end) all)) gs) (sym are)
          ∙ mapped_take (planned_group plan) (length (filter (λ (g : GroupValue). within_of g.position end) all)) all ∙ ap (map (planned_group plan)) first;
      plan_is = ends.plan ∙ same;
    }

pub touches_say : (plan : PlanValue) (until : Option (List ℕ)) (bytes : List ℕ) (whole feed : FeedValue) → whole.plan ≡ plan → groups_under bytes plan ≡ Ok whole.groups → IsEndedBy until whole feed → length (sound_groups feed) ≡ length feed.groups
    → SaysTouches plan until bytes (touches_in (sound_groups feed))
touches_say plan until bytes whole feed same given ended sound =
    let under = is_under plan bytes whole.groups given in
    let source = source_of plan in
    let events = (events_of_feed bytes).items in
    let defined = is_defined source bytes under.all under.given in
    let opened = is_opened plan until (reverse events) under.all whole feed same defined.faultless defined.groups_are under.are ended in
    let before = groups_before opened.end under.all in
    let groups_are : sound_groups feed ≡ ok_prefix (groups_prepared plan before) = ap (λ (p : PlanValue). ok_prefix (map (prepared p) feed.groups)) opened.plan_is ∙ ap (λ (gs : List PlannedGroupValue). ok_prefix (map (prepared plan) gs)) opened.groups in
    let many : length feed.groups ≡ length before = ap length opened.groups ∙ mapped_length (planned_group plan) before in
    let all_sound : length (ok_prefix (groups_prepared plan before)) ≡ length before = ap length (sym groups_are) ∙ sound ∙ many in
    record {
      events = events;
      has = feed_says bytes defined.read;
      columns = agree_all plan events under.columns;
      blocks = blocks source (reverse events);
      grouped = are_blocks source events defined.faultless defined.shut;
      end = opened.end;
      ends = opened.ends;
      changes = changes_in_groups before;
      fresh = subst (λ (gs : List GroupValue). AreChanges opened.end [] (blocks source (reverse events)) (changes_in_groups (groups_before opened.end gs))) defined.groups_are (are_changes opened.end source (reverse events) opened.set defined.faultless);
      made = subst (λ (gs : List PreparedValue). HaveTogether (AreOfChange plan) (changes_in_groups before) (touches_in gs)) (sym groups_are) (groups_made plan before all_sound);
    }

-- ---- the rows

passed : (b : Bool) (row : RowValue) (out : RowValue) → b ≡ true → cond b (Some row) None ≡ Some row
passed true row out e = refl
passed false row out e = absurd cc

passing_is : (put : PutValue) → put.passes ≡ true → passing put ≡ Some put.row
passing_is put e = passed put.passes put.row put.row e

-- what a stream keeps at a key, of what its touches left there
abbrev kept_of_last : PlanValue → KeyValue → Option (Option PutValue) → Option RowValue
kept_of_last plan key last = option_map (kept_of plan key) (option_and_then passing (option_and_then (λ put. put) last))

kept_at_is : (feed : FeedValue) (key : KeyValue) → length (sound_groups feed) ≡ length feed.groups → kept_at feed.plan (sound_groups feed) (length feed.groups) key ≡ kept_of_last feed.plan key (last_at key_cmp (touches_in (sound_groups feed)) key)
kept_at_is feed key sound = ap (λ (gs : List PreparedValue). kept_of_last feed.plan key (last_at key_cmp (touches_in gs) key)) (ap (λ n. take n (sound_groups feed)) (sym sound) ∙ take_all (sound_groups feed))

record IsKept (plan : PlanValue) (key : KeyValue) (last : Option (Option PutValue)) (row : RowValue) : Type 0 where
  put : PutValue
  last_is : last ≡ Some (Some put)
  passes : put.passes ≡ true
  kept : row ≡ kept_of plan key put.row

kept_if : (plan : PlanValue) (key : KeyValue) (put : PutValue) (row : RowValue) (b : Bool) → put.passes ≡ b → option_map (kept_of plan key) (cond b (Some put.row) None) ≡ Some row → IsKept plan key (Some (Some put)) row
kept_if plan key put row true is e = let same : kept_of plan key put.row ≡ row = cc in record { put = put; last_is = refl; passes = is; kept = sym same }
kept_if plan key put row false is e = absurd cc

is_kept : (plan : PlanValue) (key : KeyValue) (last : Option (Option PutValue)) (row : RowValue) → kept_of_last plan key last ≡ Some row → IsKept plan key last row
is_kept plan key None row e = absurd cc
is_kept plan key (Some None) row e = absurd cc
is_kept plan key (Some (Some put)) row e = kept_if plan key put row put.passes refl e

-- all feeds are sound
abbrev AllSound : List FeedValue → Type 0
AllSound feeds = (s : ℕ) (feed : FeedValue) → slice_get feeds s ≡ Some feed → length (sound_groups feed) ≡ length feed.groups

feed_keeps : (feeds : List FeedValue) (s : ℕ) (key : KeyValue) (row : RowValue) → AllSound feeds → Keeps (map stream_of feeds) s key row → FeedKeeps feeds s key row
feed_keeps feeds s key row sound keeps =
    let one = mapped_at stream_of feeds s keeps.stream keeps.there in
    let feed = one.0 in
    let last : last_at key_cmp (touches_in (sound_groups feed)) key ≡ Some (Some keeps.put) = ap (λ (x : Stream). last_at key_cmp x.touches key) one.2 ∙ keeps.last in
    let own : kept_of feed.plan key keeps.put.row ≡ row = ap (λ (x : Stream). kept_of x.plan key keeps.put.row) one.2 ∙ sym keeps.kept in
    record {
      feed = feed;
      there = one.1;
      kept = kept_at_is feed key (sound s feed one.1) ∙ ap (kept_of_last feed.plan key) last ∙ ap (option_map (kept_of feed.plan key)) (passing_is keeps.put keeps.passes) ∙ ap Some own;
    }

stream_keeps : (feeds : List FeedValue) (s : ℕ) (key : KeyValue) (row : RowValue) → AllSound feeds → FeedKeeps feeds s key row → Keeps (map stream_of feeds) s key row
stream_keeps feeds s key row sound keeps =
    let is = is_kept keeps.feed.plan key (last_at key_cmp (touches_in (sound_groups keeps.feed)) key) row (sym (kept_at_is keeps.feed key (sound s keeps.feed keeps.there)) ∙ keeps.kept) in
    record { stream = stream_of keeps.feed; there = mapped_there stream_of feeds s keeps.feed keeps.there; put = is.put; last = is.last_is; passes = is.passes; kept = is.kept }

are_kept_rows : (feeds : List FeedValue) (rows : DumpRowsValue) → AllSound feeds → AreRowsOf feeds rows → AreKeptRows (map stream_of feeds) rows
are_kept_rows feeds rows sound of_feeds = record {
  rising = of_feeds.rising;
  each_key = λ key row. (
    λ there. (let one = (of_feeds.each_key key row).0 there in (one.0, stream_keeps feeds one.0 key row sound one.1)),
    λ some. (of_feeds.each_key key row).1 (some.0, feed_keeps feeds some.0 key row sound some.1),
  );
  apart = λ s t key row other one two. of_feeds.apart s t key row other (feed_keeps feeds s key row sound one) (feed_keeps feeds t key other sound two);
}

-- ---- the whole

ended_plan : (until : Option (List ℕ)) (whole feed : FeedValue) → IsEndedBy until whole feed → feed.plan ≡ whole.plan
ended_plan None whole feed ended = ap (λ (f : FeedValue). f.plan) ended
ended_plan (Some text) whole feed (end, read, ends) = ends.plan

pub run_is_right : (workflow : List ℕ) (bytes : List (List ℕ)) (until : List UntilValue) (plans : List PlanValue) (feeds : List FeedValue) (rows : DumpRowsValue) (first : PlanValue) → plans_of workflow ≡ Ok plans → AreGiven plans bytes until feeds
    → AreRowsOf feeds rows → slice_get plans 0 ≡ Some first → RunIsRight workflow bytes until (dump_of first rows)
run_is_right workflow bytes until plans feeds rows first says given of_feeds at_front =
    let many : length feeds ≡ length plans = given.ended.count ∙ given.count in
    let plan_at : (s : ℕ) (plan : PlanValue) (feed : FeedValue) → slice_get plans s ≡ Some plan → slice_get feeds s ≡ Some feed → feed.plan ≡ plan = λ s plan feed plan_is feed_is.
    let whole = there_too given.whole plans s plan given.count plan_is in
    let one = there_too bytes plans s plan given.given plan_is in
    ended_plan (text_for s until) whole.0 feed (given.ended.each s whole.0 feed whole.1 feed_is) ∙ (given.each s plan one.0 whole.0 plan_is one.1 whole.1).plan_of in
    let plans_are : map (λ (s : Stream). s.plan) (map stream_of feeds) ≡ plans = same_lists (map (λ (s : Stream). s.plan) (map stream_of feeds)) plans (mapped_length (λ (s : Stream). s.plan) (map stream_of feeds) ∙ mapped_length stream_of feeds ∙ many) (λ i x y x_is y_is.
    let stream = mapped_at (λ (s : Stream). s.plan) (map stream_of feeds) i x x_is in
    let feed = mapped_at stream_of feeds i stream.0 stream.1 in
    sym stream.2 ∙ ap (λ (s : Stream). s.plan) (sym feed.2) ∙ plan_at i y feed.0 y_is feed.1) in
    let front = there_too feeds plans 0 first many at_front in
    record {
      streams = map stream_of feeds;
      plans = subst (SaysPlans workflow) (sym plans_are) (plans_say workflow plans says);
      fed = record {
        count = given.given ∙ sym many ∙ sym (mapped_length stream_of feeds);
        each = λ s one stream one_is stream_is.
            let feed = mapped_at stream_of feeds s stream stream_is in
            let plan = there_too plans feeds s feed.0 (sym many) feed.1 in
            let whole = there_too given.whole plans s plan.0 given.count plan.1 in
            let same = plan_at s plan.0 feed.0 plan.1 feed.1 in
            let is = given.each s plan.0 one whole.0 plan.1 one_is whole.1 in
            subst (λ (x : Stream). SaysTouches x.plan (text_for s until) one x.touches) feed.2
            (subst (λ (p : PlanValue). SaysTouches p (text_for s until) one (touches_in (sound_groups feed.0))) (sym same)
            (touches_say plan.0 (text_for s until) one whole.0 feed.0 is.plan_of is.groups (given.ended.each s whole.0 feed.0 whole.1 feed.1) (given.sound s feed.0 feed.1)));
      };
      rows = rows;
      kept = are_kept_rows feeds rows given.sound of_feeds;
      first = stream_of front.0;
      tables = mapped_there stream_of feeds 0 front.0 front.1;
      dump = ap (λ (p : PlanValue). dump_of p rows) (sym (plan_at 0 first front.0 at_front front.1));
    }
