-- A feed and its end behind a piece that was taken.
use Rattle.std.proofs.Common.{◌≡◌, ℕ, zero, suc, ◌+◌, ◌^◌, ◌<◌, ◌≤◌, false, List, [], ◌∷◌, ◌++◌, length, length-append, take, drop, reverse, map, Some, Result, Ok, Err, append_assoc, refl, sym, ap, subst, ◌∙◌, arith}
use Rattle.std.proofs.lemmas.Bool.{cond-false}
use Rattle.std.proofs.lemmas.List.{append-nil, length-map, map-append, reverse-append}
use Rattle.std.specs.List.{list_any}
use Rattle.std.specs.Option.{option_map}
use Rattle.gtid_set.specs.Position.{IsCanonical}
use Rattle.filter_rule.specs.WellFormed.{IsPlan}
use Rattle.source_feed.specs.declared.fault.FeedFault.{FeedFault}
use Rattle.source_feed.specs.declared.feed_end.FeedEnd.{FeedEnd}
use Rattle.source_feed.specs.declared.feed_tables.FeedTables.{FeedTables}
use Rattle.source_feed.specs.declared.group_reader.GroupReader.{GroupReader}
use Rattle.source_feed.specs.declared.kept.KeptGroups.{KeptGroups}
use Rattle.source_feed.specs.GroupValue.{Position, GroupValue}
use Rattle.source_feed.specs.SourceValue.{SourceValue}
use Rattle.source_feed.specs.EventList.{events_of_feed}
use Rattle.source_feed.specs.PastEvents.{PastEvents, is_open, width_of, body_position}
use Rattle.source_feed.specs.Groups.{seen, groups_of, groups}
use Rattle.source_feed.specs.Planned.{PlannedGroupValue, FeedValue, source_of, differs, planned_group, groups_under, IsFeed}
use Rattle.source_feed.specs.Growing.{IsSettledFront, IsEndOf}
use Rattle.source_feed.specs.Private.EventByEvent.{groups_at_end}
use Rattle.source_feed.specs.Private.BlockEnd.{last_position}
use Rattle.source_feed.specs.Private.FeedTables.{width_in, names_in, numbers_in, counted, AreNumbered}
use Rattle.source_feed.specs.Private.KeptGroups.{KeptGroupValue, named_group, numbered_group}
use Rattle.source_feed.specs.Private.KnownBehind.{past_of, KnownBehind}
use Rattle.source_feed.specs.Private.NamedGroups.{all_named}
use Rattle.source_feed.specs.Private.ReadOn.{IsSettledRead}
use Rattle.source_feed.specs.Private.SetLaws.{SetLaws}
use Rattle.source_feed.specs.Private.Start.{reached_in}
use Rattle.source_feed.proofs.DefinedLaws.{in_order}
use Rattle.source_feed.proofs.EndLaws.{Known, known, Sound, sound, under_of, groups_behind, differs_behind, reached-behind}
use Rattle.source_feed.proofs.GrowingLaws.{Events, events_behind_whole, open_behind, settled_behind}
use Rattle.source_feed.proofs.NumberedLaws.{kept_under}
use Rattle.source_feed.proofs.OrderLaws.{InOrder}
use Rattle.source_feed.proofs.PlanLaws.{opened_feed, differs-from}
use Rattle.source_feed.proofs.ReaderSteps.{ends-of_tables}

long-take : {A : Type 0} (n : ℕ) (xs : List A) → n ≤ length xs → length (take n xs) ≡ n
long-take zero xs le = refl
long-take (suc n) [] le = absurd (omega arith)
long-take (suc n) (x ∷ xs) le = ap suc (long-take n xs (omega arith))

module _ (laws : SetLaws) (bytes piece : List ℕ) (taken : ℕ) (feed : FeedValue) (end : FeedEnd) (reader : GroupReader) (e : IsEndOf bytes feed end) (r : IsSettledRead bytes feed piece reader taken)
    (short : length bytes + length piece < 2 ^ 31) where
  abbrev front : List ℕ
  front = take taken piece

  abbrev source : SourceValue
  source = source_of feed.plan

  abbrev history : PastEvents
  history = reverse (events_of_feed front).items ++ past_of bytes

  abbrev base : List GroupValue
  base = groups_of source (past_of bytes)

  k : Known bytes feed.plan feed.groups
  k = known bytes feed.plan feed.groups e.groups

  s : Sound bytes source k.all
  s = sound bytes source k.all k.defined

  closed : is_open history ≡ false
  closed = open_behind (reverse (events_of_feed front).items) (past_of bytes) s.settled.outside ∙ r.front.settled.outside

  ended : groups_at_end source (Ok history) ≡ Ok (groups_of source history)
  ended = cond-false (is_open history) _ _ closed

  abbrev end_refused : FeedFault → Result (List GroupValue) FeedFault
  end_refused fault = Err fault

  -- the groups are given
  pub not_open : (fault : FeedFault) → groups_at_end source (Ok history) ≡ Err fault → ⊥
  not_open fault e = let no : Ok (groups_of source history) ≡ end_refused fault = sym ended ∙ e in cc

  long : length (bytes ++ front) ≡ length bytes + taken
  long = length-append bytes front ∙ ap (λ (n : ℕ). length bytes + n) (long-take taken piece r.within)

  within : length (bytes ++ front) < 2 ^ 31
  within = omega (arith, long, r.within, short)

  all : groups (bytes ++ front) source ≡ Ok (groups_of source history)
  all = groups_behind bytes front source k.all s r.front.settled within r.past ∙ ended

  past : past_of (bytes ++ front) ≡ history
  past = ap (λ (x : Events). reverse x.items) (events_behind_whole bytes front s.settled.whole s.settled.read) ∙ reverse-append (events_of_feed bytes).items (events_of_feed front).items

  pub settled_front : IsSettledFront (bytes ++ piece) (bytes ++ front) (drop taken piece)
  settled_front = record {
    parts = ap (λ (p : List ℕ). bytes ++ p) r.front.parts ∙ sym (append_assoc bytes front (drop taken piece));
    settled = settled_behind bytes front s.settled r.front.settled;
    unsettled = r.front.unsettled;
  }

  module _ (kept : KeptGroups) (same_groups : kept.groups.items ≡ reader.groups.items) (same_tables : kept.tables ≡ reader.tables) where
    abbrev more : List PlannedGroupValue
    more = map (numbered_group (numbers_in kept.tables)) kept.groups.items

    -- the new groups are behind the old ones
    of_history : base ++ all_named kept ≡ groups_of source history
    of_history =
        ap (λ (tables : FeedTables). base ++ map (named_group (names_in tables)) kept.groups.items) same_tables
        ∙ ap (λ (items : List KeptGroupValue). base ++ map (named_group (names_in reader.tables)) items) same_groups
        ∙ ap (λ (names : List (List ℕ)). base ++ map (named_group names) reader.groups.items) (sym (append-nil (names_in reader.tables)))
        ∙ r.behind.groups []

    numbers : AreNumbered (Some feed.plan) kept.tables
    numbers = subst (AreNumbered (Some feed.plan)) (sym same_tables) r.numbers

    tables : (later : List (List ℕ)) → map (named_group (names_in kept.tables ++ later)) kept.groups.items ≡ map (named_group (names_in kept.tables)) kept.groups.items
    tables later =
        ap (λ (ts : FeedTables). map (named_group (names_in ts ++ later)) kept.groups.items) same_tables
        ∙ ap (map (named_group (names_in reader.tables ++ later))) same_groups
        ∙ ends-of_tables base source history reader r.behind later
        ∙ ap (map (named_group (names_in reader.tables))) (sym same_groups)
        ∙ ap (λ (ts : FeedTables). map (named_group (names_in ts)) kept.groups.items) (sym same_tables)

    whole : feed.groups ++ more ≡ map (planned_group feed.plan) (groups_of source history)
    whole =
        ap (λ (gs : List PlannedGroupValue). gs ++ more) (k.are ∙ ap (map (planned_group feed.plan)) (sym s.are))
        ∙ ap (λ (gs : List PlannedGroupValue). map (planned_group feed.plan) base ++ gs) (kept_under feed.plan kept numbers tables)
        ∙ sym (map-append (planned_group feed.plan) base (all_named kept))
        ∙ ap (map (planned_group feed.plan)) of_history

    alike : list_any (differs feed.plan) (events_of_feed (bytes ++ front)).items ≡ false
    alike = differs_behind bytes front feed.plan k.all s k.alike r.alike

    pub grown_groups : groups_under (bytes ++ front) feed.plan ≡ Ok (feed.groups ++ more)
    grown_groups = under_of (bytes ++ front) feed.plan (groups_of source history) all alike ∙ ap (λ (gs : List PlannedGroupValue). Ok gs) (sym whole)

    -- how many they are
    count : length (groups_of source history) ≡ reader.start.groups + length reader.groups.items
    count =
        ap length (sym of_history) ∙ length-append base (all_named kept)
        ∙ ap (λ (n : ℕ). length base + n) (length-map kept.groups.items (named_group (names_in kept.tables)) ∙ ap length same_groups)
        ∙ ap (λ (n : ℕ). n + length reader.groups.items) (sym r.behind.start)

    few : length (groups_of source history) < 2 ^ 31
    few = omega (arith, count, r.room, r.within, short)

    order : InOrder (groups_of source history)
    order = in_order laws (λ (gs : List GroupValue). gs) (bytes ++ front) source (Ok (groups_of source history)) all

    pub is_feed : IsPlan feed.plan → IsFeed (record { plan = feed.plan; groups = feed.groups ++ more })
    is_feed planned =
        opened_feed feed.plan feed.plan (bytes ++ front) (groups_of source history) (feed.groups ++ more) (Some feed.plan) false false planned refl whole order few all refl refl
        (sym (differs-from feed.plan (events_of_feed (bytes ++ front)).items ∙ alike))

    same_length : length (feed.groups ++ more) ≡ length (groups_of source history)
    same_length = ap length whole ∙ length-map (groups_of source history) (planned_group feed.plan)

    -- and what the new end keeps
    pub known_behind : (new : FeedEnd) → new.tables ≡ kept.tables → new.length ≡ end.length + taken → KnownBehind (bytes ++ front) (record { plan = feed.plan; groups = feed.groups ++ more }) new
    known_behind new new_tables new_length =
        let names : length (names_in new.tables) ≡ length (names_in reader.tables) = ap (λ (ts : FeedTables). length (names_in ts)) (new_tables ∙ same_tables) in
        record {
          many = omega (arith, new_length, e.known.many, long);
          room = omega (arith, same_length, count, names, r.room, long);
          widths = λ table. ap (λ (ts : FeedTables). width_in ts table) (new_tables ∙ same_tables) ∙ r.behind.widths table ∙ ap (λ (h : PastEvents). option_map counted (width_of source h table)) (sym past);
          numbers = subst (AreNumbered (Some feed.plan)) (sym new_tables) numbers;
          last = ap (λ (h : PastEvents). reached_in (groups_of source h)) past
              ∙ ap reached_in (sym of_history)
              ∙ reached-behind base (names_in kept.tables) kept.groups.items
              ∙ ap (last_position (reached_in base)) same_groups
              ∙ ap (λ (p : Position). last_position p reader.groups.items) (sym r.behind.reached)
              ∙ r.behind.last
              ∙ ap (seen source) (sym past);
          canonical = subst (λ (h : PastEvents). IsCanonical (seen source h)) (sym past) r.behind.seen_canonical;
          placed = subst (λ (h : PastEvents). (position : Position) → body_position source h ≡ Some position → IsCanonical position) (sym past) r.behind.body_canonical;
        }

    -- so they are a feed and its end
    pub grown_end : (planned : List PlannedGroupValue) (grown : FeedValue) (new : FeedEnd) → planned ≡ more → grown ≡ record { plan = feed.plan; groups = feed.groups ++ planned } → new.tables ≡ kept.tables → new.length ≡ end.length + taken
        → IsEndOf (bytes ++ front) grown new
    grown_end planned grown new planned_is grown_is new_tables new_length =
        let is : grown ≡ record { plan = feed.plan; groups = feed.groups ++ more } = grown_is ∙ ap (λ (gs : List PlannedGroupValue). record { plan = feed.plan; groups = feed.groups ++ gs }) planned_is in
        subst (λ (f : FeedValue). IsEndOf (bytes ++ front) f new) (sym is) (record { groups = grown_groups; known = known_behind new new_tables new_length })
