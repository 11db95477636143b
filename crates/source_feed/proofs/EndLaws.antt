-- A feed with its end: what the groups under a plan say of the bytes, and what a piece behind them makes of it.
use Rattle.std.proofs.Common.{◌≡◌, ℕ, zero, suc, ◌-◌, ◌^◌, ◌<◌, ◌||◌, nat_lt, Bool, true, false, cond, List, [], ◌∷◌, ◌++◌, length, length-append, reverse, map, slice_get, Option, None, Some, Result, Ok, Err, refl, sym, ap, subst, ◌∙◌, arith, inl, inr}
use Rattle.std.proofs.lemmas.Bool.{cases_Bool, cond-true, cond-false, ltb-true}
use Rattle.std.proofs.lemmas.List.{append-nil, length-map}
use Rattle.std.proofs.lemmas.List.Folds.{list_any-append}
use Rattle.std.specs.List.{list_any}
use Rattle.std.specs.Option.{option_map, option_map_or, option_or}
use Rattle.list_laws.specs.Outcome.{◌>>=◌, unless}
use Rattle.proto_wire.specs.Reading.{Reading}
use Rattle.proto_wire.specs.Frame.{frames_of}
use Rattle.proto_wire.specs.declared.fault.FrameFault.{FrameFault}
use Rattle.vevent.specs.EventValue.{EventValue}
use Rattle.filter_rule.specs.PlanValue.{PlanValue}
use Rattle.source_feed.specs.declared.fault.FeedFault.{FeedFault}
use Rattle.source_feed.specs.declared.fault.FeedFault.TheVariants.{FeedTooLong, Frame, FieldsDiffer, OpenAtEnd}
use Rattle.source_feed.specs.GroupValue.{Position, GroupValue}
use Rattle.source_feed.specs.SourceValue.{SourceValue}
use Rattle.source_feed.specs.EventList.{fault_of_frame, events_in_messages, events_of_feed}
use Rattle.source_feed.specs.PastEvents.{PastEvents, is_open, width_of, body_position}
use Rattle.source_feed.specs.Groups.{seen, groups_of, first_fault, fault_at, closed, groups_in, groups}
use Rattle.source_feed.specs.Pieces.{is_no_length, broken_by}
use Rattle.source_feed.specs.Planned.{PlannedGroupValue, FeedValue, source_of, differs, planned_group, planned_groups, groups_under, IsFeed}
use Rattle.source_feed.specs.Growing.{AreSettled, events_so_far, fault_in}
use Rattle.source_feed.specs.Private.EventByEvent.{past_behind, groups_at_end}
use Rattle.source_feed.specs.Private.KnownBehind.{past_of}
use Rattle.source_feed.proofs.EventByEventLaws.{groups-run, past_behind-append}
use Rattle.source_feed.proofs.GrowingLaws.{Events, ended, past_is, events_behind_whole, so_far_behind_whole}
use Rattle.source_feed.specs.declared.feed_end.FeedEnd.{FeedEnd}
use Rattle.source_feed.specs.declared.group_reader.GroupReader.{GroupReader}
use Rattle.source_feed.specs.Growing.{IsEndOf}
use Rattle.source_feed.specs.Private.BlockEnd.{last_position}
use Rattle.source_feed.specs.Private.FeedTables.{width_in, names_in, counted, AreNumbered}
use Rattle.source_feed.proofs.FrameLaws.{frames_none}
use Rattle.filter_rule.specs.WellFormed.{IsPlan}
use Rattle.gtid_set.specs.Position.{IsCanonical}
use Rattle.source_feed.specs.Private.KeptGroups.{KeptGroupValue, named_group}
use Rattle.source_feed.specs.Private.KnownBehind.{reached_by}
use Rattle.source_feed.specs.Private.ReaderState.{body_held, IsBehind}
use Rattle.source_feed.specs.Private.Start.{start_position, reached_in}

-- ---- the groups under a plan

abbrev given : List PlannedGroupValue → Result (List PlannedGroupValue) FeedFault
given gs = Ok gs

-- what groups under a plan say of the bytes
pub record Known (bytes : List ℕ) (plan : PlanValue) (gs : List PlannedGroupValue) : Type 0 where
  pub all : List GroupValue
  pub defined : groups bytes (source_of plan) ≡ Ok all
  pub are : gs ≡ map (planned_group plan) all
  pub alike : list_any (differs plan) (events_of_feed bytes).items ≡ false

known_by : (bytes : List ℕ) (plan : PlanValue) (gs : List PlannedGroupValue) (r : Result (List GroupValue) FeedFault) → groups bytes (source_of plan) ≡ r
    → planned_groups plan (events_of_feed bytes).items r ≡ Ok gs → Known bytes plan gs
known_by bytes plan gs (Err fault) d e = cc
known_by bytes plan gs (Ok all) d e =
    elim (cases_Bool (list_any (differs plan) (events_of_feed bytes).items)) [
      | inl differ ↦ let no : Err FieldsDiffer ≡ given gs = sym (cond-true (list_any (differs plan) (events_of_feed bytes).items) (Err FieldsDiffer) (Ok (map (planned_group plan) all)) differ) ∙ e in cc
      | inr same ↦
          let ok : given (map (planned_group plan) all) ≡ given gs = sym (cond-false (list_any (differs plan) (events_of_feed bytes).items) (Err FieldsDiffer) (Ok (map (planned_group plan) all)) same) ∙ e in
          record { all = all; defined = d; are = cc; alike = same }
    ]

pub known : (bytes : List ℕ) (plan : PlanValue) (gs : List PlannedGroupValue) → groups_under bytes plan ≡ Ok gs → Known bytes plan gs
known bytes plan gs e = known_by bytes plan gs (groups bytes (source_of plan)) refl e

pub under_of : (bytes : List ℕ) (plan : PlanValue) (all : List GroupValue) → groups bytes (source_of plan) ≡ Ok all → list_any (differs plan) (events_of_feed bytes).items ≡ false
    → groups_under bytes plan ≡ Ok (map (planned_group plan) all)
under_of bytes plan all d same = ap (planned_groups plan (events_of_feed bytes).items) d ∙ cond-false (list_any (differs plan) (events_of_feed bytes).items) _ _ same

-- ---- bytes whose groups are defined

abbrev all_given : List GroupValue → Result (List GroupValue) FeedFault
all_given all = Ok all

-- they are settled, and no event of theirs is at fault
pub record Sound (bytes : List ℕ) (source : SourceValue) (all : List GroupValue) : Type 0 where
  pub short : length bytes < 2 ^ 31
  pub settled : AreSettled bytes
  pub past : past_behind source [] (events_of_feed bytes).items None ≡ Ok (past_of bytes)
  pub are : groups_of source (past_of bytes) ≡ all

messages_whole : (messages : List (List ℕ)) (end : Option FrameFault) → (events_in_messages messages end).fault ≡ None → end ≡ None
messages_whole messages None e = refl
messages_whole messages (Some fault) e = by (events_in_messages messages None).fault (sym (ap (λ (r : Events). r.fault) (ended messages (Some fault))) ∙ e)
  where
    by : (first : Option FeedFault) → option_or first (Some Frame) ≡ None → Some fault ≡ None
    by None e = cc
    by (Some f) e = cc

module _ (bytes : List ℕ) (source : SourceValue) (all : List GroupValue) (short : length bytes < 2 ^ 31) where
  by_end : (history : PastEvents) → (events_of_feed bytes).fault ≡ None → history ≡ past_of bytes → past_behind source [] (events_of_feed bytes).items (events_of_feed bytes).fault ≡ Ok history
      → groups_at_end source (Ok history) ≡ Ok all → Sound bytes source all
  by_end history none is p e =
      elim (cases_Bool (is_open history)) [
        | inl opened ↦ let no : Err OpenAtEnd ≡ all_given all = sym (cond-true (is_open history) (Err OpenAtEnd) (Ok (groups_of source history)) opened) ∙ e in cc
        | inr shut ↦
            let ok : all_given (groups_of source history) ≡ all_given all = sym (cond-false (is_open history) (Err OpenAtEnd) (Ok (groups_of source history)) shut) ∙ e in
            record {
              short = short;
              settled = record { whole = messages_whole (frames_of bytes).items (frames_of bytes).fault none; read = none; outside = ap is_open (sym is) ∙ shut };
              past = ap (past_behind source [] (events_of_feed bytes).items) (sym none) ∙ p ∙ ap (λ (h : PastEvents). Ok h) is;
              are = ap (groups_of source) (sym is) ∙ same_all (groups_of source history) ok;
            }
      ]
    where
      same_all : (found : List GroupValue) → all_given found ≡ all_given all → found ≡ all
      same_all found e = cc

  by_past : (r : Result PastEvents FeedFault) → past_behind source [] (events_of_feed bytes).items (events_of_feed bytes).fault ≡ r → groups_at_end source r ≡ Ok all → Sound bytes source all
  by_past (Err fault) p e = cc
  by_past (Ok history) p e =
      let is = past_is source (events_of_feed bytes).items (events_of_feed bytes).fault [] history p in
      by_end history is.0 (is.1 ∙ append-nil (past_of bytes)) p e

  pub sound_within : groups bytes source ≡ Ok all → Sound bytes source all
  sound_within e = by_past (past_behind source [] (events_of_feed bytes).items (events_of_feed bytes).fault) refl (sym (groups-run bytes source short) ∙ e)

pub sound : (bytes : List ℕ) (source : SourceValue) (all : List GroupValue) → groups bytes source ≡ Ok all → Sound bytes source all
sound bytes source all e =
    elim (cases_Bool (nat_lt (length bytes) (2 ^ 31))) [
      | inl short ↦ sound_within bytes source all (ltb-true (length bytes) (2 ^ 31) short) e
      | inr long ↦ let no : Err FeedTooLong ≡ all_given all = sym (cond-false (nat_lt (length bytes) (2 ^ 31)) (groups_in source (events_of_feed bytes)) (Err FeedTooLong) long) ∙ e in cc
    ]

-- ---- a settled piece behind them

-- the groups of both, where no event of the piece is at fault
pub groups_behind : (bytes piece : List ℕ) (source : SourceValue) (all : List GroupValue) → Sound bytes source all → AreSettled piece → length (bytes ++ piece) < 2 ^ 31
    → past_behind source (past_of bytes) (events_of_feed piece).items None ≡ Ok (reverse (events_of_feed piece).items ++ past_of bytes)
    → groups (bytes ++ piece) source ≡ groups_at_end source (Ok (reverse (events_of_feed piece).items ++ past_of bytes))
groups_behind bytes piece source all s t short past =
    groups-run (bytes ++ piece) source short
    ∙ ap (λ (r : Events). groups_at_end source (past_behind source [] r.items r.fault)) (events_behind_whole bytes piece s.settled.whole s.settled.read)
    ∙ ap (λ (end : Option FeedFault). groups_at_end source (past_behind source [] ((events_of_feed bytes).items ++ (events_of_feed piece).items) end)) t.read
    ∙ ap (groups_at_end source) (past_behind-append source [] (events_of_feed bytes).items (events_of_feed piece).items None)
    ∙ ap (λ (r : Result PastEvents FeedFault). groups_at_end source (r >>= λ h. past_behind source h (events_of_feed piece).items None)) s.past
    ∙ ap (groups_at_end source) past

-- ---- a piece that is refused

-- a fault of the events that have come is one whatever ends them
stays_fault : (source : SourceValue) (history : PastEvents) (events : List EventValue) (first one other : Option FeedFault) (fault : FeedFault)
    → ((some : FeedFault) → one ≡ Some some → other ≡ Some some)
    → past_behind source history events (option_or first one) ≡ Err fault → past_behind source history events (option_or first other) ≡ Err fault
stays_fault source history [] None None other fault same e = cc
stays_fault source history [] None (Some f) other fault same e = ap (λ (end : Option FeedFault). past_behind source history [] end) (same f refl) ∙ e
stays_fault source history [] (Some f) one other fault same e = e
stays_fault source history (event ∷ events) first one other fault same e = by (fault_at source history event) (stays_fault source (event ∷ history) events first one other fault same) e
  where
    by : (f : Option FeedFault)
        → (past_behind source (event ∷ history) events (option_or first one) ≡ Err fault → past_behind source (event ∷ history) events (option_or first other) ≡ Err fault)
        → (unless f >>= λ _. past_behind source (event ∷ history) events (option_or first one)) ≡ Err fault
        → (unless f >>= λ _. past_behind source (event ∷ history) events (option_or first other)) ≡ Err fault
    by None more e = more e
    by (Some f) more e = e

broken_frame : (o : Option FrameFault) (some : FeedFault) → broken_by o ≡ Some some → fault_of_frame o ≡ Some some
broken_frame None some e = cc
broken_frame (Some f) some e = by (is_no_length f.cause) e
  where
    by : (b : Bool) → cond b (Some Frame) None ≡ Some some → Some Frame ≡ Some some
    by true e = e
    by false e = cc

-- the events of the piece as of a whole feed are refused by it too
pub whole_refused : (source : SourceValue) (history : PastEvents) (piece : List ℕ) (fault : FeedFault)
    → past_behind source history (events_so_far piece).items (events_so_far piece).fault ≡ Err fault
    → past_behind source history (events_of_feed piece).items (events_of_feed piece).fault ≡ Err fault
whole_refused source history piece fault e =
    let all : Events = events_in_messages (frames_of piece).items None in
    ap (λ (r : Events). past_behind source history r.items r.fault) (ended (frames_of piece).items (frames_of piece).fault)
    ∙ stays_fault source history all.items all.fault (broken_by (frames_of piece).fault) (fault_of_frame (frames_of piece).fault) fault (broken_frame (frames_of piece).fault) e

pub refused_behind : (bytes piece : List ℕ) (plan : PlanValue) (all : List GroupValue) (fault : FeedFault) → Sound bytes (source_of plan) all → length (bytes ++ piece) < 2 ^ 31
    → past_behind (source_of plan) (past_of bytes) (events_so_far piece).items (events_so_far piece).fault ≡ Err fault
    → groups_under (bytes ++ piece) plan ≡ Err fault
refused_behind bytes piece plan all fault s short e =
    ap (planned_groups plan (events_of_feed (bytes ++ piece)).items) (
    groups-run (bytes ++ piece) (source_of plan) short
    ∙ ap (λ (r : Events). groups_at_end (source_of plan) (past_behind (source_of plan) [] r.items r.fault)) (events_behind_whole bytes piece s.settled.whole s.settled.read)
    ∙ ap (groups_at_end (source_of plan)) (past_behind-append (source_of plan) [] (events_of_feed bytes).items (events_of_feed piece).items (events_of_feed piece).fault)
    ∙ ap (λ (r : Result PastEvents FeedFault). groups_at_end (source_of plan) (r >>= λ h. past_behind (source_of plan) h (events_of_feed piece).items (events_of_feed piece).fault)) s.past
    ∙ ap (groups_at_end (source_of plan)) (whole_refused (source_of plan) (past_of bytes) piece fault e))

-- ---- a piece of which no event is at fault

stays_sound : (source : SourceValue) (events : List EventValue) (end : Option FeedFault) (history next : PastEvents) → first_fault source history ≡ None
    → past_behind source history events end ≡ Ok next → first_fault source next ≡ None
stays_sound source [] None history next none e = ap (first_fault source) (past_is source [] None history next e).1 ∙ none
stays_sound source [] (Some fault) history next none e = cc
stays_sound source (event ∷ events) end history next none e = by (fault_at source history event) refl (stays_sound source events end (event ∷ history) next) e
  where
    by : (fault : Option FeedFault) → fault_at source history event ≡ fault
        → (first_fault source (event ∷ history) ≡ None → past_behind source (event ∷ history) events end ≡ Ok next → first_fault source next ≡ None)
        → (unless fault >>= λ _. past_behind source (event ∷ history) events end) ≡ Ok next → first_fault source next ≡ None
    by None f more e = more (ap (λ (first : Option FeedFault). option_or first (fault_at source history event)) none ∙ f) e
    by (Some fault) f more e = cc

-- nor is one of all that has come
pub none_so_far : (bytes piece : List ℕ) (source : SourceValue) (all : List GroupValue) (history : PastEvents) → Sound bytes source all
    → past_behind source (past_of bytes) (events_so_far piece).items (events_so_far piece).fault ≡ Ok history → fault_in source (events_so_far (bytes ++ piece)) ≡ None
none_so_far bytes piece source all history s e =
    let items : List EventValue = (events_of_feed bytes).items ++ (events_so_far piece).items in
    let run : past_behind source [] items (events_so_far piece).fault ≡ Ok history =
    past_behind-append source [] (events_of_feed bytes).items (events_so_far piece).items (events_so_far piece).fault
    ∙ ap (λ (r : Result PastEvents FeedFault). r >>= λ h. past_behind source h (events_so_far piece).items (events_so_far piece).fault) s.past ∙ e in
    let is = past_is source items (events_so_far piece).fault [] history run in
    ap (fault_in source) (so_far_behind_whole bytes piece s.settled.whole s.settled.read)
    ∙ ap (λ (end : Option FeedFault). option_or (first_fault source (reverse items)) end) is.0
    ∙ ap (λ (h : PastEvents). option_or (first_fault source h) None) (sym (is.1 ∙ append-nil (reverse items)))
    ∙ ap (λ (first : Option FeedFault). option_or first None) (stays_sound source items (events_so_far piece).fault [] history refl run)

any_of_both : {A : Type 0} (f : A → Bool) (xs ys : List A) (b : Bool) → list_any f xs ≡ false → list_any f ys ≡ b → list_any f (xs ++ ys) ≡ b
any_of_both f xs ys b none some = list_any-append f xs ys ∙ ap (λ (c : Bool). c || list_any f ys) none ∙ some

-- the FIELDs of the piece, behind FIELDs that don't differ
pub differs_so_far : (bytes piece : List ℕ) (plan : PlanValue) (all : List GroupValue) (b : Bool) → Sound bytes (source_of plan) all → list_any (differs plan) (events_of_feed bytes).items ≡ false
    → list_any (differs plan) (events_so_far piece).items ≡ b → list_any (differs plan) (events_so_far (bytes ++ piece)).items ≡ b
differs_so_far bytes piece plan all b s none some =
    ap (λ (r : Events). list_any (differs plan) r.items) (so_far_behind_whole bytes piece s.settled.whole s.settled.read)
    ∙ any_of_both (differs plan) (events_of_feed bytes).items (events_so_far piece).items b none some

pub differs_behind : (bytes piece : List ℕ) (plan : PlanValue) (all : List GroupValue) → Sound bytes (source_of plan) all → list_any (differs plan) (events_of_feed bytes).items ≡ false
    → list_any (differs plan) (events_of_feed piece).items ≡ false → list_any (differs plan) (events_of_feed (bytes ++ piece)).items ≡ false
differs_behind bytes piece plan all s none also =
    ap (λ (r : Events). list_any (differs plan) r.items) (events_behind_whole bytes piece s.settled.whole s.settled.read)
    ∙ any_of_both (differs plan) (events_of_feed bytes).items (events_of_feed piece).items false none also

-- ---- the last position

last_there : {A : Type 0} (xs ys : List A) (y : A) → slice_get (xs ++ y ∷ ys) (length (xs ++ y ∷ ys) - 1) ≡ slice_get (y ∷ ys) (length (y ∷ ys) - 1)
last_there [] ys y = refl
last_there (x ∷ xs) ys y =
    let place : length (x ∷ (xs ++ y ∷ ys)) - 1 ≡ suc (length (xs ++ y ∷ ys) - 1) = omega (arith, length-append xs (y ∷ ys)) in
    ap (slice_get (x ∷ (xs ++ y ∷ ys))) place ∙ last_there xs ys y

slice_map : {A B : Type 0} (f : A → B) (xs : List A) (i : ℕ) → slice_get (map f xs) i ≡ option_map f (slice_get xs i)
slice_map f [] i = refl
slice_map f (x ∷ xs) zero = refl
slice_map f (x ∷ xs) (suc i) = slice_map f xs i

pub reached-behind : (base : List GroupValue) (names : List (List ℕ)) (groups : List KeptGroupValue) → reached_in (base ++ map (named_group names) groups) ≡ last_position (reached_in base) groups
reached-behind base names [] = ap reached_in (append-nil base)
reached-behind base names (group ∷ groups) =
    ap (λ (found : Option GroupValue). option_map_or (λ (g : GroupValue). g.position) found []) (last_there base (map (named_group names) groups) (named_group names group)
    ∙ ap (slice_get (map (named_group names) (group ∷ groups))) (ap (λ (n : ℕ). n - 1) (length-map (group ∷ groups) (named_group names)))
    ∙ slice_map (named_group names) (group ∷ groups) (length (group ∷ groups) - 1))
    ∙ twice (slice_get (group ∷ groups) (length (group ∷ groups) - 1)) (there (group ∷ groups) (length (group ∷ groups) - 1) (omega arith))
  where
    there : (gs : List KeptGroupValue) (i : ℕ) → i < length gs → (g : KeptGroupValue) × (slice_get gs i ≡ Some g)
    there [] i h = absurd (omega (arith, h))
    there (g ∷ gs) zero h = (g, refl)
    there (g ∷ gs) (suc i) h = there gs i (omega (arith, h))

    twice : (found : Option KeptGroupValue) → (g : KeptGroupValue) × (found ≡ Some g)
        → option_map_or (λ (g : GroupValue). g.position) (option_map (named_group names) found) [] ≡ option_map_or (λ (g : KeptGroupValue). g.position) found (reached_in base)
    twice None h = cc
    twice (Some g) h = refl

pub reached-planned : (plan : PlanValue) (all : List GroupValue) → reached_by (map (planned_group plan) all) ≡ reached_in all
reached-planned plan all =
    ap (λ (n : ℕ). option_map_or (λ (g : PlannedGroupValue). g.position) (slice_get (map (planned_group plan) all) (n - 1)) []) (length-map all (planned_group plan))
    ∙ ap (λ (found : Option PlannedGroupValue). option_map_or (λ (g : PlannedGroupValue). g.position) found []) (slice_map (planned_group plan) all (length all - 1))
    ∙ twice (slice_get all (length all - 1))
  where
    twice : (found : Option GroupValue) → option_map_or (λ (g : PlannedGroupValue). g.position) (option_map (planned_group plan) found) [] ≡ option_map_or (λ (g : GroupValue). g.position) found []
    twice None = refl
    twice (Some g) = refl

-- ---- a reader behind the end

pub started : (bytes : List ℕ) (feed : FeedValue) (end : FeedEnd) (reader : GroupReader) → IsEndOf bytes feed end → reader.transaction ≡ None → reader.groups.items ≡ []
    → reader.start.groups ≡ length feed.groups → start_position reader.start ≡ reached_by feed.groups
    → ((table : List ℕ) → width_in reader.tables table ≡ width_in end.tables table)
    → IsBehind (groups_of (source_of feed.plan) (past_of bytes)) (source_of feed.plan) (past_of bytes) reader
started bytes feed end reader e closed none many at widths =
    let k = known bytes feed.plan feed.groups e.groups in
    let s = sound bytes (source_of feed.plan) k.all k.defined in
    let base : List GroupValue = groups_of (source_of feed.plan) (past_of bytes) in
    let reached : start_position reader.start ≡ reached_in base = at ∙ ap reached_by k.are ∙ reached-planned feed.plan k.all ∙ ap reached_in (sym s.are) in
    record {
      start = many ∙ ap length k.are ∙ length-map k.all (planned_group feed.plan) ∙ ap length (sym s.are);
      reached = reached;
      body = λ later. ap (body_held (names_in reader.tables ++ later)) closed ∙ sym (cond-false (is_open (past_of bytes)) _ _ s.settled.outside);
      widths = λ table. widths table ∙ e.known.widths table;
      groups = λ later. ap (λ (items : List KeptGroupValue). base ++ map (named_group (names_in reader.tables ++ later)) items) none ∙ append-nil base;
      last = ap (last_position (start_position reader.start)) none ∙ reached ∙ e.known.last;
      seen_canonical = e.known.canonical;
      body_canonical = e.known.placed;
    }

-- ---- no bytes yet

pub begun : (plan : PlanValue) (feed : FeedValue) (end : FeedEnd) → feed ≡ record { plan = plan; groups = [] } → end.length ≡ 0 → names_in end.tables ≡ []
    → ((table : List ℕ) → width_in end.tables table ≡ None) → AreNumbered (Some plan) end.tables → IsEndOf [] feed end
begun plan feed end is size names widths numbers =
    subst (λ (f : FeedValue). IsEndOf [] f end) (sym is) (record {
      groups = ap (λ (r : Events). planned_groups plan r.items (groups_in (source_of plan) r)) nothing;
      known = record {
        many = size;
        room = omega (arith, ap length names);
        widths = λ table. widths table ∙ ap (λ (r : Events). option_map counted (width_of (source_of plan) (reverse r.items) table)) (sym nothing);
        numbers = numbers;
        last = ap (λ (r : Events). reached_in (groups_of (source_of plan) (reverse r.items))) nothing ∙ ap (λ (r : Events). seen (source_of plan) (reverse r.items)) (sym nothing);
        canonical = subst (λ (r : Events). IsCanonical (seen (source_of plan) (reverse r.items))) (sym nothing) tt;
        placed = subst (λ (r : Events). (position : Position) → body_position (source_of plan) (reverse r.items) ≡ Some position → IsCanonical position) (sym nothing) (λ position e. cc);
      };
    })
  where
    nothing : events_of_feed [] ≡ record { items = []; fault = None }
    nothing = ap (λ (r : Reading (List ℕ) FrameFault). events_in_messages r.items r.fault) frames_none

pub empty_is_feed : (plan : PlanValue) → IsPlan plan → IsFeed (record { plan = plan; groups = [] })
empty_is_feed plan planned = record {
  plan = planned;
  order = record {
    numbered = λ i group e. cc;
    canonical = λ i group e. cc;
    from_empty = λ i group e. cc;
    growing = λ i j earlier later less e f. cc;
  };
  few = omega arith;
  changes = λ i j group change e f. cc;
}
