use Rattle.std.proofs.Common.{rules, ◌≡◌, ◌≤◌, ◌-◌, ◌||◌, ℕ, Bool, true, false, List, [], length, length-append, map, Option, None, Some, Ok, Err, IfSome, refl, sym, ap, subst, ◌∙◌, arith, inl, inr}
use Rattle.std.specs.Prelude.{option_copied}
use Rattle.std.specs.List.{list_any}
use Rattle.std.proofs.lemmas.Result.{err_from_is_err_and}
use Rattle.list_laws.specs.Outcome.{Refuses}
use Rattle.filter_rule.specs.PlanValue.{PlanValue}
use Rattle.vevent.specs.EventValue.{EventValue}
use Rattle.source_feed.specs.declared.fault.FeedFault.{FeedFault}
use Rattle.source_feed.specs.declared.feed_end.FeedEnd.{FeedEnd}
use Rattle.source_feed.specs.declared.feed_tables.FeedTables.{FeedTables}
use Rattle.source_feed.specs.declared.group_reader.GroupReader.{GroupReader}
use Rattle.source_feed.specs.declared.start.Start.{Start}
use Rattle.source_feed.specs.FaultNumber.{meant_of}
use Rattle.source_feed.specs.GroupValue.{GroupValue}
use Rattle.source_feed.specs.SourceValue.{SourceValue}
use Rattle.source_feed.specs.PastEvents.{is_open}
use Rattle.source_feed.specs.Groups.{groups_of}
use Rattle.source_feed.specs.Planned.{FeedValue, source_of, differs, differs_from}
use Rattle.source_feed.specs.Growing.{IsSettledFront, IsEndOf, events_so_far}
use Rattle.source_feed.specs.Private.EventByEvent.{past_behind}
use Rattle.source_feed.specs.Private.FeedTables.{width_in, names_in, numbers_in, number_under, AreNumbered}
use Rattle.source_feed.specs.Private.KnownBehind.{past_of, reached_by}
use Rattle.source_feed.specs.Private.ReadOn.{IsFoundIn}
use Rattle.source_feed.specs.Private.ReaderState.{IsBehind, count_of}
use Rattle.source_feed.specs.Private.Start.{start_position}
use Rattle.source_feed.proofs.EndLaws.{known, sound, started}
use Rattle.source_feed.proofs.PlanLaws.{none_differs, differs-from}
use Rattle.source_feed.proofs.ReadOnLaws.{taken_within, taken_front}
use Rattle.source_feed.proofs.growing.read_piece.Goals as goal

-- no transaction is open behind a feed's bytes
outside_end : (bytes : List ℕ) (feed : FeedValue) (end : FeedEnd) → IsEndOf bytes feed end → is_open (past_of bytes) ≡ false
outside_end bytes feed end e =
    let k = known bytes feed.plan feed.groups e.groups in
    (sound bytes (source_of feed.plan) k.all k.defined).settled.outside

-- a reader that begins behind a feed's end
pub record Begins (feed : FeedValue) (end : FeedEnd) (source : SourceValue) (reader : GroupReader) : Type 0 where
  pub same : source ≡ source_of feed.plan
  pub closed : reader.transaction ≡ None
  pub none : reader.groups.items ≡ []
  pub many : reader.start.groups ≡ length feed.groups
  pub at : start_position reader.start ≡ reached_by feed.groups
  pub widths : (table : List ℕ) → width_in reader.tables table ≡ width_in end.tables table
  pub names : names_in reader.tables ≡ names_in end.tables
  pub numbers : numbers_in reader.tables ≡ numbers_in end.tables

module _ (bytes : List ℕ) (feed : FeedValue) (end : FeedEnd) (source : SourceValue) (reader : GroupReader) (e : IsEndOf bytes feed end) (b : Begins feed end source reader) where
  abbrev base : List GroupValue
  base = groups_of (source_of feed.plan) (past_of bytes)

  begins_behind : IsBehind base source (past_of bytes) reader
  begins_behind = subst (λ (s : SourceValue). IsBehind base s (past_of bytes) reader) (sym b.same) (started bytes feed end reader e b.closed b.none b.many b.at b.widths)

  begins_within : count_of reader ≤ length bytes
  begins_within = omega (arith, e.known.room, b.many, ap length b.none, ap length b.names)

  begins_numbered : AreNumbered (Some feed.plan) reader.tables
  begins_numbered = b.numbers ∙ e.known.numbers ∙ ap (map (number_under (Some feed.plan))) (sym b.names)

due_within : (piece front due : List ℕ) → IsSettledFront piece front due → length due ≤ length piece
due_within piece front due f = omega (arith, ap length f.parts, length-append front due)

-- the events that were seen are those of the plan's check
some_differs : (plan : PlanValue) (given : Option PlanValue) (before after : Bool) (events : List EventValue) → given ≡ Some plan → before ≡ false → after ≡ true
    → after ≡ (before || list_any (differs_from given) events) → list_any (differs plan) events ≡ true
some_differs plan given before after events is none some seen =
    sym (differs-from plan events) ∙ ap (λ (o : Option PlanValue). list_any (differs_from o) events) (sym is)
    ∙ ap (λ (b : Bool). b || list_any (differs_from given) events) (sym none) ∙ sym seen ∙ some

-- a fault of the piece's events
found_by : (bytes : List ℕ) (feed : FeedValue) (piece : List ℕ) (fault : FeedFault) (source : SourceValue) → source ≡ source_of feed.plan
    → Refuses meant_of fault (past_behind source (past_of bytes) (events_so_far piece).items (events_so_far piece).fault) → IfSome (meant_of fault) (IsFoundIn bytes feed piece)
found_by bytes feed piece fault source same r = by (meant_of fault) r
  where
    by : (o : Option FeedFault) → IfSome o (λ f. past_behind source (past_of bytes) (events_so_far piece).items (events_so_far piece).fault ≡ Err f) → IfSome o (IsFoundIn bytes feed piece)
    by None h = tt
    by (Some f) h = inl (subst (λ (s : SourceValue). past_behind s (past_of bytes) (events_so_far piece).items (events_so_far piece).fault ≡ Err f) same h)

pub put_piece-requires-clause-behind : goal.put_piece-requires-clause-behind
put_piece-requires-clause-behind c =
    let feed : FeedValue = c.args.feed.now in
    let end : FeedEnd = c.args.end.now in
    let source : SourceValue = record { keyspace = c.keyspace.result.now; shard = c.shard.result.now } in
    let same : source ≡ source_of feed.plan = search rules in
    let b : Begins feed end source c.behind-reader.result = record {
      same = same;
      closed = c.behind-reader.ensures.closed;
      none = c.behind-reader.ensures.none;
      many = ap (λ (st : Start). st.groups) c.behind-reader.ensures.start ∙ c.in_ok-start.ensures.groups;
      at = ap start_position c.behind-reader.ensures.start ∙ c.in_ok-start.ensures.position;
      widths = λ table. ap (λ (ts : FeedTables). width_in ts table) c.behind-reader.ensures.tables ∙ c.in_ok-copy.ensures.widths table;
      names = ap names_in c.behind-reader.ensures.tables ∙ c.in_ok-copy.ensures.order;
      numbers = ap numbers_in c.behind-reader.ensures.tables ∙ c.in_ok-copy.ensures.numbers;
    } in
    let one = c.requires.one in
    (base one.0 feed end source c.behind-reader.result one.1 b, past_of one.0, begins_behind one.0 feed end source c.behind-reader.result one.1 b)

pub overflow_sub-result : goal.overflow_sub-result
overflow_sub-result c =
    let feed : FeedValue = c.args.feed.now in
    let end : FeedEnd = c.args.end.now in
    let source : SourceValue = record { keyspace = c.keyspace.result.now; shard = c.shard.result.now } in
    let same : source ≡ source_of feed.plan = search rules in
    let b : Begins feed end source c.behind-reader.result = record {
      same = same;
      closed = c.behind-reader.ensures.closed;
      none = c.behind-reader.ensures.none;
      many = ap (λ (st : Start). st.groups) c.behind-reader.ensures.start ∙ c.in_ok-start.ensures.groups;
      at = ap start_position c.behind-reader.ensures.start ∙ c.in_ok-start.ensures.position;
      widths = λ table. ap (λ (ts : FeedTables). width_in ts table) c.behind-reader.ensures.tables ∙ c.in_ok-copy.ensures.widths table;
      names = ap names_in c.behind-reader.ensures.tables ∙ c.in_ok-copy.ensures.order;
      numbers = ap numbers_in c.behind-reader.ensures.tables ∙ c.in_ok-copy.ensures.numbers;
    } in
    let one = c.requires.one in
    let m = begins_behind one.0 feed end source c.behind-reader.result one.1 b in
    let due = c.in_ok-due.ensures.due (base one.0 feed end source c.behind-reader.result one.1 b) (past_of one.0) m (outside_end one.0 feed end one.1) in
    due_within c.args.piece.now due.0 c.in_ok-due.due.now due.1

pub returns-in_err-due-clause-refused : goal.returns-in_err-due-clause-refused
returns-in_err-due-clause-refused c = λ bytes e.
    let feed : FeedValue = c.args.feed.now in
    let end : FeedEnd = c.args.end.now in
    let source : SourceValue = record { keyspace = c.keyspace.result.now; shard = c.shard.result.now } in
    let same : source ≡ source_of feed.plan = search rules in
    let b : Begins feed end source c.behind-reader.result = record {
      same = same;
      closed = c.behind-reader.ensures.closed;
      none = c.behind-reader.ensures.none;
      many = ap (λ (st : Start). st.groups) c.behind-reader.ensures.start ∙ c.in_ok-start.ensures.groups;
      at = ap start_position c.behind-reader.ensures.start ∙ c.in_ok-start.ensures.position;
      widths = λ table. ap (λ (ts : FeedTables). width_in ts table) c.behind-reader.ensures.tables ∙ c.in_ok-copy.ensures.widths table;
      names = ap names_in c.behind-reader.ensures.tables ∙ c.in_ok-copy.ensures.order;
      numbers = ap numbers_in c.behind-reader.ensures.tables ∙ c.in_ok-copy.ensures.numbers;
    } in
    let m = begins_behind bytes feed end source c.behind-reader.result e b in
    let p = err_from_is_err_and c.from_residual-in_err-due.result c.from_residual-in_err-due.ensures.1 in
    rw (p.1, p.2)
    (found_by bytes feed c.args.piece.now c.in_err-due.field-0.0 source same (c.in_err-due.ensures.meaning (base bytes feed end source c.behind-reader.result e b) (past_of bytes) m))

pub returns-then-field_check-clause-refused : goal.returns-then-field_check-clause-refused
returns-then-field_check-clause-refused c = λ bytes e.
    let feed : FeedValue = c.args.feed.now in
    let end : FeedEnd = c.args.end.now in
    let piece : List ℕ = c.args.piece.now in
    let source : SourceValue = record { keyspace = c.keyspace.result.now; shard = c.shard.result.now } in
    let same : source ≡ source_of feed.plan = search rules in
    let checked : option_copied c.new-field_check.result.plan ≡ Some feed.plan = search rules in
    let b : Begins feed end source c.behind-reader.result = record {
      same = same;
      closed = c.behind-reader.ensures.closed;
      none = c.behind-reader.ensures.none;
      many = ap (λ (st : Start). st.groups) c.behind-reader.ensures.start ∙ c.in_ok-start.ensures.groups;
      at = ap start_position c.behind-reader.ensures.start ∙ c.in_ok-start.ensures.position;
      widths = λ table. ap (λ (ts : FeedTables). width_in ts table) c.behind-reader.ensures.tables ∙ c.in_ok-copy.ensures.widths table;
      names = ap names_in c.behind-reader.ensures.tables ∙ c.in_ok-copy.ensures.order;
      numbers = ap numbers_in c.behind-reader.ensures.tables ∙ c.in_ok-copy.ensures.numbers;
    } in
    let m = begins_behind bytes feed end source c.behind-reader.result e b in
    let after = c.in_ok-due.ensures.meaning (base bytes feed end source c.behind-reader.result e b) (past_of bytes) m in
    inr (
      refl,
      (after.0, subst (λ (s : SourceValue). past_behind s (past_of bytes) (events_so_far piece).items (events_so_far piece).fault ≡ Ok after.0) same after.1),
      some_differs feed.plan (option_copied c.new-field_check.result.plan) c.new-field_check.result.differs c.put_piece.new.field_check.differs (events_so_far piece).items checked c.new-field_check.ensures.none c.if-field_check.true c.in_ok-due.ensures.seen,
    )

pub returns-clause-read : goal.returns-clause-read
returns-clause-read c = λ bytes e.
    let feed : FeedValue = c.args.feed.now in
    let end : FeedEnd = c.args.end.now in
    let piece : List ℕ = c.args.piece.now in
    let source : SourceValue = record { keyspace = c.keyspace.result.now; shard = c.shard.result.now } in
    let same : source ≡ source_of feed.plan = search rules in
    let checked : option_copied c.new-field_check.result.plan ≡ Some feed.plan = search rules in
    let b : Begins feed end source c.behind-reader.result = record {
      same = same;
      closed = c.behind-reader.ensures.closed;
      none = c.behind-reader.ensures.none;
      many = ap (λ (st : Start). st.groups) c.behind-reader.ensures.start ∙ c.in_ok-start.ensures.groups;
      at = ap start_position c.behind-reader.ensures.start ∙ c.in_ok-start.ensures.position;
      widths = λ table. ap (λ (ts : FeedTables). width_in ts table) c.behind-reader.ensures.tables ∙ c.in_ok-copy.ensures.widths table;
      names = ap names_in c.behind-reader.ensures.tables ∙ c.in_ok-copy.ensures.order;
      numbers = ap numbers_in c.behind-reader.ensures.tables ∙ c.in_ok-copy.ensures.numbers;
    } in
    let all : List GroupValue = base bytes feed end source c.behind-reader.result e b in
    let m = begins_behind bytes feed end source c.behind-reader.result e b in
    let after = c.in_ok-due.ensures.meaning all (past_of bytes) m in
    let due = c.in_ok-due.ensures.due all (past_of bytes) m (outside_end bytes feed end e) in
    let taken : ℕ = length piece - length c.in_ok-due.due.now in
    record {
      history = after.0;
      past = subst (λ (s : SourceValue). past_behind s (past_of bytes) (events_so_far piece).items (events_so_far piece).fault ≡ Ok after.0) same after.1;
      behind = subst (λ (s : SourceValue). IsBehind all s after.0 c.put_piece.new.reader) same after.2;
      alike = none_differs feed.plan (option_copied c.new-field_check.result.plan) c.new-field_check.result.differs c.put_piece.new.field_check.differs (events_so_far piece).items checked c.if-field_check.false c.in_ok-due.ensures.seen;
      within = taken_within piece c.in_ok-due.due.now taken refl;
      front = taken_front piece due.0 c.in_ok-due.due.now taken due.1 refl;
      numbers = subst (λ (o : Option PlanValue). AreNumbered o c.put_piece.new.reader.tables) checked
          (c.in_ok-due.ensures.numbers (subst (λ (o : Option PlanValue). AreNumbered o c.behind-reader.result.tables) (sym checked) (begins_numbered bytes feed end source c.behind-reader.result e b)));
      room = omega (arith, c.in_ok-due.ensures.grows, begins_within bytes feed end source c.behind-reader.result e b);
    }
