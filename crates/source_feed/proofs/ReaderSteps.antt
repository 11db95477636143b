-- One event more, for the events that end no block.
use Rattle.std.proofs.Common.{◌≡◌, ◌+◌, ℕ, List, [], ◌∷◌, ◌++◌, map, get_or, true, false, cond, Bool, Option, None, Some, Result, Ok, Err, OnOk, IfErr, length, is_some, refl, sym, ◌∙◌, ap, subst}
use Rattle.std.proofs.lemmas.Bool.{cond-true, cond-false}
use Rattle.std.proofs.lemmas.List.{map-append, append-nil, append_cancel_left}
use Rattle.std.specs.Option.{option_map, option_or}
use Rattle.std.specs.Str.{bytes_eq}
use Rattle.list_laws.specs.Outcome.{IsFault}
use Rattle.gtid_set.specs.Position.{IsCanonical}
use Rattle.gtid_set.specs.Text.{position_of_text}
use Rattle.row_view.specs.FieldValue.{FieldValue}
use Rattle.vevent.specs.declared.ignored.IgnoredEvent.{IgnoredEvent}
use Rattle.vevent.specs.EventValue.{ChangeValue, EventValue, Begin, Commit, Rollback, Row, Field, Ignored}
use Rattle.source_feed.specs.declared.fault.FeedFault.{FeedFault}
use Rattle.source_feed.specs.declared.fault.FeedFault.TheVariants.{Misplaced, NoFields, NoPosition, OpenAtEnd}
use Rattle.source_feed.specs.declared.transaction.Transaction.{Transaction}
use Rattle.source_feed.specs.declared.group_reader.GroupReader.{GroupReader}
use Rattle.source_feed.specs.FaultNumber.{meant_of}
use Rattle.source_feed.specs.GroupValue.{Position, TableChangeValue, GroupValue}
use Rattle.source_feed.specs.SourceValue.{SourceValue, table_in_source}
use Rattle.source_feed.specs.PastEvents.{PastEvents, is_open, last_field, width_of, past_set, body_position, body_changes, change_in, changes_in}
use Rattle.source_feed.specs.Groups.{block_at, seen, with_block, groups_of, group_of_block, row_fault, position_fault, commit_fault, fault_at}
use Rattle.source_feed.specs.Private.BlockEnd.{last_position}
use Rattle.source_feed.specs.Private.Start.{start_position}
use Rattle.source_feed.specs.declared.start.Start.{Start}
use Rattle.source_feed.specs.Private.EventByEvent.{groups_at_end}
use Rattle.source_feed.specs.Private.FeedTables.{width_in, names_in, names_behind, counted}
use Rattle.source_feed.specs.Private.KeptGroups.{kept_in, all_kept, named, named_group}
use Rattle.source_feed.specs.Private.ReaderState.{body_of, body_held, IsBehind, TakesEvent}
use Rattle.source_feed.proofs.Blocks.{append-nothing}
use Rattle.source_feed.proofs.Steps.{Opened, opened_from, closed_from, names_with, same_groups, Carries}
use Rattle.source_feed.proofs.TableLaws.{later_behind, names-behind}

-- ---- no block ends

same_twice : {A : Type 0} (b : Bool) (x : A) → cond b x x ≡ x
same_twice true x = refl
same_twice false x = refl

groups_stay : (source : SourceValue) (earlier : PastEvents) (event : EventValue) → block_at source earlier event ≡ None → groups_of source (event ∷ earlier) ≡ groups_of source earlier
groups_stay source earlier event b =
    ap (λ block. groups_of source earlier ++ group_of_block (seen source earlier) (length (groups_of source earlier) + 1) block) b ∙ append-nothing (groups_of source earlier)

seen_stays : (source : SourceValue) (earlier : PastEvents) (event : EventValue) → block_at source earlier event ≡ None → seen source (event ∷ earlier) ≡ seen source earlier
seen_stays source earlier event b = ap (with_block (seen source earlier)) b

-- a reader's start, tables and groups stay
pub record Keeps (old new : GroupReader) : Type 0 where
  pub start : new.start ≡ old.start
  pub names : names_in new.tables ≡ names_in old.tables
  pub widths : (table : List ℕ) → width_in new.tables table ≡ width_in old.tables table
  pub groups : new.groups.items ≡ old.groups.items

pub stays : (base : List GroupValue) (source : SourceValue) (earlier : PastEvents) (event : EventValue) (old new : GroupReader) → IsBehind base source earlier old → Keeps old new → block_at source earlier event ≡ None
    → ((table : List ℕ) → width_of source (event ∷ earlier) table ≡ width_of source earlier table)
    → ((later : List (List ℕ)) → body_held (names_with new later) new.transaction ≡ body_of source (event ∷ earlier))
    → ((position : Position) → body_position source (event ∷ earlier) ≡ Some position → IsCanonical position)
    → IsBehind base source (event ∷ earlier) new
stays base source earlier event old new m k b w body canonical = record {
  start = ap (λ (st : Start). st.groups) k.start ∙ m.start;
  reached = ap start_position k.start ∙ m.reached;
  body = body;
  widths = λ table. k.widths table ∙ m.widths table ∙ sym (ap (option_map counted) (w table));
  groups = λ later. ap (λ (more : List GroupValue). base ++ more) (same_groups old new later k.names ∙ ap (map (named_group (names_with old later))) k.groups) ∙ m.groups later ∙ sym (groups_stay source earlier event b);
  last = ap (λ (st : Start). last_position (start_position st) new.groups.items) k.start ∙ ap (last_position (start_position old.start)) k.groups ∙ m.last ∙ sym (seen_stays source earlier event b);
  seen_canonical = subst IsCanonical (sym (seen_stays source earlier event b)) m.seen_canonical;
  body_canonical = canonical;
}

-- ---- an event that is passed over

pub ignored-puts : (base : List GroupValue) (source : SourceValue) (earlier : PastEvents) (which : IgnoredEvent) (reader : GroupReader) → IsBehind base source earlier reader → IsBehind base source (Ignored which ∷ earlier) reader
ignored-puts base source earlier which reader m =
    stays base source earlier (Ignored which) reader reader m (record { start = refl; names = refl; widths = λ table. refl; groups = refl }) (same_twice (is_open earlier) _) (λ table. refl) m.body m.body_canonical

-- ---- BEGIN, and COMMIT and ROLLBACK that end no block

closed_at : (base : List GroupValue) (source : SourceValue) (earlier : PastEvents) (old : GroupReader) → IsBehind base source earlier old → ((names : List (List ℕ)) → body_held names old.transaction ≡ None) → is_open earlier ≡ false
closed_at base source earlier old m b = closed_from source earlier (sym (b (names_with old [])) ∙ m.body [])

pub open_at : (base : List GroupValue) (source : SourceValue) (earlier : PastEvents) (old : GroupReader) (was : Transaction) → IsBehind base source earlier old → old.transaction ≡ Some was
    → (later : List (List ℕ)) → Opened source earlier (record { position = was.position; changes = map (named (names_with old later)) was.changes.items })
open_at base source earlier old was m is later = opened_from source earlier _ (ap (body_held (names_with old later)) (sym is) ∙ m.body later)

pub begin-puts : (base : List GroupValue) (source : SourceValue) (earlier : PastEvents) (old new : GroupReader) → IsBehind base source earlier old → Keeps old new → ((names : List (List ℕ)) → body_held names old.transaction ≡ None)
    → ((names : List (List ℕ)) → body_held names new.transaction ≡ Some (record { position = None; changes = [] }))
    → (fault_at source earlier Begin ≡ None) × IsBehind base source (Begin ∷ earlier) new
begin-puts base source earlier old new m k b n = (
  cond-false _ _ _ (closed_at base source earlier old m b),
  stays base source earlier Begin old new m k (same_twice (is_open earlier) _) (λ table. refl) (λ later. n (names_with new later)) (λ position e. cc),
)

pub begin-refused : (base : List GroupValue) (source : SourceValue) (earlier : PastEvents) (old : GroupReader) (was : Transaction) → IsBehind base source earlier old → old.transaction ≡ Some was → fault_at source earlier Begin ≡ Some Misplaced
begin-refused base source earlier old was m is = cond-true _ _ _ (open_at base source earlier old was m is []).opened

pub commit-skips : (base : List GroupValue) (source : SourceValue) (earlier : PastEvents) (old new : GroupReader) → IsBehind base source earlier old → Keeps old new → ((names : List (List ℕ)) → body_held names old.transaction ≡ None)
    → ((names : List (List ℕ)) → body_held names new.transaction ≡ None)
    → (fault_at source earlier Commit ≡ None) × IsBehind base source (Commit ∷ earlier) new
commit-skips base source earlier old new m k b n =
    let closed = closed_at base source earlier old m b in (
      cond-false _ _ _ closed,
      stays base source earlier Commit old new m k (cond-false _ _ _ closed) (λ table. refl) (λ later. n (names_with new later)) m.body_canonical,
    )

pub rollback-puts : (base : List GroupValue) (source : SourceValue) (earlier : PastEvents) (old new : GroupReader) → IsBehind base source earlier old → Keeps old new
    → ((names : List (List ℕ)) → body_held names new.transaction ≡ None)
    → IsBehind base source (Rollback ∷ earlier) new
rollback-puts base source earlier old new m k n =
    stays base source earlier Rollback old new m k (same_twice (is_open earlier) _) (λ table. refl) (λ later. n (names_with new later)) m.body_canonical

-- ---- a position inside of a transaction

pub position-counts : (base : List GroupValue) (source : SourceValue) (earlier : PastEvents) (event : EventValue) (text : List ℕ) (old new : GroupReader) (was now : Transaction) (position : Position)
    → Carries source event text → position_of_text text ≡ Ok position → IsCanonical position
    → IsBehind base source earlier old → Keeps old new → old.transaction ≡ Some was → new.transaction ≡ Some now → now.position ≡ Some position → now.changes.items ≡ was.changes.items
    → (fault_at source earlier event ≡ None) × IsBehind base source (event ∷ earlier) new
position-counts base source earlier event text old new was now position carries read p m k is will at same =
    let o = open_at base source earlier old was m is in
    let last : body_position source (event ∷ earlier) ≡ Some position = carries.position earlier ∙ ap (λ r. option_or (past_set r) (body_position source earlier)) read in
    let body : (later : List (List ℕ)) → body_held (names_with new later) new.transaction ≡ body_of source (event ∷ earlier)
    = λ later.
    ap (body_held (names_with new later)) will
    ∙ ap (λ names. Some (record { position = now.position; changes = map (named (names ++ later)) now.changes.items })) k.names
    ∙ ap (λ all. Some (record { position = now.position; changes = map (named (names_with old later)) all })) same
    ∙ ap (λ changes. Some (record { position = now.position; changes = changes })) (sym (o later).changes ∙ sym (carries.changes earlier))
    ∙ ap (λ at. Some (record { position = at; changes = body_changes source (event ∷ earlier) })) (at ∙ sym last)
    ∙ sym (cond-true (is_open (event ∷ earlier)) _ _ (carries.same_open earlier ∙ (o []).opened)) in (
      carries.fault earlier ∙ ap (position_fault source earlier) read ∙ cond-true (is_open earlier) _ _ (o []).opened,
      stays base source earlier event old new m k (carries.block earlier ∙ cond-true (is_open earlier) _ _ (o []).opened) (carries.widths earlier) body
          (λ other e. (let both : Some position ≡ Some other = sym last ∙ e in let equal : position ≡ other = cc in rw (← equal) p)),
    )

-- ---- ROW

-- what is kept of a row change is the change of its table
one_named : (names : List (List ℕ)) (place : ℕ) (change : ChangeValue) → map (named names) (kept_in place change) ≡ change_in (get_or names place []) change
one_named names place change = by change.before change.after
  where
    rows : Option (List (Option (List ℕ))) → Option (List (Option (List ℕ))) → ChangeValue
    rows before after = record { before = before; after = after }

    by : (before after : Option (List (Option (List ℕ)))) → map (named names) (kept_in place (rows before after)) ≡ change_in (get_or names place []) (rows before after)
    by None None = refl
    by None (Some after) = refl
    by (Some before) None = refl
    by (Some before) (Some after) = refl

pub all_named : (names : List (List ℕ)) (place : ℕ) (changes : List ChangeValue) → map (named names) (all_kept place changes) ≡ changes_in (get_or names place []) changes
all_named names place [] = refl
all_named names place (change ∷ more) =
    map-append (named names) (kept_in place change) (all_kept place more)
    ∙ ap (λ (front : List TableChangeValue). front ++ map (named names) (all_kept place more)) (one_named names place change)
    ∙ ap (λ (others : List TableChangeValue). change_in (get_or names place []) change ++ others) (all_named names place more)

counted_from : (columns : Option ℕ) (width : ℕ) → option_map counted columns ≡ Some width → (n : ℕ) × (columns ≡ Some n) × (width ≡ counted n)
counted_from None width e = cc
counted_from (Some n) width e = (n, refl, cc)

uncounted_from : (columns : Option ℕ) → option_map counted columns ≡ None → columns ≡ None
uncounted_from None e = refl
uncounted_from (Some n) e = cc

pub row-outside : (base : List GroupValue) (source : SourceValue) (earlier : PastEvents) (name : List ℕ) (changes : List ChangeValue) (old : GroupReader) → IsBehind base source earlier old → ((names : List (List ℕ)) → body_held names old.transaction ≡ None)
    → fault_at source earlier (Row name changes) ≡ Some Misplaced
row-outside base source earlier name changes old m b = cond-false _ _ _ (closed_at base source earlier old m b)

pub row-unknown : (base : List GroupValue) (source : SourceValue) (earlier : PastEvents) (name : List ℕ) (changes : List ChangeValue) (old : GroupReader) (was : Transaction) → IsBehind base source earlier old → old.transaction ≡ Some was
    → width_in old.tables (table_in_source source name) ≡ None → fault_at source earlier (Row name changes) ≡ Some NoFields
row-unknown base source earlier name changes old was m is w =
    cond-true _ _ _ (open_at base source earlier old was m is []).opened
    ∙ ap (λ columns. row_fault columns changes) (uncounted_from (width_of source earlier (table_in_source source name)) (sym (m.widths (table_in_source source name)) ∙ w))

pub row-puts : {X : Type 0} (base : List GroupValue) (source : SourceValue) (earlier : PastEvents) (name : List ℕ) (changes : List ChangeValue) (old new : GroupReader) (was now : Transaction) (place width : ℕ) (result : Result X FeedFault)
    → IsBehind base source earlier old → Keeps old new → old.transaction ≡ Some was → new.transaction ≡ Some now
    → ((later : List (List ℕ)) → get_or (names_with old later) place [] ≡ table_in_source source name) → width_in old.tables (table_in_source source name) ≡ Some width
    → ((columns : ℕ) → width ≡ counted columns → OnOk result (row_fault (Some columns) changes ≡ None))
    → OnOk result (now.position ≡ was.position) → OnOk result (now.changes.items ≡ was.changes.items ++ all_kept place changes)
    → ((columns : ℕ) → width ≡ counted columns → IfErr result (λ fault. IsFault meant_of fault (row_fault (Some columns) changes)))
    → TakesEvent base source earlier (Row name changes) result new
row-puts {X = X} base source earlier name changes old new was now place width result m k is will stands w fits at put refused = by result fits at put refused
  where
    table : List ℕ
    table = table_in_source source name

    o : (later : List (List ℕ)) → Opened source earlier (record { position = was.position; changes = map (named (names_with old later)) was.changes.items })
    o = open_at base source earlier old was m is

    found : (n : ℕ) × (width_of source earlier table ≡ Some n) × (width ≡ counted n)
    found = counted_from (width_of source earlier table) width (sym (m.widths table) ∙ w)

    told : fault_at source earlier (Row name changes) ≡ row_fault (Some found.0) changes
    told = cond-true _ _ _ (o []).opened ∙ ap (λ columns. row_fault columns changes) found.1

    body : now.position ≡ was.position → now.changes.items ≡ was.changes.items ++ all_kept place changes → (later : List (List ℕ)) → body_held (names_with new later) new.transaction ≡ body_of source (Row name changes ∷ earlier)
    body at put later =
        ap (body_held (names_with new later)) will
        ∙ ap (λ names. Some (record { position = now.position; changes = map (named (names ++ later)) now.changes.items })) k.names
        ∙ ap (λ all. Some (record { position = now.position; changes = map (named (names_with old later)) all })) put
        ∙ ap (λ all. Some (record { position = now.position; changes = all })) (
        map-append (named (names_with old later)) was.changes.items (all_kept place changes)
        ∙ ap (λ (front : List TableChangeValue). front ++ map (named (names_with old later)) (all_kept place changes)) (sym (o later).changes)
        ∙ ap (λ (others : List TableChangeValue). body_changes source earlier ++ others) (all_named (names_with old later) place changes ∙ ap (λ one. changes_in one changes) (stands later)))
        ∙ ap (λ position. Some (record { position = position; changes = body_changes source earlier ++ changes_in table changes })) (at ∙ sym (o later).position)
        ∙ sym (cond-true (is_open earlier) _ _ (o later).opened)

    by : (result : Result X FeedFault) → ((columns : ℕ) → width ≡ counted columns → OnOk result (row_fault (Some columns) changes ≡ None))
        → OnOk result (now.position ≡ was.position) → OnOk result (now.changes.items ≡ was.changes.items ++ all_kept place changes)
        → ((columns : ℕ) → width ≡ counted columns → IfErr result (λ fault. IsFault meant_of fault (row_fault (Some columns) changes)))
        → TakesEvent base source earlier (Row name changes) result new
    by (Ok x) fits at put refused = (
      told ∙ fits found.0 found.2,
      stays base source earlier (Row name changes) old new m k (same_twice (is_open earlier) _) (λ table. refl) (body at put) m.body_canonical,
    )
    by (Err fault) fits at put refused = subst (IsFault meant_of fault) (sym told) (refused found.0 found.2)

-- ---- FIELD

pub field-puts : (base : List GroupValue) (source : SourceValue) (earlier : PastEvents) (name : List ℕ) (fields : List FieldValue) (old new : GroupReader) (columns : ℕ)
    → IsBehind base source earlier old → new.start ≡ old.start → new.transaction ≡ old.transaction → new.groups.items ≡ old.groups.items → columns ≡ counted (length fields)
    → ((table : List ℕ) → width_in new.tables table ≡ cond (bytes_eq (table_in_source source name) table) (Some columns) (width_in old.tables table))
    → names_in new.tables ≡ names_behind (names_in old.tables) (table_in_source source name)
    → IsBehind base source (Field name fields ∷ earlier) new
field-puts base source earlier name fields old new columns m begins same groups count widths order =
    record {
      start = ap (λ (st : Start). st.groups) begins ∙ m.start;
      reached = ap start_position begins ∙ m.reached;
      body = λ later. ap (λ names. body_held names new.transaction) (grows later) ∙ ap (body_held (names_with old (after later))) same ∙ m.body (after later);
      widths = λ table. widths table ∙ width table (bytes_eq (table_in_source source name) table);
      groups = λ later. ap (λ (more : List GroupValue). base ++ more) (ap (λ names. map (named_group names) new.groups.items) (grows later) ∙ ap (map (named_group (names_with old (after later)))) groups) ∙ m.groups (after later) ∙ sym (groups_stay source earlier (Field name fields) none);
      last = ap (λ (st : Start). last_position (start_position st) new.groups.items) begins ∙ ap (last_position (start_position old.start)) groups ∙ m.last ∙ sym (seen_stays source earlier (Field name fields) none);
      seen_canonical = subst IsCanonical (sym (seen_stays source earlier (Field name fields) none)) m.seen_canonical;
      body_canonical = m.body_canonical;
    }
  where
    none : block_at source earlier (Field name fields) ≡ None
    none = same_twice (is_open earlier) _

    after : List (List ℕ) → List (List ℕ)
    after later = later_behind (names_in old.tables) (table_in_source source name) later

    grows : (later : List (List ℕ)) → names_with new later ≡ names_with old (after later)
    grows later = ap (λ (names : List (List ℕ)). names ++ later) order ∙ names-behind (names_in old.tables) (table_in_source source name) later

    width : (table : List ℕ) (b : Bool) → cond b (Some columns) (width_in old.tables table) ≡ option_map counted (option_map length (cond b (Some fields) (last_field source earlier table)))
    width table true = ap (λ n. Some n) count
    width table false = m.widths table

-- ---- what a test of the transaction has told

pub empty_from : {A : Type 0} (held : Option A) → ((x : A) → held ≡ Some x → ⊥) → held ≡ None
empty_from None h = refl
empty_from (Some x) h = absurd (h x refl)

pub untested : {A : Type 0} (held : Option A) → is_some held ≡ false → held ≡ None
untested None e = refl
untested (Some x) e = cc

pub tested : {A : Type 0} (held : Option A) → is_some held ≡ true → (x : A) × (held ≡ Some x)
tested None e = cc
tested (Some x) e = (x, refl)

pub commit-refused : (base : List GroupValue) (source : SourceValue) (earlier : PastEvents) (old : GroupReader) (was : Transaction) → IsBehind base source earlier old → old.transaction ≡ Some was → was.position ≡ None → fault_at source earlier Commit ≡ Some NoPosition
commit-refused base source earlier old was m is none =
    let o = open_at base source earlier old was m is [] in
    cond-true _ _ _ o.opened ∙ ap (commit_fault source earlier) (o.position ∙ none)

-- whether a transaction is open is said by what the reader has
pub open_said : (base : List GroupValue) (source : SourceValue) (history : PastEvents) (reader : GroupReader) → IsBehind base source history reader → is_some reader.transaction ≡ is_open history
open_said base source history reader m = by (is_some reader.transaction) refl
  where
    by : (b : Bool) → is_some reader.transaction ≡ b → b ≡ is_open history
    by true e = let was = tested reader.transaction e in sym (open_at base source history reader was.0 m was.1 []).opened
    by false e = sym (closed_at base source history reader m (λ names. ap (body_held names) (untested reader.transaction e)))

-- ---- the end

-- the groups, under the names of all tables
said : (base : List GroupValue) (source : SourceValue) (history : PastEvents) (reader : GroupReader) → IsBehind base source history reader → base ++ map (named_group (names_in reader.tables)) reader.groups.items ≡ groups_of source history
said base source history reader m = ap (λ names. base ++ map (named_group names) reader.groups.items) (sym (append-nil (names_in reader.tables))) ∙ m.groups []

pub ends-open : (base : List GroupValue) (source : SourceValue) (history : PastEvents) (reader : GroupReader) → IsBehind base source history reader → is_some reader.transaction ≡ true → groups_at_end source (Ok history) ≡ Err OpenAtEnd
ends-open base source history reader m e =
    let was = tested reader.transaction e in
    cond-true _ _ _ (open_at base source history reader was.0 m was.1 []).opened

pub ends-closed : (base : List GroupValue) (source : SourceValue) (history : PastEvents) (reader : GroupReader) → IsBehind base source history reader → is_some reader.transaction ≡ false
    → groups_at_end source (Ok history) ≡ Ok (base ++ map (named_group (names_in reader.tables)) reader.groups.items)
ends-closed base source history reader m e =
    cond-false _ _ _ (closed_at base source history reader m (λ names. ap (body_held names) (untested reader.transaction e))) ∙ ap (λ all. Ok all) (sym (said base source history reader m))

pub ends-of_tables : (base : List GroupValue) (source : SourceValue) (history : PastEvents) (reader : GroupReader) → IsBehind base source history reader → (later : List (List ℕ))
    → map (named_group (names_in reader.tables ++ later)) reader.groups.items ≡ map (named_group (names_in reader.tables)) reader.groups.items
ends-of_tables base source history reader m later = append_cancel_left base _ _ (m.groups later ∙ sym (said base source history reader m))
