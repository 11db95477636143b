-- One event more, for the events that may end a block.
use Rattle.std.proofs.Common.{◌≡◌, ℕ, List, [], ◌∷◌, ◌++◌, map, length, true, false, cond, Option, None, Some, Result, Ok, Err, refl, sym, ◌∙◌, ap, subst, inl, inr}
use Rattle.std.proofs.lemmas.Bool.{cases_Bool, cond-true, cond-false}
use Rattle.std.specs.Option.{option_map, option_or}
use Rattle.gtid_set.specs.Position.{IsCanonical}
use Rattle.gtid_set.specs.Text.{position_of_text}
use Rattle.vevent.specs.EventValue.{ShardGtidValue, EventValue, Gtid, Commit, Vgtid}
use Rattle.source_feed.specs.declared.fault.FeedFault.{FeedFault}
use Rattle.source_feed.specs.declared.fault.FeedFault.TheVariants.{Memory}
use Rattle.source_feed.specs.declared.group_reader.GroupReader.{GroupReader}
use Rattle.source_feed.specs.declared.start.Start.{Start}
use Rattle.list_laws.specs.Outcome.{Refuses, IsFault, GivesUnless}
use Rattle.source_feed.specs.FaultNumber.{meant_of}
use Rattle.source_feed.specs.GroupValue.{Position, TableChangeValue, GroupValue}
use Rattle.source_feed.specs.SourceValue.{SourceValue, own_gtid}
use Rattle.source_feed.specs.PastEvents.{PastEvents, is_open, width_of, past_set, past_set_of_text, body_position, body_changes}
use Rattle.source_feed.specs.Groups.{block_at, block_at_position, block_fault, position_fault, entry_fault, commit_fault, fault_at}
use Rattle.source_feed.specs.Private.BlockEnd.{last_position, block_end}
use Rattle.source_feed.specs.Private.Start.{start_position}
use Rattle.source_feed.specs.Private.FeedTables.{width_in, names_in, counted}
use Rattle.source_feed.specs.Private.KeptGroups.{KeptChangeValue, named, named_group}
use Rattle.source_feed.specs.Private.ReaderState.{Body, body_of, body_held, IsBehind, TakesEvent}
use Rattle.source_feed.specs.Private.SetLaws.{SetLaws}
use Rattle.source_feed.proofs.Blocks.{Ends, BlockEnds, block_end-ends}

-- what is known of an open transaction
pub record Opened (source : SourceValue) (history : PastEvents) (body : Body) : Type 0 where
  pub opened : is_open history ≡ true
  pub position : body_position source history ≡ body.position
  pub changes : body_changes source history ≡ body.changes

pub opened_from : (source : SourceValue) (history : PastEvents) (body : Body) → Some body ≡ body_of source history → Opened source history body
opened_from source history body e =
    elim (cases_Bool (is_open history)) [
      | inl w ↦
          let all : Some body ≡ Some (record { position = body_position source history; changes = body_changes source history }) = e ∙ cond-true (is_open history) _ _ w in
          record { opened = w; position = cc; changes = cc }
      | inr w ↦ let none : Some body ≡ None = e ∙ cond-false (is_open history) _ _ w in cc
    ]

pub closed_from : (source : SourceValue) (history : PastEvents) → None ≡ body_of source history → is_open history ≡ false
closed_from source history e =
    elim (cases_Bool (is_open history)) [
      | inl w ↦
          let some : None ≡ Some (record { position = body_position source history; changes = body_changes source history }) = e ∙ cond-true (is_open history) _ _ w in cc
      | inr w ↦ w
    ]

pub fault_from : {Y : Type 0} (fault : FeedFault) (definition : Result Y FeedFault) (expected : Option FeedFault)
    → (definition ≡ Err fault → expected ≡ Some fault) → Refuses meant_of fault definition → IsFault meant_of fault expected
fault_from Memory definition expected h r = tt
fault_from fault definition expected h r = h r

-- the names of a reader's tables, and of those that the feed names later
abbrev pub names_with : GroupReader → List (List ℕ) → List (List ℕ)
names_with reader later = names_in reader.tables ++ later

pub ends_before : (base : List GroupValue) (source : SourceValue) (earlier : PastEvents) (old : GroupReader) → IsBehind base source earlier old → (later : List (List ℕ)) → Ends base (start_position old.start) (names_with old later) source earlier old.groups.items
ends_before base source earlier old m later = record { groups = m.groups later; last = m.last; canonical = m.seen_canonical }

-- groups say the same where the tables have the same names
pub same_groups : (old new : GroupReader) (later : List (List ℕ)) → names_in new.tables ≡ names_in old.tables
    → map (named_group (names_with new later)) new.groups.items ≡ map (named_group (names_with old later)) new.groups.items
same_groups old new later t = ap (λ names. map (named_group (names ++ later)) new.groups.items) t

-- ---- COMMIT

commit_block : (source : SourceValue) (earlier : PastEvents) (position : Position) (changes : List TableChangeValue)
    → Opened source earlier (record { position = Some position; changes = changes })
    → block_at source earlier Commit ≡ Some (record { position = position; changes = changes })
commit_block source earlier position changes o =
    cond-true (is_open earlier) _ _ o.opened
    ∙ ap (λ p. block_at_position p (body_changes source earlier)) o.position
    ∙ ap (λ all. block_at_position (Some position) all) o.changes

commit_faults : (source : SourceValue) (earlier : PastEvents) (position : Position) (changes : List TableChangeValue)
    → Opened source earlier (record { position = Some position; changes = changes })
    → fault_at source earlier Commit ≡ block_fault source earlier position
commit_faults source earlier position changes o = cond-true (is_open earlier) _ _ o.opened ∙ ap (commit_fault source earlier) o.position

pub commit-puts : SetLaws → {X : Type 0} (base : List GroupValue) (source : SourceValue) (earlier : PastEvents) (old new : GroupReader) (result : Result X FeedFault) (position : Position) (changes : List KeptChangeValue)
    → new.start ≡ old.start → IsBehind base source earlier old → ((names : List (List ℕ)) → body_held names old.transaction ≡ Some (record { position = Some position; changes = map (named names) changes }))
    → ((names : List (List ℕ)) → body_held names new.transaction ≡ None) → ((table : List ℕ) → width_in new.tables table ≡ width_in old.tables table) → names_in new.tables ≡ names_in old.tables
    → GivesUnless meant_of (λ _. new.groups.items) result (block_end old.start.groups (start_position old.start) old.groups.items position changes)
    → TakesEvent base source earlier Commit result new
commit-puts laws {X = X} base source earlier old new result position changes s m b n w t g =
    let o : (later : List (List ℕ)) → Opened source earlier (record { position = Some position; changes = map (named (names_with old later)) changes })
    = λ later. opened_from source earlier _ (sym (b (names_with old later)) ∙ m.body later) in
    let p : IsCanonical position = m.body_canonical position (o []).position in
    let all : (later : List (List ℕ)) → BlockEnds base (start_position old.start) (names_with old later) source earlier Commit old.groups.items position changes (block_end (length base) (start_position old.start) old.groups.items position changes)
    = λ later. block_end-ends laws base (start_position old.start) (names_with old later) source earlier Commit old.groups.items position changes (commit_block source earlier position (map (named (names_with old later)) changes) (o later)) p (ends_before base source earlier old m later) in
    let fault : fault_at source earlier Commit ≡ block_fault source earlier position = commit_faults source earlier position (map (named (names_with old [])) changes) (o []) in
    by_result result (subst (λ (n : ℕ). GivesUnless meant_of (λ _. new.groups.items) result (block_end n (start_position old.start) old.groups.items position changes)) m.start g) all fault
  where
    by_result : (result : Result X FeedFault)
        → GivesUnless meant_of (λ _. new.groups.items) result (block_end (length base) (start_position old.start) old.groups.items position changes)
        → ((later : List (List ℕ)) → BlockEnds base (start_position old.start) (names_with old later) source earlier Commit old.groups.items position changes (block_end (length base) (start_position old.start) old.groups.items position changes))
        → fault_at source earlier Commit ≡ block_fault source earlier position
        → TakesEvent base source earlier Commit result new
    by_result (Ok x) g all fault =
        let ends : (later : List (List ℕ)) → BlockEnds base (start_position old.start) (names_with old later) source earlier Commit old.groups.items position changes (Ok new.groups.items) = λ later. rw g at all later in (
          fault ∙ (ends []).0,
          record {
            body = λ later. n (names_with new later);
            widths = λ table. w table ∙ m.widths table;
            start = ap (λ (st : Start). st.groups) s ∙ m.start;
            reached = ap start_position s ∙ m.reached;
            groups = λ later. ap (λ (more : List GroupValue). base ++ more) (same_groups old new later t) ∙ (ends later).1.groups;
            last = ap (λ (st : Start). last_position (start_position st) new.groups.items) s ∙ (ends []).1.last;
            seen_canonical = (ends []).1.canonical;
            body_canonical = m.body_canonical;
          },
        )
    by_result (Err f) g all fault =
        fault_from f (block_end (length base) (start_position old.start) old.groups.items position changes) (fault_at source earlier Commit)
        (λ e. (let ends : BlockEnds base (start_position old.start) (names_with old []) source earlier Commit old.groups.items position changes (Err f) = rw e at all [] in fault ∙ ends))
        g

-- ---- a position

-- what an event with this position text says behind any history
pub record Carries (source : SourceValue) (event : EventValue) (text : List ℕ) : Type 0 where
  pub same_open : (earlier : PastEvents) → is_open (event ∷ earlier) ≡ is_open earlier
  pub widths : (earlier : PastEvents) (table : List ℕ) → width_of source (event ∷ earlier) table ≡ width_of source earlier table
  pub position : (earlier : PastEvents) → body_position source (event ∷ earlier) ≡ option_or (past_set (position_of_text text)) (body_position source earlier)
  pub changes : (earlier : PastEvents) → body_changes source (event ∷ earlier) ≡ body_changes source earlier
  pub block : (earlier : PastEvents) → block_at source earlier event ≡ cond (is_open earlier) None (block_at_position (past_set (position_of_text text)) [])
  pub fault : (earlier : PastEvents) → fault_at source earlier event ≡ position_fault source earlier (position_of_text text)

pub carries-gtid : (source : SourceValue) (text : List ℕ) → Carries source (Gtid text) text
carries-gtid source text = record { same_open = λ earlier. refl; widths = λ earlier table. refl; position = λ earlier. refl; changes = λ earlier. refl; block = λ earlier. refl; fault = λ earlier. refl }

pub carries-vgtid : (source : SourceValue) (entries : List ShardGtidValue) (text : List ℕ) → own_gtid source entries ≡ Some text → Carries source (Vgtid entries) text
carries-vgtid source entries text own = record {
  same_open = λ earlier. refl;
  widths = λ earlier table. refl;
  position = λ earlier. ap (λ o. option_or (past_set_of_text o) (body_position source earlier)) own;
  changes = λ earlier. refl;
  block = λ earlier. ap (λ o. cond (is_open earlier) None (block_at_position (past_set_of_text o) [])) own;
  fault = λ earlier. ap (entry_fault source earlier) own;
}

pub position-puts : SetLaws → {X : Type 0} (base : List GroupValue) (source : SourceValue) (earlier : PastEvents) (event : EventValue) (text : List ℕ) (old new : GroupReader) (result : Result X FeedFault) (position : Position)
    → Carries source event text → position_of_text text ≡ Ok position → IsCanonical position
    → new.start ≡ old.start → IsBehind base source earlier old → ((names : List (List ℕ)) → body_held names old.transaction ≡ None)
    → ((names : List (List ℕ)) → body_held names new.transaction ≡ None) → ((table : List ℕ) → width_in new.tables table ≡ width_in old.tables table) → names_in new.tables ≡ names_in old.tables
    → GivesUnless meant_of (λ _. new.groups.items) result (block_end old.start.groups (start_position old.start) old.groups.items position [])
    → TakesEvent base source earlier event result new
position-puts laws {X = X} base source earlier event text old new result position carries read p s m b n w t g =
    let closed : is_open earlier ≡ false = closed_from source earlier (sym (b (names_with old [])) ∙ m.body []) in
    let block : block_at source earlier event ≡ Some (record { position = position; changes = [] })
    = carries.block earlier ∙ cond-false (is_open earlier) _ _ closed ∙ ap (λ r. block_at_position (past_set r) []) read in
    let fault : fault_at source earlier event ≡ block_fault source earlier position
    = carries.fault earlier ∙ ap (position_fault source earlier) read ∙ cond-false (is_open earlier) _ _ closed in
    let all : (later : List (List ℕ)) → BlockEnds base (start_position old.start) (names_with old later) source earlier event old.groups.items position [] (block_end (length base) (start_position old.start) old.groups.items position [])
    = λ later. block_end-ends laws base (start_position old.start) (names_with old later) source earlier event old.groups.items position [] block p (ends_before base source earlier old m later) in
    by_result result (subst (λ (n : ℕ). GivesUnless meant_of (λ _. new.groups.items) result (block_end n (start_position old.start) old.groups.items position [])) m.start g) all closed fault
  where
    by_result : (result : Result X FeedFault)
        → GivesUnless meant_of (λ _. new.groups.items) result (block_end (length base) (start_position old.start) old.groups.items position [])
        → ((later : List (List ℕ)) → BlockEnds base (start_position old.start) (names_with old later) source earlier event old.groups.items position [] (block_end (length base) (start_position old.start) old.groups.items position []))
        → is_open earlier ≡ false
        → fault_at source earlier event ≡ block_fault source earlier position
        → TakesEvent base source earlier event result new
    by_result (Ok x) g all closed fault =
        let ends : (later : List (List ℕ)) → BlockEnds base (start_position old.start) (names_with old later) source earlier event old.groups.items position [] (Ok new.groups.items) = λ later. rw g at all later in
        let last : body_position source (event ∷ earlier) ≡ Some position = carries.position earlier ∙ ap (λ r. option_or (past_set r) (body_position source earlier)) read in (
          fault ∙ (ends []).0,
          record {
            body = λ later. n (names_with new later) ∙ sym (cond-false (is_open (event ∷ earlier)) _ _ (carries.same_open earlier ∙ closed));
            widths = λ table. w table ∙ m.widths table ∙ sym (ap (option_map counted) (carries.widths earlier table));
            start = ap (λ (st : Start). st.groups) s ∙ m.start;
            reached = ap start_position s ∙ m.reached;
            groups = λ later. ap (λ (more : List GroupValue). base ++ more) (same_groups old new later t) ∙ (ends later).1.groups;
            last = ap (λ (st : Start). last_position (start_position st) new.groups.items) s ∙ (ends []).1.last;
            seen_canonical = (ends []).1.canonical;
            body_canonical = λ other e. (let same : Some position ≡ Some other = sym last ∙ e in let equal : position ≡ other = cc in rw (← equal) p);
          },
        )
    by_result (Err f) g all closed fault =
        fault_from f (block_end (length base) (start_position old.start) old.groups.items position []) (fault_at source earlier event)
        (λ e. (let ends : BlockEnds base (start_position old.start) (names_with old []) source earlier event old.groups.items position [] (Err f) = rw e at all [] in fault ∙ ends))
        g
