-- The events of a base stand for the history in whose place they are.
use Rattle.std.proofs.Common.{◌≡◌, ℕ, ◌+◌, List, [], ◌∷◌, ◌++◌, length, reverse, Bool, true, false, cond, Option, None, Some, Result, Ok, Err, option_map, refl, sym, ap, subst, ◌∙◌, arith, append_assoc, length-append}
use Rattle.std.proofs.lemmas.Bool.{cond-true, cond-false, false≢true}
use Rattle.std.proofs.lemmas.List.{append-nil, reverse-append}
use Rattle.std.proofs.lemmas.Option.{same_Some}
use mathlib.Core.List.{reverse-cons}
use Rattle.std.specs.List.{AllByRecursion, flat_map}
use Rattle.std.specs.Option.{option_or}
use Rattle.list_laws.proofs.Fronts.{All-append}
use Rattle.gtid_set.specs.Position.{IsCanonical, within_of, union_of}
use Rattle.gtid_set.specs.Text.{position_of_text}
use Rattle.gtid_set.specs.declared.fault.GtidFault.{GtidFault}
use Rattle.row_view.specs.FieldValue.{FieldValue}
use Rattle.vevent.specs.EventValue.{EventValue, Gtid, Begin, Commit, Row, Field, Vgtid}
use Rattle.source_feed.specs.declared.fault.FeedFault.{FeedFault}
use Rattle.source_feed.specs.declared.fault.FeedFault.TheVariants.{Diverged, Misplaced}
use Rattle.source_feed.specs.Grammar.{changes_at}
use Rattle.source_feed.specs.GroupValue.{Position, TableChangeValue, GroupValue}
use Rattle.source_feed.specs.SourceValue.{SourceValue, table_in_source, own_gtid}
use Rattle.source_feed.specs.PastEvents.{PastEvents, is_open, last_field, width_of, past_set, past_set_of_text, position_of, body_position, body_changes, changes_in}
use Rattle.source_feed.specs.Groups.{Block, block_at, block_at_position, with_block, seen, group_of_block, groups_of, row_fault, block_fault, position_fault, entry_fault, commit_fault, fault_at, first_fault}
use Rattle.source_feed.specs.Private.SetLaws.{SetLaws}
use Rattle.event_laws.specs.BaseEvents.{base_events, IsField, IsRowUnder, CanStandFor}
use Rattle.event_laws.specs.Laws.{first_group, StandsFor}

-- ---- lists

pub all-reverse : {A : Type 0} (P : A → Type 0) (xs : List A) → AllByRecursion P xs → AllByRecursion P (reverse xs)
all-reverse P [] h = h
all-reverse P (x ∷ xs) h = subst (AllByRecursion P) (sym (reverse-cons x xs)) (All-append P (reverse xs) (x ∷ []) (all-reverse P xs h.1) (h.0, tt))

-- the latest element first, in front of others
reverse-onto : (event : EventValue) (events : List EventValue) (past : PastEvents) → reverse events ++ (event ∷ past) ≡ reverse (event ∷ events) ++ past
reverse-onto event events past = sym (ap (λ (r : PastEvents). r ++ past) (reverse-cons event events) ∙ append_assoc (reverse events) (event ∷ []) past)

nothing : (b : Bool) → cond {A = Option Block} b None None ≡ None
nothing true = refl
nothing false = refl

-- ---- what no block ends leaves as it was

record Still (source : SourceValue) (past : PastEvents) : Type 0 where
  none : groups_of source past ≡ []
  reached : seen source past ≡ []
  faultless : first_fault source past ≡ None

still : (source : SourceValue) (past : PastEvents) (event : EventValue) → block_at source past event ≡ None → fault_at source past event ≡ None → Still source past → Still source (event ∷ past)
still source past event b f s = record {
  none = ap (λ (o : Option Block). groups_of source past ++ group_of_block (seen source past) (length (groups_of source past) + 1) o) b ∙ append-nil (groups_of source past) ∙ s.none;
  reached = ap (with_block (seen source past)) b ∙ s.reached;
  faultless = ap (λ (o : Option FeedFault). option_or o (fault_at source past event)) s.faultless ∙ f;
}

-- ---- FIELDs

record OnlyFields (source : SourceValue) (past : PastEvents) : Type 0 where
  shut : is_open past ≡ false
  as_it_was : Still source past

only_fields : (source : SourceValue) (past : PastEvents) → AllByRecursion IsField past → OnlyFields source past
only_fields source [] h = record { shut = refl; as_it_was = record { none = refl; reached = refl; faultless = refl } }
only_fields source (Field name columns ∷ past) h =
    let r : OnlyFields source past = only_fields source past h.1 in
    record { shut = r.shut; as_it_was = still source past (Field name columns) (nothing (is_open past)) refl r.as_it_was }
only_fields source (event ∷ past) h = absurd h.0

-- ---- a transaction

-- in a transaction behind a history, with these changes and this position so far
record InBody (source : SourceValue) (history past : PastEvents) (at : Option Position) (changes : List TableChangeValue) : Type 0 where
  opened : is_open past ≡ true
  carried : body_position source past ≡ at
  changed : body_changes source past ≡ changes
  columns : (table : List ℕ) → last_field source past table ≡ last_field source history table
  as_it_was : Still source past

begun : (source : SourceValue) (past : PastEvents) → OnlyFields source past → InBody source past (Begin ∷ past) None []
begun source past f = record {
  opened = refl;
  carried = refl;
  changed = refl;
  columns = λ table. refl;
  as_it_was = still source past Begin (nothing (is_open past)) (cond-false (is_open past) (Some Misplaced) None f.shut) f.as_it_was;
}

row_in : (source : SourceValue) (history past : PastEvents) (changes : List TableChangeValue) (event : EventValue) → IsRowUnder source history event → InBody source history past None changes
    → InBody source history (event ∷ past) None (changes ++ changes_at source event)
row_in source history past changes (Row name rows) under b =
    let table : List ℕ = table_in_source source name in
    let fault : Option FeedFault = row_fault (width_of source past table) rows in
    record {
      opened = b.opened;
      carried = b.carried;
      changed = ap (λ (before : List TableChangeValue). before ++ changes_in table rows) b.changed;
      columns = b.columns;
      as_it_was = still source past (Row name rows) (nothing (is_open past))
          (cond-true (is_open past) fault (Some Misplaced) b.opened ∙ ap (λ (columns : Option (List FieldValue)). row_fault (option_map length columns) rows) (b.columns table) ∙ under)
          b.as_it_was;
    }
row_in source history past changes event under b = absurd under

rows_in : (source : SourceValue) (history : PastEvents) (rows : List EventValue) (past : PastEvents) (changes : List TableChangeValue) → AllByRecursion (IsRowUnder source history) rows
    → InBody source history past None changes → InBody source history (reverse rows ++ past) None (changes ++ flat_map (changes_at source) rows)
rows_in source history [] past changes all b = subst (InBody source history past None) (sym (append-nil changes)) b
rows_in source history (event ∷ rows) past changes all b =
    let here : List TableChangeValue = changes_at source event in
    let one : InBody source history (event ∷ past) None (changes ++ here) = row_in source history past changes event all.0 b in
    let others : InBody source history (reverse rows ++ (event ∷ past)) None ((changes ++ here) ++ flat_map (changes_at source) rows) = rows_in source history rows (event ∷ past) (changes ++ here) all.1 one in
    subst (λ (p : PastEvents). InBody source history p None (changes ++ flat_map (changes_at source) (event ∷ rows))) (reverse-onto event rows past)
    (subst (InBody source history (reverse rows ++ (event ∷ past)) None) (append_assoc changes here (flat_map (changes_at source) rows)) others)

-- ---- the position

-- a text that is a position
read_of : (read : Result Position GtidFault) (position : Position) → past_set read ≡ Some position → read ≡ Ok position
read_of (Ok set) position e = ap Ok (same_Some set position e)
read_of (Err fault) position e = cc

own_of : (text : Option (List ℕ)) (position : Position) → past_set_of_text text ≡ Some position → (is : List ℕ) × (text ≡ Some is) × (position_of_text is ≡ Ok position)
own_of None position e = cc
own_of (Some text) position e = (text, refl, read_of (position_of_text text) position e)

no_place : {P : Type 0} (position : Position) → None ≡ Some position → P
no_place position e = cc

-- an event that carries a position: what it says, and that it has no fault in a transaction
record Carries (source : SourceValue) (past : PastEvents) (place : EventValue) (position : Position) : Type 0 where
  opened : is_open (place ∷ past) ≡ true
  carried : body_position source (place ∷ past) ≡ Some position
  changed : body_changes source (place ∷ past) ≡ body_changes source past
  columns : (table : List ℕ) → last_field source (place ∷ past) table ≡ last_field source past table
  none : block_at source past place ≡ None
  faultless : fault_at source past place ≡ None
  canonical : IsCanonical position

in_transaction : (source : SourceValue) (past : PastEvents) (text : List ℕ) (position : Position) → is_open past ≡ true → position_of_text text ≡ Ok position → position_fault source past (position_of_text text) ≡ None
in_transaction source past text position opened e = ap (position_fault source past) e ∙ cond-true (is_open past) None (block_fault source past position) opened

carries : SetLaws → (source : SourceValue) (past : PastEvents) (place : EventValue) (position : Position) → is_open past ≡ true → position_of source place ≡ Some position → Carries source past place position
carries laws source past (Gtid text) position opened e =
    let read : position_of_text text ≡ Ok position = read_of (position_of_text text) position e in
    record {
      opened = opened;
      carried = ap (λ (o : Option Position). option_or o (body_position source past)) e;
      changed = refl;
      columns = λ table. refl;
      none = cond-true (is_open past) None (block_at_position (position_of source (Gtid text)) []) opened;
      faultless = in_transaction source past text position opened read;
      canonical = laws.canonical text position read;
    }
carries laws source past (Vgtid entries) position opened e =
    let own = own_of (own_gtid source entries) position e in
    record {
      opened = opened;
      carried = ap (λ (o : Option Position). option_or o (body_position source past)) e;
      changed = refl;
      columns = λ table. refl;
      none = cond-true (is_open past) None (block_at_position (position_of source (Vgtid entries)) []) opened;
      faultless = ap (entry_fault source past) own.1 ∙ in_transaction source past own.0 position opened own.2;
      canonical = laws.canonical own.0 position own.2;
    }
carries laws source past event position opened e = no_place position e

placed : SetLaws → (source : SourceValue) (history past : PastEvents) (place : EventValue) (position : Position) (changes : List TableChangeValue) → position_of source place ≡ Some position
    → InBody source history past None changes → InBody source history (place ∷ past) (Some position) changes × IsCanonical position
placed laws source history past place position changes e b =
    let c : Carries source past place position = carries laws source past place position b.opened e in (
      record {
        opened = c.opened;
        carried = c.carried;
        changed = c.changed ∙ b.changed;
        columns = λ table. c.columns table ∙ b.columns table;
        as_it_was = still source past place c.none c.faultless b.as_it_was;
      },
      c.canonical,
    )

-- ---- the end

-- behind the COMMIT: one group, and its position
record Committed (source : SourceValue) (history past : PastEvents) (group : GroupValue) : Type 0 where
  one : groups_of source past ≡ group ∷ []
  reached : seen source past ≡ group.position
  faultless : first_fault source past ≡ None
  columns : (table : List ℕ) → last_field source past table ≡ last_field source history table

committed : SetLaws → (source : SourceValue) (history past : PastEvents) (position : Position) (changes : List TableChangeValue) → IsCanonical position → within_of position [] ≡ false
    → InBody source history past (Some position) changes → Committed source history (Commit ∷ past) (record { number = 1; position = position; changes = changes })
committed laws source history past position changes p apart b =
    let group : GroupValue = record { number = 1; position = position; changes = changes } in
    let block : Block = record { position = position; changes = changes } in
    let here : block_at source past Commit ≡ Some block =
    cond-true (is_open past) (block_at_position (body_position source past) (body_changes source past)) None b.opened
    ∙ ap (λ (o : Option Position). block_at_position o (body_changes source past)) b.carried
    ∙ ap (block_at_position (Some position)) b.changed in
    let behind : Position → List GroupValue → Option Block → List GroupValue = λ all groups o. groups ++ group_of_block all (length groups + 1) o in
    let fault_of : Position → Option FeedFault = λ all. cond (within_of position all) None (cond (within_of all position) None (Some (Diverged (length (groups_of source past) + 1)))) in
    record {
      one = ap (behind (seen source past) (groups_of source past)) here
          ∙ ap (λ (all : Position). behind all (groups_of source past) (Some block)) b.as_it_was.reached
          ∙ ap (λ (groups : List GroupValue). behind [] groups (Some block)) b.as_it_was.none
          ∙ cond-false (within_of position []) [] (group ∷ []) apart;
      reached = ap (with_block (seen source past)) here
          ∙ ap (λ (all : Position). union_of all position) b.as_it_was.reached
          ∙ laws.union_around [] position tt p refl;
      faultless = ap (λ (o : Option FeedFault). option_or o (fault_at source past Commit)) b.as_it_was.faultless
          ∙ cond-true (is_open past) (commit_fault source past (body_position source past)) None b.opened
          ∙ ap (commit_fault source past) b.carried
          ∙ ap fault_of b.as_it_was.reached
          ∙ cond-false (within_of position []) None (cond (within_of [] position) None (Some (Diverged (length (groups_of source past) + 1)))) apart;
      columns = b.columns;
    }

-- ---- a base

base_past : (fields rows : List EventValue) (place : EventValue) → Commit ∷ (place ∷ (reverse rows ++ (Begin ∷ reverse fields))) ≡ reverse (base_events fields rows place)
base_past fields rows place =
    let end : List EventValue = place ∷ Commit ∷ [] in
    sym (
    reverse-append fields (Begin ∷ (rows ++ end))
    ∙ ap (λ (r : PastEvents). r ++ reverse fields) (reverse-cons Begin (rows ++ end))
    ∙ append_assoc (reverse (rows ++ end)) (Begin ∷ []) (reverse fields)
    ∙ ap (λ (r : PastEvents). r ++ (Begin ∷ reverse fields)) (reverse-append rows end)
    )

pub base_stands : SetLaws → (source : SourceValue) (old : PastEvents) (fields rows : List EventValue) (place : EventValue) (position : Position) → CanStandFor source old fields rows place position
    → StandsFor source old rows position (reverse (base_events fields rows place))
base_stands laws source old fields rows place position s =
    let history : PastEvents = reverse fields in
    let changes : List TableChangeValue = flat_map (changes_at source) rows in
    let f : OnlyFields source history = only_fields source history (all-reverse IsField fields s.only_fields) in
    let body : InBody source history (reverse rows ++ (Begin ∷ history)) None changes = rows_in source history rows (Begin ∷ history) [] s.only_rows (begun source history f) in
    let at = placed laws source history (reverse rows ++ (Begin ∷ history)) place position changes s.carries body in
    let c : Committed source history (Commit ∷ (place ∷ (reverse rows ++ (Begin ∷ history)))) (first_group source rows position) =
    committed laws source history (place ∷ (reverse rows ++ (Begin ∷ history))) position changes at.1 s.from_empty at.0 in
    let many : length (groups_of source old) ≡ length s.behind_group.before + 1 =
    ap length s.behind_group.groups ∙ length-append s.behind_group.before (s.behind_group.last ∷ []) in
    let one : length (groups_of source (Commit ∷ (place ∷ (reverse rows ++ (Begin ∷ history))))) ≡ 1 = ap length c.one in
    subst (StandsFor source old rows position) (base_past fields rows place) (record {
      faultless = c.faultless;
      one = c.one;
      alike = record {
        inside = sym s.outside;
        body_at = λ o. absurd (false≢true (sym s.outside ∙ o));
        body = λ o. absurd (false≢true (sym s.outside ∙ o));
        columns = λ table. c.columns table ∙ s.columns table;
        reached = c.reached ∙ sym s.reached;
        numbers = omega (arith, many, one);
      };
    })
