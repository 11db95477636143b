-- The events of a transaction, one further.
use Rattle.std.proofs.Common.{◌≡◌, ◌≢◌, ℕ, ◌+◌, ◌≤◌, ◌⊎◌, List, [], ◌∷◌, ◌++◌, length, map, reverse, set, Bool, true, false, cond, Option, None, Some, Result, Ok, Err, option_map, refl, sym, ap, subst, ◌∙◌, arith, inl, inr, append_assoc}
use Rattle.std.proofs.lemmas.Bool.{cases_Bool, cases_eq, cond-true, cond-false, ltb-false}
use Rattle.std.proofs.lemmas.List.{append-nil, reverse-append, length-map}
use Rattle.std.proofs.lemmas.Option.{same_Some}
use Rattle.std.proofs.lemmas.List.Folds.{list_any-append}
use Rattle.std.proofs.lemmas.Slice.Eq.{bytes_eq-Decides}
use Rattle.std.specs.List.{AllByRecursion, flat_map, list_all, list_any}
use Rattle.std.specs.Prelude.{is_some, if◌then◌else◌, ◌||◌}
use Rattle.std.specs.Option.{option_or}
use Rattle.std.specs.Str.{bytes_eq, is_utf8}
use Rattle.std.specs.Cmp.Lexicographic.{same_text}
use Rattle.list_laws.proofs.Fronts.{All-append}
use Rattle.list_laws.specs.Outcome.{◌>>=◌}
use Rattle.row_view.specs.FieldValue.{FieldValue}
use Rattle.vevent.specs.Columns.{have_columns}
use Rattle.vevent.specs.EventValue.{ChangeValue, EventValue, Begin, Row, Field}
use Rattle.vevent.specs.WrittenEvent.{IsColumn, IsSoundEvent}
use Rattle.source_feed.specs.declared.fault.FeedFault.{FeedFault}
use Rattle.source_feed.specs.declared.fault.FeedFault.TheVariants.{ColumnCount, Misplaced}
use Rattle.source_feed.specs.GroupValue.{Position, TableChangeValue, GroupValue}
use Rattle.source_feed.specs.SourceValue.{SourceValue, table_in_source}
use Rattle.source_feed.specs.PastEvents.{PastEvents, is_open, last_field, width_of, body_position, body_changes, changes_in}
use Rattle.source_feed.specs.Groups.{Block, block_at, with_block, seen, group_of_block, groups_of, row_fault, fault_at, first_fault}
use Rattle.log_tables.specs.TableMap.{MapValue}
use Rattle.log_tables.specs.Column.{ColumnValue, WantedValue, columns_of}
use Rattle.log_rows.specs.declared.change.RowsKind.{RowsKind}
use Rattle.log_rows.specs.Head.{HeadValue}
use Rattle.log_rows.specs.Change.{Change, changes_of}
use Rattle.log_groups.specs.Transaction.{DoneValue, RowsOf, Altered}
use Rattle.log_feed.specs.declared.fault.Trouble.{Trouble}
use Rattle.log_feed.specs.declared.fault.Trouble.TheVariants as trouble
use Rattle.log_feed.specs.declared.fault.ChangeFault.{ChangeFault}
use Rattle.log_feed.specs.declared.table.Stage.{Stage}
use Rattle.log_feed.specs.declared.table.Stage.TheVariants.{Absent, Made, Filled}
use Rattle.log_feed.specs.Fault.{in_table}
use Rattle.log_feed.specs.Rows.{change_of, field_event_of, row_of, events_of_rows}
use Rattle.log_feed.specs.Table.{TableValue, field_of, table_from, table_of, stage_at}
use Rattle.log_feed.specs.Group.{Told, altered_from, rows_at, rows_there, told_of, told_of_all}
use Rattle.log_laws.specs.Source.{SourceTables, source_of, IsTable, IsSource}
use Rattle.log_laws.specs.Transcript.{has_events}
use Rattle.log_laws.specs.Read.{change_read, rows_read, table_there, done_read, is_of_feed}
use Rattle.log_laws.specs.Read as read
use Rattle.log_laws.specs.Far.{SaysColumns}
use Rattle.log_laws.proofs.Steps.{given, same_value, reverse-onto}
use Rattle.log_laws.proofs.RowLaws.{IsRowOf, row_is}
use Rattle.log_laws.proofs.StageLaws.{same_table, own_name, altered_filled, rows_filled, in_table_given}

pub nothing : (b : Bool) → cond {A = Option Block} b None None ≡ None
nothing true = refl
nothing false = refl

-- ---- what no block ends leaves as it was

-- the same groups and positions as behind another history, and no fault
pub record Still (source : SourceValue) (base past : PastEvents) : Type 0 where
  pub groups : groups_of source past ≡ groups_of source base
  pub reached : seen source past ≡ seen source base
  pub faultless : first_fault source past ≡ None

pub still : (source : SourceValue) (base past : PastEvents) (event : EventValue) → block_at source past event ≡ None → fault_at source past event ≡ None → Still source base past → Still source base (event ∷ past)
still source base past event b f s = record {
  groups = ap (λ (o : Option Block). groups_of source past ++ group_of_block (seen source past) (length (groups_of source past) + 1) o) b ∙ append-nil (groups_of source past) ∙ s.groups;
  reached = ap (with_block (seen source past)) b ∙ s.reached;
  faultless = ap (λ (o : Option FeedFault). option_or o (fault_at source past event)) s.faultless ∙ f;
}

-- ---- in a transaction

-- a transaction is open behind a history, with these changes so far and no position
pub record InBody (s : SourceTables) (base past : PastEvents) (changes : List TableChangeValue) (stages : List Stage) : Type 0 where
  pub opened : is_open past ≡ true
  pub nowhere : body_position (source_of s) past ≡ None
  pub changed : body_changes (source_of s) past ≡ changes
  pub columns : SaysColumns s past stages
  pub as_it_was : Still (source_of s) base past

row_in : (s : SourceTables) (base past : PastEvents) (changes : List TableChangeValue) (stages : List Stage) (name : List ℕ) (rows : List ChangeValue)
    → row_fault (width_of (source_of s) past (table_in_source (source_of s) name)) rows ≡ None → InBody s base past changes stages
    → InBody s base (Row name rows ∷ past) (changes ++ changes_in (table_in_source (source_of s) name) rows) stages
row_in s base past changes stages name rows right b =
    let source : SourceValue = source_of s in
    let table : List ℕ = table_in_source source name in
    record {
      opened = b.opened;
      nowhere = b.nowhere;
      changed = ap (λ (before : List TableChangeValue). before ++ changes_in table rows) b.changed;
      columns = b.columns;
      as_it_was = still source base past (Row name rows) (nothing (is_open past)) (cond-true (is_open past) (row_fault (width_of source past table) rows) (Some Misplaced) b.opened ∙ right) b.as_it_was;
    }

-- the columns of a table that isn't another one
field_said : (source : SourceValue) (past : PastEvents) (name : List ℕ) (fields : List FieldValue) → last_field source (Field name fields ∷ past) (table_in_source source name) ≡ Some fields
field_said source past name fields =
    let own : List ℕ = table_in_source source name in
    cond-true (bytes_eq own own) (Some fields) (last_field source past own) ((bytes_eq-Decides own own).1 refl)

-- a ROW has the width of its table's columns
row_right : (source : SourceValue) (past : PastEvents) (table : List ℕ) (fields : List FieldValue) (rows : List ChangeValue) → last_field source past table ≡ Some fields → list_all (have_columns (length fields)) rows ≡ true
    → row_fault (width_of source past table) rows ≡ None
row_right source past table fields rows said wide =
    ap (λ (columns : Option (List FieldValue)). row_fault (option_map length columns) rows) said ∙ cond-true (list_all (have_columns (length fields)) rows) None (Some ColumnCount) wide

-- ---- rows of a table

module _ (s : SourceTables) (base : PastEvents) (right : IsSource s) where
  abbrev source : SourceValue
  source = source_of s

  -- behind a FIELD of a table the others' columns are as they were
  field_columns : (past : PastEvents) (stages : List Stage) (place : ℕ) (own : List ℕ) (table : TableValue) → IsTable source table → table_of own s.tables ≡ Some (place, table)
      → SaysColumns s past stages → SaysColumns s (field_event_of table ∷ past) (set stages place Filled)
  field_columns past stages place own table is here said name at another there filled =
      let said_here : last_field source (field_event_of table ∷ past) (table_in_source source table.name) ≡ Some (map field_of table.columns) = field_said source past table.name (map field_of table.columns) in
      let said_own : last_field source (field_event_of table ∷ past) table.name ≡ Some (map field_of table.columns) = ap (λ (n : List ℕ). last_field source (field_event_of table ∷ past) n) (sym is.own) ∙ said_here in
      elim (cases_eq at place) [
        | inl same ↦
            let one : table ≡ another = same_table place own name s.tables table another here (there ∙ ap (λ (i : ℕ). Some (i, another)) same) in
            subst (λ (t : TableValue). last_field source (field_event_of table ∷ past) t.name ≡ Some (map field_of t.columns)) one said_own
        | inr other ↦ elim (cases_Bool (bytes_eq (table_in_source source table.name) another.name)) [
          | inl alike ↦
              let names : table.name ≡ another.name = sym is.own ∙ same_text (table_in_source source table.name) another.name (sym alike) in
              let both : own ≡ name = sym (own_name place own s.tables table here) ∙ names ∙ own_name at name s.tables another there in
              let pair : ◌≡◌ {A = Option (ℕ × TableValue)} (Some (place, table)) (Some (at, another)) = sym here ∙ ap (λ (n : List ℕ). table_of n s.tables) both ∙ there in
              let same : place ≡ at = ap (λ (p : ℕ × TableValue). p.0) (same_Some (place, table) (at, another) pair) in
              absurd (other (sym same))
          | inr apart ↦
              cond-false (bytes_eq (table_in_source source table.name) another.name) (Some (map field_of table.columns)) (last_field source past another.name) apart
              ∙ said name at another there (rows_filled stages place at other filled)
        ]
      ]

  field_in : (past : PastEvents) (changes : List TableChangeValue) (stages : List Stage) (place : ℕ) (own : List ℕ) (table : TableValue) → IsTable source table → table_of own s.tables ≡ Some (place, table)
      → InBody s base past changes stages → InBody s base (field_event_of table ∷ past) changes (set stages place Filled)
  field_in past changes stages place own table is here b = record {
    opened = b.opened;
    nowhere = b.nowhere;
    changed = b.changed;
    columns = field_columns past stages place own table is here b.columns;
    as_it_was = still source base past (field_event_of table) (nothing (is_open past)) refl b.as_it_was;
  }

  -- where its columns were said already
  filled_columns : (past : PastEvents) (stages : List Stage) (place : ℕ) (own : List ℕ) (table : TableValue) → table_of own s.tables ≡ Some (place, table) → stage_at stages place ≡ Filled
      → SaysColumns s past stages → SaysColumns s past (set stages place Filled)
  filled_columns past stages place own table here is said name at another there filled = elim (cases_eq at place) [
    | inl same ↦ said name at another there (ap (λ (i : ℕ). stage_at stages i) same ∙ is)
    | inr other ↦ said name at another there (rows_filled stages place at other filled)
  ]

  -- the ROW of a row event, where its table's columns are said
  row_told : (past : PastEvents) (changes : List TableChangeValue) (stages : List Stage) (kind : RowsKind) (m : MapValue) (head : HeadValue) (table : TableValue) (event : EventValue) → IsTable source table → IsRowOf kind m head table event
      → last_field source past table.name ≡ Some (map field_of table.columns) → InBody s base past changes stages
      → InBody s base (event ∷ past) (changes ++ rows_read table.name kind head (columns_of table.columns m)) stages
  row_told past changes stages kind m head table event is r said b =
      let rows : List ChangeValue = map change_of (changes_of kind r.columns head.rows).items in
      let said_so : last_field source past (table_in_source source table.name) ≡ Some (map field_of table.columns) = ap (last_field source past) is.own ∙ said in
      let wide : list_all (have_columns (length (map field_of table.columns))) rows ≡ true = ap (λ (n : ℕ). list_all (have_columns n) rows) (length-map table.columns field_of) ∙ r.wide in
      let one : InBody s base (Row table.name rows ∷ past) (changes ++ changes_in (table_in_source source table.name) rows) stages =
      row_in s base past changes stages table.name rows (row_right source past (table_in_source source table.name) (map field_of table.columns) rows said_so wide) b in
      let read : changes_in (table_in_source source table.name) rows ≡ rows_read table.name kind head (columns_of table.columns m) =
      ap (λ (n : List ℕ). changes_in n rows) is.own ∙ r.read ∙ sym (ap (rows_read table.name kind head) r.are) in
      subst (λ (e : EventValue). InBody s base (e ∷ past) (changes ++ rows_read table.name kind head (columns_of table.columns m)) stages) (sym r.is)
      (subst (λ (cs : List TableChangeValue). InBody s base (Row table.name rows ∷ past) (changes ++ cs) stages) read one)

  -- ---- one change

  -- what a step tells: events that go on in the transaction with these changes more, each of which can be written
  pub record Goes (past : PastEvents) (changes : List TableChangeValue) (events : List EventValue) (more : List TableChangeValue) (stages : List Stage) (of_feed : Bool) : Type 0 where
    pub body : InBody s base (reverse events ++ past) (changes ++ more) stages
    pub sound : AllByRecursion IsSoundEvent events
    pub some : has_events events ≡ of_feed

  row_sound : (kind : RowsKind) (m : MapValue) (head : HeadValue) (table : TableValue) (event : EventValue) → IsTable source table → IsRowOf kind m head table event → IsSoundEvent event
  row_sound kind m head table event is r = subst IsSoundEvent (sym r.is) (is.name, r.within is.few)

  fields_sound : (wanted : List WantedValue) → AllByRecursion (λ w. IsColumn (field_of w)) wanted → AllByRecursion IsColumn (map field_of wanted)
  fields_sound [] all = tt
  fields_sound (w ∷ wanted) all = (all.0, fields_sound wanted all.1)

  field_sound : (table : TableValue) → IsTable source table → IsSoundEvent (field_event_of table)
  field_sound table is = (is.name, fields_sound table.columns is.columns)

  -- rows of a table of the feed
  rows_go : (past : PastEvents) (changes : List TableChangeValue) (stages new : List Stage) (kind : RowsKind) (m : MapValue) (head : HeadValue) (own : List ℕ) (place : ℕ) (table : TableValue) (stage : Stage) (events : List EventValue)
      → IsTable source table → table_of own s.tables ≡ Some (place, table) → stage_at stages place ≡ stage → events_of_rows kind m head table stage ≡ Ok events → new ≡ set stages place Filled → InBody s base past changes stages
      → Goes past changes events (rows_read table.name kind head (columns_of table.columns m)) new true
  unfolding events_of_rows
  rows_go past changes stages new kind m head own place table Absent events is here at e behind b = cc
  rows_go past changes stages new kind m head own place table Made events is here at e behind b =
      let row = given (row_of kind m head table) (λ row. Ok (field_event_of table ∷ row ∷ [])) events e in
      let r : IsRowOf kind m head table row.0 = row_is kind m head table row.0 row.1 in
      let are : events ≡ field_event_of table ∷ row.0 ∷ [] = sym (same_value (field_event_of table ∷ row.0 ∷ []) events row.2) in
      let one : InBody s base (field_event_of table ∷ past) changes (set stages place Filled) = field_in past changes stages place own table is here b in
      let said : last_field source (field_event_of table ∷ past) table.name ≡ Some (map field_of table.columns) =
      ap (λ (n : List ℕ). last_field source (field_event_of table ∷ past) n) (sym is.own) ∙ field_said source past table.name (map field_of table.columns) in
      let two = row_told (field_event_of table ∷ past) changes (set stages place Filled) kind m head table row.0 is r said one in
      rw (are, behind) (record { body = two; sound = (field_sound table is, (row_sound kind m head table row.0 is r, tt)); some = refl })
  rows_go past changes stages new kind m head own place table Filled events is here at e behind b =
      let row = given (row_of kind m head table) (λ row. Ok (row ∷ [])) events e in
      let r : IsRowOf kind m head table row.0 = row_is kind m head table row.0 row.1 in
      let are : events ≡ row.0 ∷ [] = sym (same_value (row.0 ∷ []) events row.2) in
      let still_said : InBody s base past changes (set stages place Filled) =
      record { opened = b.opened; nowhere = b.nowhere; changed = b.changed; columns = filled_columns past stages place own table here at b.columns; as_it_was = b.as_it_was } in
      let two = row_told past changes (set stages place Filled) kind m head table row.0 is r (b.columns own place table here at) still_said in
      rw (are, behind) (record { body = two; sound = (row_sound kind m head table row.0 is r, tt); some = refl })

  -- a table that is found is one of the feed's
  found_right : (from : ℕ) (tables : List TableValue) (own : List ℕ) (place : ℕ) (table : TableValue) → AllByRecursion (IsTable source) tables → table_from from own tables ≡ Some (place, table) → IsTable source table
  found_right from [] own place table all e = cc
  found_right from (t ∷ tables) own place table all e = elim (cases_Bool (bytes_eq t.name own)) [
    | inl same ↦
        let it : ◌≡◌ {A = Option (ℕ × TableValue)} (Some (from, t)) (Some (place, table)) = (let h = rw same at e in h) in
        let is : t ≡ table = ap (λ (p : ℕ × TableValue). p.1) (same_Some (from, t) (place, table) it) in
        subst (IsTable source) is all.0
    | inr other ↦ (let rest : table_from (from + 1) own tables ≡ Some (place, table) = (let h = rw other at e in h) in found_right (from + 1) tables own place table all.1 rest)
  ]

  -- nothing is told
  quiet : (past : PastEvents) (changes : List TableChangeValue) (stages : List Stage) → InBody s base past changes stages → Goes past changes [] [] stages false
  quiet past changes stages b = record { body = subst (λ (cs : List TableChangeValue). InBody s base past cs stages) (sym (append-nil changes)) b; sound = tt; some = refl }

  rows_step : (past : PastEvents) (changes : List TableChangeValue) (stages : List Stage) (kind : RowsKind) (m : MapValue) (head : HeadValue) (there : Option (ℕ × TableValue)) (x : Told)
      → ((found : ℕ × TableValue) → there ≡ Some found → table_of m.name s.tables ≡ Some found) → rows_at kind m head stages there ≡ Ok x → InBody s base past changes stages
      → Goes past changes x.0 (read.rows_there kind m head there) x.1 (is_some there)
  rows_step past changes stages kind m head None x is e b =
      let nothing_more : ([], stages) ≡ x = same_value ([], stages) x e in
      rw (← nothing_more) (quiet past changes stages b)
  rows_step past changes stages kind m head (Some found) x is e b =
      let here : table_of m.name s.tables ≡ Some (found.0, found.1) = is found refl in
      let table : TableValue = found.1 in
      let right_table : IsTable source table = found_right 0 s.tables m.name found.0 table right.tables here in
      let events = given (in_table found.0 (events_of_rows kind m head table (stage_at stages found.0))) (λ events. Ok (events, set stages found.0 Filled)) x e in
      let all : (events.0, set stages found.0 Filled) ≡ x = same_value (events.0, set stages found.0 Filled) x events.2 in
      let told : events_of_rows kind m head table (stage_at stages found.0) ≡ Ok events.0 = in_table_given found.0 (events_of_rows kind m head table (stage_at stages found.0)) events.0 events.1 in
      rw (← all) (rows_go past changes stages (set stages found.0 Filled) kind m head m.name found.0 table (stage_at stages found.0) events.0 right_table here refl told refl b)

  -- those of a statement
  said_further : (past : PastEvents) (changes : List TableChangeValue) (stages new : List Stage) → ((place : ℕ) → stage_at new place ≡ Filled → stage_at stages place ≡ Filled) → InBody s base past changes stages → InBody s base past changes new
  said_further past changes stages new was b =
      record { opened = b.opened; nowhere = b.nowhere; changed = b.changed; columns = λ name place table here filled. b.columns name place table here (was place filled); as_it_was = b.as_it_was }

  told_rows : (kind : RowsKind) (m : MapValue) (head : HeadValue) (stages : List Stage) → told_of s.schema s.tables (RowsOf kind m head) stages ≡ rows_at kind m head stages (table_there s m)
  unfolding told_of
  told_rows kind m head stages = by (bytes_eq m.schema s.schema)
    where
      by : (b : Bool) → (if b then rows_at kind m head stages (table_of m.name s.tables) else Ok ([], stages)) ≡ rows_at kind m head stages (if b then table_of m.name s.tables else None)
      by true = refl
      by false = refl

  there_of : (b : Bool) (t : Option (ℕ × TableValue)) (found : ℕ × TableValue) → (if b then t else None) ≡ Some found → t ≡ Some found
  there_of true t found e = e
  there_of false t found e = cc

  -- a change of a transaction is told
  one_goes : (past : PastEvents) (changes : List TableChangeValue) (stages : List Stage) (d : DoneValue) (x : Told) → told_of s.schema s.tables d stages ≡ Ok x → InBody s base past changes stages
      → Goes past changes x.0 (done_read s d) x.1 (is_of_feed s d)
  unfolding told_of
  one_goes past changes stages (RowsOf kind m head) x e b =
      rows_step past changes stages kind m head (table_there s m) x (λ found is. there_of (bytes_eq m.schema s.schema) (table_of m.name s.tables) found is) (sym (told_rows kind m head stages) ∙ e) b
  one_goes past changes stages (Altered q) x e b =
      let new = given (altered_from 0 s.schema q s.tables stages) (λ new. Ok ([], new)) x e in
      let all : ([], new.0) ≡ x = same_value ([], new.0) x new.2 in
      rw (← all) (quiet past changes new.0 (said_further past changes stages new.0 (λ place. altered_filled 0 s.schema q s.tables stages new.0 place new.1) b))

  -- ---- all of a transaction

  have_both : (xs ys : List EventValue) (a b : Bool) → has_events xs ≡ a → has_events ys ≡ b → has_events (xs ++ ys) ≡ (a || b)
  have_both [] ys a b e f = rw (← e) f
  have_both (x ∷ xs) ys a b e f = rw (← e) refl

  pub all_go : (past : PastEvents) (changes : List TableChangeValue) (stages : List Stage) (dones : List DoneValue) (x : Told) → told_of_all s.schema s.tables dones stages ≡ Ok x → InBody s base past changes stages
      → Goes past changes x.0 (flat_map (done_read s) dones) x.1 (list_any (is_of_feed s) dones)
  unfolding told_of_all
  all_go past changes stages [] x e b =
      let nothing_more : ([], stages) ≡ x = same_value ([], stages) x e in
      rw (← nothing_more) (quiet past changes stages b)
  all_go past changes stages (d ∷ dones) x e b =
      let one = given (told_of s.schema s.tables d stages) (λ x. told_of_all s.schema s.tables dones x.1 >>= λ y. Ok (x.0 ++ y.0, y.1)) x e in
      let others = given (told_of_all s.schema s.tables dones one.0.1) (λ y. Ok (one.0.0 ++ y.0, y.1)) x one.2 in
      let all : (one.0.0 ++ others.0.0, others.0.1) ≡ x = same_value (one.0.0 ++ others.0.0, others.0.1) x others.2 in
      let g : Goes past changes one.0.0 (done_read s d) one.0.1 (is_of_feed s d) = one_goes past changes stages d one.0 one.1 b in
      let h : Goes (reverse one.0.0 ++ past) (changes ++ done_read s d) others.0.0 (flat_map (done_read s) dones) others.0.1 (list_any (is_of_feed s) dones) =
      all_go (reverse one.0.0 ++ past) (changes ++ done_read s d) one.0.1 dones others.0 others.1 g.body in
      let order : reverse others.0.0 ++ (reverse one.0.0 ++ past) ≡ reverse (one.0.0 ++ others.0.0) ++ past =
      sym (append_assoc (reverse others.0.0) (reverse one.0.0) past) ∙ ap (λ (r : PastEvents). r ++ past) (sym (reverse-append one.0.0 others.0.0)) in
      rw (← all) (record {
        body = subst (λ (p : PastEvents). InBody s base p (changes ++ flat_map (done_read s) (d ∷ dones)) others.0.1) order
            (subst (λ (cs : List TableChangeValue). InBody s base (reverse others.0.0 ++ (reverse one.0.0 ++ past)) cs others.0.1) (append_assoc changes (done_read s d) (flat_map (done_read s) dones)) h.body);
        sound = All-append IsSoundEvent one.0.0 others.0.0 g.sound h.sound;
        some = have_both one.0.0 others.0.0 (is_of_feed s d) (list_any (is_of_feed s) dones) g.some h.some;
      })
