-- What is kept of a board is said by its checkpoint.
use Rattle.std.proofs.Common.{◌≡◌, ◌==◌, ℕ, zero, suc, ◌+◌, ◌-◌, ◌^◌, ◌<◌, ◌≤◌, inl, inr, Bool, true, false, cond, List, [], ◌∷◌, length, map, take, Option, Some, None, Ok, slice_get, refl, sym, ap, subst, ◌∙◌, arith}
use Rattle.std.proofs.lemmas.Bool.{eqb-true, ltb-true}
use Rattle.std.proofs.lemmas.List.{length-map, length-append}
use Rattle.std.proofs.lemmas.Option.{same_Some, none-some, slice_get-map, slice_get_within}
use Rattle.std.specs.Prelude.{IfSome, nat_lt, slice_index_or}
use Rattle.std.specs.List.{AllByRecursion, filter_map}
use Rattle.std.specs.Option.{option_map, option_map_or}
use Rattle.list_laws.proofs.Fronts.{each}
use Rattle.list_laws.proofs.Places.{slice_get-push, get_in_front}
use Rattle.filter_rule.specs.Extending.{IsExtended}
use Rattle.row_view.specs.FieldValue.{FieldValue}
use Rattle.filter_rule.specs.PlanTable.{TableValue}
use Rattle.filter_rule.specs.PlanValue.{PlanValue, columns_of, key_columns_of, kept_columns_of}
use Rattle.filter_rule.specs.WellFormed.{IsColumnDef, IsTable, IsPlan}
use Rattle.gtid_set.specs.declared.interval.Interval.{Interval}
use Rattle.gtid_set.specs.Position.{IsCanonical}
use Rattle.gtid_set.specs.Text.{position_of_text, text_limit}
use Rattle.pk_copy.specs.KeyOfKept.{kept_cell, KeysAreKept}
use Rattle.pk_copy.specs.KeyOf.{key_in}
use Rattle.pk_copy.specs.KeyValue.{Part, KeyValue}
use Rattle.pk_copy.specs.Lastpk.{lastpk_of, part_text, lastpk_cells, key_of_lastpk, IsTableKey}
use Rattle.pk_copy.specs.Marks.{MarkValue, waiting, up_to, copied, Marks, AreMarks, IsOfCurrent, current_mark, mark_of, is_inside}
use Rattle.row_view.specs.WrittenRow.{IsWithinLimits}
use Rattle.source_feed.specs.History.{RowValue}
use Rattle.source_feed.specs.Image.{ImageRows}
use Rattle.source_feed.specs.Touches.{PreparedValue}
use Rattle.vevent.specs.CheckpointPart.{TablePartValue, StreamPartValue}
use Rattle.vevent.specs.WrittenEvent.{IsColumn}
use Rattle.vevent.specs.WrittenPart.{IsSoundTable, IsSoundStream, StreamPartsAreReadAgain}
use Rattle.board_laws.specs.Allowed.{last_position}
use Rattle.board_laws.specs.KeptRows.{passed_rows, kept_row, kept_rows}
use Rattle.board_laws.specs.Lawful.{IsReadList, IsSoundState, IsLawful}
use Rattle.board_laws.specs.Meaning.{State, Meaning}
use Rattle.board_laws.proofs.History.{read-cut}
use Rattle.board_laws.proofs.Lookups.{Ties, all-at, all-filter}
use Rattle.board_laws.proofs.RowsUnder.{IsRowUnder, passed-under}
use Rattle.board_laws.specs.Extended.{marks_of_more}
use Rattle.board_laws.specs.Compatible.{plans_of_board}
use Rattle.board_laws.specs.Joined.{cut_rows}
use Rattle.board_laws.specs.Sources.{applied_position}
use Rattle.checkpoint_laws.specs.declared.version.Version.{Version}
use Rattle.checkpoint_laws.specs.declared.version.Version.TheVariants.{One, Two}
use Rattle.checkpoint_laws.specs.Added.{under_plan, under_plans, SavedBoardsAreSaidOfMore}
use Rattle.checkpoint_laws.specs.Saved.{SavedStream, own_rows, saved_stream, saved_of}
use Rattle.checkpoint_laws.specs.Written.{position_text, number_of_mark, last_row_of, saved_rows_of_table, table_part, numbers_below, table_parts, stream_part, stream_parts, checkpoint_in}
use Rattle.checkpoint_laws.specs.Said.{SaysLast, IsNamed, SaysTable, IsKeyed, IsSaved, AreSoMany, SaysStream, HaveAsMany, IsCheckpoint}
use Rattle.checkpoint_laws.specs.Laws.{IsStreamWithin, SavedBoardsAreSaid, AreWithin}
use Rattle.checkpoint_laws.proofs.PartLaws.{checkpoints_read_again}
use Rattle.checkpoint_laws.proofs.OwnRows.{own-rising, own-is_cut}
use Rattle.checkpoint_laws.proofs.PositionText.{position_utf8}
use Rattle.checkpoint_laws.proofs.ResumedLaws.{at_same_place}
use Rattle.checkpoint_laws.proofs.RestartedLaws.{saved_at, saved_long}

-- ---- the numbers below n

below_long : (n : ℕ) → length (numbers_below n) ≡ n
below_long zero = refl
below_long (suc n) =
    let rest : length (numbers_below n) ≡ n = below_long n in
    let more : length (numbers_below n) + 1 ≡ suc n = omega (arith, rest) in
    length-append (numbers_below n) (n ∷ []) ∙ more

below_at : (n t x : ℕ) → slice_get (numbers_below n) t ≡ Some x → x ≡ t
below_at zero t x e = absurd (none-some x e)
below_at (suc n) t x e = elim (slice_get-push (numbers_below n) n x t e) [
  | inl old ↦ below_at n t x old.1
  | inr last ↦ sym last.1 ∙ sym (below_long n) ∙ sym last.0
]

-- ---- the key of a mark

-- a fact of the key of a mark, where there is one
abbrev OfKey : (KeyValue → Type 0) → MarkValue → Type 0
OfKey P waiting = Unit {0}
OfKey P (up_to key) = P key
OfKey P copied = Unit {0}

of_mark : (P : KeyValue → Type 0) (m : Marks) (t : ℕ) → AreMarks m → IfSome m.upto P → OfKey (λ key. P key × (key.table ≡ t)) (mark_of m t)
of_mark P m t are h = by (nat_lt t m.done) (t == m.done) refl m.upto are.current h
  where
    by : (a b : Bool) → (t == m.done) ≡ b → (o : Option KeyValue) → IfSome o (IsOfCurrent m) → IfSome o P → OfKey (λ key. P key × (key.table ≡ t)) (cond a copied (cond b (current_mark o) waiting))
    by true b e o current h = tt
    by false false e o current h = tt
    by false true e None current h = tt
    by false true e (Some key) current h = (h, current.table ∙ sym (eqb-true t m.done e))

-- ---- the columns of a plan

columns_are : (columns : List FieldValue) → ((i : ℕ) (column : FieldValue) → slice_get columns i ≡ Some column → IsColumnDef column) → AllByRecursion IsColumn columns
columns_are [] h = tt
columns_are (column ∷ columns) h = let is : IsColumnDef column = h 0 column refl in (record { name = is.name_text; number = omega (arith, is.type_bits) }, columns_are columns (λ i. h (suc i)))

table_columns : (plan : PlanValue) → IsPlan plan → (t : ℕ) → AllByRecursion IsColumn (columns_of plan t)
table_columns plan is t = by (slice_get plan.tables t) refl
  where
    by : (o : Option TableValue) → slice_get plan.tables t ≡ o → AllByRecursion IsColumn (option_map_or (λ (table : TableValue). table.columns) o [])
    by None here = tt
    by (Some table) here = let of : IsTable table = is.tables.each_table t table here in columns_are table.columns of.each_column

-- ---- parts within the limits

filter_more : {A B : Type 0} (f : A → Option B) (x : A) (xs : List A) (y : B) → f x ≡ Some y → filter_map f (x ∷ xs) ≡ y ∷ filter_map f xs
filter_more f x xs y e = rw e refl

filter_none : {A B : Type 0} (f : A → Option B) (x : A) (xs : List A) → f x ≡ None → filter_map f (x ∷ xs) ≡ filter_map f xs
filter_none f x xs e = rw e refl

column_at : (columns : List FieldValue) (place : ℕ) (column : FieldValue) → AllByRecursion IsColumn columns → slice_get columns place ≡ Some column → IsColumn column
column_at [] place column h e = absurd (none-some column e)
column_at (c ∷ columns) zero column h e = subst IsColumn (same_Some c column e) h.0
column_at (c ∷ columns) (suc place) column h e = column_at columns place column h.1 e

columns_at : (columns : List FieldValue) (places : List ℕ) → AllByRecursion IsColumn columns → AllByRecursion IsColumn (filter_map (slice_get columns) places)
columns_at columns [] h = tt
columns_at columns (place ∷ places) h = by (slice_get columns place) refl (columns_at columns places h)
  where
    by : (o : Option FieldValue) → slice_get columns place ≡ o → AllByRecursion IsColumn (filter_map (slice_get columns) places) → AllByRecursion IsColumn (filter_map (slice_get columns) (place ∷ places))
    by None e rest = subst (AllByRecursion IsColumn) (sym (filter_none (slice_get columns) place places e)) rest
    by (Some column) e rest =
        subst (AllByRecursion IsColumn) (sym (filter_more (slice_get columns) place places column e)) (column_at columns place column h e, rest)

values_within : (rows : ImageRows) → AllByRecursion (λ (row : KeyValue × RowValue). IsWithinLimits row.1) rows → AllByRecursion IsWithinLimits (map (λ (row : KeyValue × RowValue). row.1) rows)
values_within [] h = tt
values_within (row ∷ rows) h = (h.0, values_within rows h.1)

small : (mark : MarkValue) → number_of_mark mark < 2 ^ 64
small waiting = omega arith
small (up_to key) = omega arith
small copied = omega arith

last_within : (t : ℕ) (mark : MarkValue) → OfKey (λ key. IsWithinLimits (lastpk_of key) × (key.table ≡ t)) mark → IfSome (last_row_of mark) IsWithinLimits
last_within t waiting h = tt
last_within t (up_to key) h = h.0
last_within t copied h = tt

module _ (version : Version) (plan : PlanValue) (well : IsPlan plan) (saved : SavedStream) (within : IsStreamWithin saved) (marks : AreMarks saved.marks) (canonical : IsCanonical saved.position) where
  sound_table : (t : ℕ) → IsSoundTable (table_part version plan saved t)
  sound_table t = record {
    mark = small (mark_of saved.marks t);
    answer = record {
      fields = columns_at (columns_of plan t) (kept_columns_of plan t) (table_columns plan well t);
      pkfields = columns_at (columns_of plan t) (key_columns_of plan t) (table_columns plan well t);
      gtid = position_utf8 saved.position canonical;
      rows = values_within (saved_rows_of_table t saved.rows) (all-filter (λ (row : KeyValue × RowValue). IsWithinLimits row.1) (λ row. row.0.table == t) saved.rows within.rows);
      lastpk = last_within t (mark_of saved.marks t) (of_mark (λ key. IsWithinLimits (lastpk_of key)) saved.marks t marks within.last);
    };
  }

  sound_tables : (ts : List ℕ) → AllByRecursion IsSoundTable (map (table_part version plan saved) ts)
  sound_tables [] = tt
  sound_tables (t ∷ ts) = (sound_table t, sound_tables ts)

  sound_stream : IsSoundStream (stream_part version plan saved)
  sound_stream = record { shard = well.shard_text; tables = sound_tables (numbers_below (length plan.tables)) }

-- ---- what the parts say

abbrev ReadsBack : Type 0
ReadsBack = (set : List Interval) → IsCanonical set → length (position_text set) ≤ text_limit → position_of_text (position_text set) ≡ Ok set

says_last : (plan : PlanValue) (t : ℕ) (mark : MarkValue) → OfKey (λ key. IsTableKey plan key × (key.table ≡ t)) mark → SaysLast plan t mark (last_row_of mark)
says_last plan t waiting h = refl
says_last plan t copied h = refl
says_last plan t (up_to key) h =
    let of : IsTableKey plan key = h.0 in (
      lastpk_of key,
      refl,
      length-map key.parts (λ (part : Part). Some (part_text part)) ∙ of.count ∙ ap (λ (n : ℕ). length (key_columns_of plan n)) h.1,
      subst (λ (n : ℕ). key_of_lastpk plan n (lastpk_of key) ≡ Ok key) h.1 of.read,
    )

-- the tables of one plan stand in front of those of another
pub record IsFront (old new : PlanValue) : Type 0 where
  pub shard : new.shard ≡ old.shard
  pub fewer : length old.tables ≤ length new.tables
  pub tables : (t : ℕ) → t < length old.tables → slice_get old.tables t ≡ slice_get new.tables t

pub front_itself : (plan : PlanValue) → IsFront plan plan
front_itself plan = record { shard = refl; fewer = omega arith; tables = λ t less. refl }

abbrev columns_in : Option TableValue → List FieldValue
columns_in o = option_map_or (λ (table : TableValue). table.columns) o []

abbrev key_in_table : Option TableValue → List ℕ
key_in_table o = option_map_or (λ (table : TableValue). table.key) o []

abbrev kept_in : Option TableValue → List ℕ
kept_in o = option_map_or (λ (table : TableValue). table.kept) o []

abbrev key_fields_in : Option TableValue → List FieldValue
key_fields_in o = filter_map (slice_get (columns_in o)) (key_in_table o)

-- of the tables behind the last one nothing is marked
waits_behind : (m : Marks) (n t : ℕ) → AreMarks m → m.tables ≡ n → n ≤ t → mark_of m t ≡ waiting
waits_behind m n t are tables most = by (nat_lt t m.done) refl (t == m.done) refl m.upto are.current
  where
    by : (a : Bool) → nat_lt t m.done ≡ a → (b : Bool) → (t == m.done) ≡ b → (o : Option KeyValue) → IfSome o (IsOfCurrent m) → cond a copied (cond b (current_mark o) waiting) ≡ waiting
    by true d b e o h = let less : t < m.done = ltb-true t m.done d in absurd (omega (arith, less, are.within, tables, most))
    by false d false e o h = refl
    by false d true e None h = refl
    by false d true e (Some key) h = let at : t ≡ m.done = eqb-true t m.done e in absurd (omega (arith, at, h.copying, tables, most))

module _ (reads : ReadsBack) (version : Version) (old new : PlanValue) (front : IsFront old new) (many : AreSoMany version new (length old.tables))
    (saved : SavedStream) (sound : IsSaved old saved) (within : IsStreamWithin saved) (canonical : IsCanonical saved.position) where
  key_there : (key : KeyValue) → IsTableKey old key → IsTableKey new key
  key_there key is =
      let same : slice_get old.tables key.table ≡ slice_get new.tables key.table = front.tables key.table is.table in
      record {
        table = omega (arith, is.table, front.fewer);
        count = is.count ∙ ap (λ (o : Option TableValue). length (key_in_table o)) same;
        read = ap (λ (o : Option TableValue). key_in key.table (lastpk_cells (columns_in o) (key_in_table o) (lastpk_of key))) (sym same) ∙ is.read;
      }

  row_there : (row : KeyValue × RowValue) → IsKeyed old row → IsKeyed new row
  row_there row is =
      let same : slice_get old.tables row.0.table ≡ slice_get new.tables row.0.table = front.tables row.0.table is.table in
      record {
        table = omega (arith, is.table, front.fewer);
        width = is.width ∙ ap (λ (o : Option TableValue). length (kept_in o)) same;
        key = ap (λ (o : Option TableValue). key_in row.0.table (map (kept_cell (columns_in o) (kept_in o) row.1) (key_in_table o))) (sym same) ∙ is.key;
      }

  key_of_current : (o : Option KeyValue) → IfSome o (IsOfCurrent saved.marks) → IfSome o (IsOfCurrent (marks_of_more (length new.tables) saved.marks))
  key_of_current None h = tt
  key_of_current (Some key) h = record { copying = omega (arith, h.copying, sound.tables, front.fewer); table = h.table }

  key_of_plan : (o : Option KeyValue) → IfSome o (IsTableKey old) → IfSome o (IsTableKey new)
  key_of_plan None h = tt
  key_of_plan (Some key) h = key_there key h

  -- what is said under the old plan can be said under the new one
  sound_there : IsSaved new (under_plan new saved)
  sound_there = record {
    tables = refl;
    marks = record { within = omega (arith, sound.marks.within, sound.tables, front.fewer); current = key_of_current saved.marks.upto sound.marks.current };
    upto = key_of_plan saved.marks.upto sound.upto;
    rising = sound.rising;
    keyed = each (IsKeyed old) (IsKeyed new) row_there saved.rows sound.keyed;
  }

  has_name : (v : Version) (t : ℕ) → t < length old.tables → IsNamed v new t (table_part v old saved t)
  has_name One t less = tt
  has_name Two t less = ap (λ (o : Option TableValue). option_map_or (λ (table : TableValue). table.name) o []) (front.tables t less)

  says_table : (t : ℕ) → t < length old.tables → SaysTable version new (under_plan new saved) t (table_part version old saved t)
  says_table t less = record {
    named = has_name version t less;
    mark = refl;
    answer = record {
      fields = ap (λ (o : Option TableValue). filter_map (slice_get (columns_in o)) (kept_in o)) (front.tables t less);
      key_fields = ap key_fields_in (front.tables t less);
      position = reads saved.position canonical within.short;
      rows = refl;
      last = says_last new t (mark_of saved.marks t) (of_mark (IsTableKey new) saved.marks t sound.marks (key_of_plan saved.marks.upto sound.upto));
    };
  }

  parts_long_as : length (stream_part version old saved).tables ≡ length old.tables
  parts_long_as = length-map (numbers_below (length old.tables)) (table_part version old saved) ∙ below_long (length old.tables)

  record IsPartOfTable (t : ℕ) (table : TablePartValue) : Type 0 where
    inside : t < length old.tables
    is : table_part version old saved t ≡ table

  table_is : (t : ℕ) (table : TablePartValue) → slice_get (table_parts version old saved (length old.tables)) t ≡ Some table → IsPartOfTable t table
  table_is t table e = record {
    inside = let less : t < length (stream_part version old saved).tables = slice_get_within (stream_part version old saved).tables t table e in omega (arith, less, parts_long_as);
    is = by (slice_get (numbers_below (length old.tables)) t) refl (sym (slice_get-map (table_part version old saved) (numbers_below (length old.tables)) t) ∙ e);
  }
    where
      by : (o : Option ℕ) → slice_get (numbers_below (length old.tables)) t ≡ o → option_map (table_part version old saved) (slice_get (numbers_below (length old.tables)) t) ≡ Some table
          → table_part version old saved t ≡ table
      by None at h = absurd (none-some table (sym (ap (option_map (table_part version old saved)) at) ∙ h))
      by (Some x) at h =
          ap (table_part version old saved) (sym (below_at (length old.tables) t x at))
          ∙ same_Some (table_part version old saved x) table (sym (ap (option_map (table_part version old saved)) at) ∙ h)

  says_stream : SaysStream version new (under_plan new saved) (stream_part version old saved)
  says_stream = record {
    sound = sound_there;
    shard = sym front.shard;
    count = subst (AreSoMany version new) (sym parts_long_as) many;
    each_table = λ t table e. let is : IsPartOfTable t table = table_is t table e in subst (SaysTable version new (under_plan new saved) t) is.is (says_table t is.inside);
    further = λ t most. waits_behind saved.marks (length old.tables) t sound.marks sound.tables (omega (arith, most, parts_long_as));
    bare = each (IsKeyed old) (λ row. row.0.table < length (stream_part version old saved).tables) (λ row keyed. omega (arith, keyed.table, parts_long_as)) saved.rows sound.keyed;
  }

-- ---- the parts of streams

-- a part, and what it is of
record IsStreamPart (version : Version) (plans : List PlanValue) (saved : List SavedStream) (s : ℕ) (part : StreamPartValue) : Type 0 where
  plan : PlanValue
  planned : slice_get plans s ≡ Some plan
  one : SavedStream
  kept : slice_get saved s ≡ Some one
  is : stream_part version plan one ≡ part

part_at : (version : Version) (plans : List PlanValue) (saved : List SavedStream) (s : ℕ) (part : StreamPartValue) → slice_get (stream_parts version plans saved) s ≡ Some part → IsStreamPart version plans saved s part
part_at version [] saved s part r = absurd (none-some part r)
part_at version (x ∷ plans) [] s part r = absurd (none-some part r)
part_at version (x ∷ plans) (y ∷ saved) zero part r = record { plan = x; planned = refl; one = y; kept = refl; is = same_Some (stream_part version x y) part r }
part_at version (x ∷ plans) (y ∷ saved) (suc s) part r =
    let rest : IsStreamPart version plans saved s part = part_at version plans saved s part r in
    record { plan = rest.plan; planned = rest.planned; one = rest.one; kept = rest.kept; is = rest.is }

parts_long : (version : Version) (plans : List PlanValue) (saved : List SavedStream) → length saved ≡ length plans → length (stream_parts version plans saved) ≡ length plans
parts_long version [] saved e = refl
parts_long version (x ∷ plans) [] e = let clash : 0 ≡ suc (length plans) = e in absurd (omega (arith, clash))
parts_long version (x ∷ plans) (y ∷ saved) e = let rest : suc (length saved) ≡ suc (length plans) = e in ap suc (parts_long version plans saved (omega (arith, rest)))

all_sound : (version : Version) (plans : List PlanValue) (saved : List SavedStream)
    → ((s : ℕ) (plan : PlanValue) (one : SavedStream) → slice_get plans s ≡ Some plan → slice_get saved s ≡ Some one → IsSoundStream (stream_part version plan one))
    → AllByRecursion IsSoundStream (stream_parts version plans saved)
all_sound version [] saved h = tt
all_sound version (x ∷ plans) [] h = tt
all_sound version (x ∷ plans) (y ∷ saved) h = (h 0 x y refl refl, all_sound version plans saved (λ s plan one p q. h (suc s) plan one p q))

-- ---- what is kept, under other plans

-- what is kept of a stream under its new plan, and what was kept of it
record IsUnder (plans : List PlanValue) (saved : List SavedStream) (s : ℕ) (one : SavedStream) : Type 0 where
  plan : PlanValue
  planned : slice_get plans s ≡ Some plan
  old : SavedStream
  kept : slice_get saved s ≡ Some old
  is : under_plan plan old ≡ one

under_at : (plans : List PlanValue) (saved : List SavedStream) (s : ℕ) (one : SavedStream) → slice_get (under_plans plans saved) s ≡ Some one → IsUnder plans saved s one
under_at [] saved s one e = absurd (none-some one e)
under_at (x ∷ plans) [] s one e = absurd (none-some one e)
under_at (x ∷ plans) (y ∷ saved) zero one e = record { plan = x; planned = refl; old = y; kept = refl; is = same_Some (under_plan x y) one e }
under_at (x ∷ plans) (y ∷ saved) (suc s) one e =
    let rest : IsUnder plans saved s one = under_at plans saved s one e in
    record { plan = rest.plan; planned = rest.planned; old = rest.old; kept = rest.kept; is = rest.is }

pub under_long : (plans : List PlanValue) (saved : List SavedStream) → length saved ≡ length plans → length (under_plans plans saved) ≡ length plans
under_long [] saved e = refl
under_long (x ∷ plans) [] e = let clash : 0 ≡ suc (length plans) = e in absurd (omega (arith, clash))
under_long (x ∷ plans) (y ∷ saved) e = let rest : suc (length saved) ≡ suc (length plans) = e in ap suc (under_long plans saved (omega (arith, rest)))

-- under their own plans nothing changes
under_own : (plans : List PlanValue) (saved : List SavedStream) → length saved ≡ length plans
    → ((s : ℕ) (plan : PlanValue) (one : SavedStream) → slice_get plans s ≡ Some plan → slice_get saved s ≡ Some one → one.marks.tables ≡ length plan.tables)
    → under_plans plans saved ≡ saved
under_own [] [] e h = refl
under_own [] (y ∷ saved) e h = let clash : suc (length saved) ≡ 0 = e in absurd (omega (arith, clash))
under_own (x ∷ plans) [] e h = let clash : 0 ≡ suc (length plans) = e in absurd (omega (arith, clash))
under_own (x ∷ plans) (y ∷ saved) e h =
    let rest : suc (length saved) ≡ suc (length plans) = e in
    let tables : y.marks.tables ≡ length x.tables = h 0 x y refl refl in
    let later : under_plans plans saved ≡ saved = under_own plans saved (omega (arith, rest)) (λ s plan one p q. h (suc s) plan one p q) in
    let of_tables : ℕ → SavedStream = λ n. record { position = y.position; marks = marks_of_more n y.marks; rows = y.rows } in
    let one : under_plan x y ≡ y = ap of_tables (sym tables) in
    λ i. one i ∷ later i

-- ---- the board

-- the position of a stream is one
position_is : (state : State) → IsSoundState state → IsCanonical (applied_position state)
position_is state sound = by (take state.applied state.list) (read-cut state.plan state.list state.applied sound.list)
  where
    by : (groups : List PreparedValue) → IsReadList state.plan groups → IsCanonical (last_position groups)
    by groups read = last (slice_get groups (length groups - 1)) refl
      where
        last : (o : Option PreparedValue) → slice_get groups (length groups - 1) ≡ o → IsCanonical (last_position groups)
        last None e = subst (λ (o : Option PreparedValue). IsCanonical (option_map_or (λ (group : PreparedValue). group.position) o [])) (sym e) tt
        last (Some group) e = subst (λ (o : Option PreparedValue). IsCanonical (option_map_or (λ (group : PreparedValue). group.position) o [])) (sym e) (read.order.canonical (length groups - 1) group e)

-- what is known of a stream of a board and of what is kept of it
record Known (plan : PlanValue) (one : SavedStream) : Type 0 where
  sound : IsSaved plan one
  canonical : IsCanonical one.position

-- a row of a plan's table stands at its own key with its kept columns too
row_keyed : KeysAreKept → (plan : PlanValue) → IsPlan plan → (row : KeyValue × RowValue) → IsRowUnder plan row → IsKeyed plan (kept_row plan row)
row_keyed kept plan well row under = record {
  table = under.table;
  width = length-map (kept_columns_of plan row.0.table) (λ place. slice_index_or row.1 place None);
  key = kept plan row.0.table row.1 well under.table ∙ under.key;
}

rows_keyed : KeysAreKept → (plan : PlanValue) → IsPlan plan → (rows : ImageRows) → AllByRecursion (IsRowUnder plan) rows → AllByRecursion (IsKeyed plan) (map (kept_row plan) rows)
rows_keyed kept plan well [] h = tt
rows_keyed kept plan well (row ∷ rows) h = (row_keyed kept plan well row h.0, rows_keyed kept plan well rows h.1)

-- the rows of a cut stand at their own keys
pub cut_keyed : KeysAreKept → (ties : Ties) (state : State) → IsSoundState state → AllByRecursion (IsKeyed state.plan) (cut_rows state)
cut_keyed kept ties state sound =
    all-filter (IsKeyed state.plan) (λ row. is_inside state.marks row.0) (kept_rows state.plan state.list state.applied)
    (rows_keyed kept state.plan sound.plan (passed_rows state.list state.applied) (passed-under ties state.plan state.list state.applied sound.list))

module _ (keys_kept : KeysAreKept) (ties : Ties) (board : Meaning) (lawful : IsLawful board) (within : AreWithin board) where
  long : length (saved_of board) ≡ length (plans_of_board board)
  long = saved_long 0 board.streams board.rows ∙ sym (length-map board.streams (λ (state : State). state.plan))

  of_state : (s : ℕ) (state : State) → slice_get board.streams s ≡ Some state → Known state.plan (saved_stream s state board.rows)
  of_state s state here =
      let sound : IsSoundState state = lawful.sound s state here in
      let keyed : AllByRecursion (IsKeyed state.plan) (own_rows s board.rows) = subst (AllByRecursion (IsKeyed state.plan)) (sym (own-is_cut ties board lawful s state here)) (cut_keyed keys_kept ties state sound) in
      record {
        sound = record { tables = sound.tables; marks = sound.marks; upto = sound.upto; rising = own-rising s board.rows lawful.rising; keyed = keyed };
        canonical = position_is state sound;
      }

  planned_at : (s : ℕ) (state : State) (plan : PlanValue) → slice_get board.streams s ≡ Some state → slice_get (plans_of_board board) s ≡ Some plan → state.plan ≡ plan
  planned_at s state plan here p =
      same_Some state.plan plan (sym (slice_get-map (λ (state : State). state.plan) board.streams s ∙ ap (option_map (λ (state : State). state.plan)) here) ∙ p)

  known_at : (s : ℕ) (plan : PlanValue) (one : SavedStream) → slice_get (plans_of_board board) s ≡ Some plan → slice_get (saved_of board) s ≡ Some one → Known plan one
  known_at s plan one p q =
      let there : (state : State) × (slice_get board.streams s ≡ Some state) = at_same_place (plans_of_board board) board.streams s plan (length-map board.streams (λ (state : State). state.plan)) p in
      let none_more : 0 + s ≡ s = omega arith in
      let kept : saved_stream s there.0 board.rows ≡ one
      = ap (λ n. saved_stream n there.0 board.rows) (sym none_more) ∙ same_Some (saved_stream (0 + s) there.0 board.rows) one (sym (saved_at 0 board.streams board.rows s there.0 there.1) ∙ q) in
      let planned : there.0.plan ≡ plan = planned_at s there.0 plan there.1 p in
      subst (λ (x : PlanValue). Known x one) planned (subst (Known there.0.plan) kept (of_state s there.0 there.1))

  -- each of its plans is well-formed, and each stream within the limits
  well_at : (s : ℕ) (plan : PlanValue) → slice_get (plans_of_board board) s ≡ Some plan → IsPlan plan
  well_at s plan p =
      let there : (state : State) × (slice_get board.streams s ≡ Some state) = at_same_place (plans_of_board board) board.streams s plan (length-map board.streams (λ (state : State). state.plan)) p in
      subst IsPlan (planned_at s there.0 plan there.1 p) (lawful.sound s there.0 there.1).plan

  within_at : (s : ℕ) (one : SavedStream) → slice_get (saved_of board) s ≡ Some one → IsStreamWithin one
  within_at s one q = all-at IsStreamWithin (saved_of board) s one within q

  sound_at : (version : Version) (s : ℕ) (plan : PlanValue) (one : SavedStream) → slice_get (plans_of_board board) s ≡ Some plan → slice_get (saved_of board) s ≡ Some one → IsSoundStream (stream_part version plan one)
  sound_at version s plan one p q = let known : Known plan one = known_at s plan one p q in sound_stream version plan (well_at s plan p) one (within_at s one q) known.sound.marks known.canonical

  -- all streams have as many tables
  one_count : (s t : ℕ) (x y : PlanValue) → slice_get (plans_of_board board) s ≡ Some x → slice_get (plans_of_board board) t ≡ Some y → length x.tables ≡ length y.tables
  one_count s t x y p q =
      let one : (state : State) × (slice_get board.streams s ≡ Some state) = at_same_place (plans_of_board board) board.streams s x (length-map board.streams (λ (state : State). state.plan)) p in
      let other : (state : State) × (slice_get board.streams t ≡ Some state) = at_same_place (plans_of_board board) board.streams t y (length-map board.streams (λ (state : State). state.plan)) q in
      ap (λ (plan : PlanValue). length plan.tables) (sym (planned_at s one.0 x one.1 p))
      ∙ ap (λ (tables : List TableValue). length tables) (lawful.tables s t one.0 other.0 one.1 other.1)
      ∙ ap (λ (plan : PlanValue). length plan.tables) (planned_at t other.0 y other.1 q)

  many_of_two : HaveAsMany Two (stream_parts Two (plans_of_board board) (saved_of board))
  many_of_two s t one other p q =
      let x : IsStreamPart Two (plans_of_board board) (saved_of board) s one = part_at Two (plans_of_board board) (saved_of board) s one p in
      let y : IsStreamPart Two (plans_of_board board) (saved_of board) t other = part_at Two (plans_of_board board) (saved_of board) t other q in
      ap (λ (part : StreamPartValue). length part.tables) (sym x.is)
      ∙ tables_long x.plan x.one
      ∙ one_count s t x.plan y.plan x.planned y.planned
      ∙ sym (tables_long y.plan y.one)
      ∙ ap (λ (part : StreamPartValue). length part.tables) y.is
    where
      tables_long : (plan : PlanValue) (one : SavedStream) → length (stream_part Two plan one).tables ≡ length plan.tables
      tables_long plan one = length-map (numbers_below (length plan.tables)) (table_part Two plan one) ∙ below_long (length plan.tables)

  as_many : (version : Version) → HaveAsMany version (stream_parts version (plans_of_board board) (saved_of board))
  as_many One = tt
  as_many Two = many_of_two

  -- under plans that begin with those of the board its checkpoint says what is kept of it
  module _ (reads : ReadsBack) (version : Version) (news : List PlanValue) (count : length news ≡ length (plans_of_board board))
      (front : (s : ℕ) (old new : PlanValue) → slice_get (plans_of_board board) s ≡ Some old → slice_get news s ≡ Some new → IsFront old new)
      (many : (s : ℕ) (old new : PlanValue) → slice_get (plans_of_board board) s ≡ Some old → slice_get news s ≡ Some new → AreSoMany version new (length old.tables)) where
    says_at : (s : ℕ) (plan : PlanValue) (one : SavedStream) (part : StreamPartValue) → slice_get news s ≡ Some plan → slice_get (under_plans news (saved_of board)) s ≡ Some one
        → slice_get (stream_parts version (plans_of_board board) (saved_of board)) s ≡ Some part → SaysStream version plan one part
    says_at s plan one part p q r =
        let of : IsStreamPart version (plans_of_board board) (saved_of board) s part = part_at version (plans_of_board board) (saved_of board) s part r in
        let under : IsUnder news (saved_of board) s one = under_at news (saved_of board) s one q in
        let known : Known of.plan of.one = known_at s of.plan of.one of.planned of.kept in
        let says : SaysStream version plan (under_plan plan of.one) (stream_part version of.plan of.one)
        = says_stream reads version of.plan plan (front s of.plan plan of.planned p) (many s of.plan plan of.planned p) of.one known.sound (within_at s of.one of.kept) known.canonical in
        let same_plan : under.plan ≡ plan = same_Some under.plan plan (sym under.planned ∙ p) in
        let same_kept : under.old ≡ of.one = same_Some under.old of.one (sym under.kept ∙ of.kept) in
        let is : under_plan plan of.one ≡ one = ap (under_plan plan) (sym same_kept) ∙ ap (λ (x : PlanValue). under_plan x under.old) (sym same_plan) ∙ under.is in
        subst (SaysStream version plan one) of.is (subst (λ (x : SavedStream). SaysStream version plan x (stream_part version of.plan of.one)) is says)

    says_all : StreamPartsAreReadAgain → length (checkpoint_in version board) < 2 ^ 64 → IsCheckpoint news (checkpoint_in version board) (under_plans news (saved_of board))
    says_all parts_again short = record {
      version = version;
      parts = stream_parts version (plans_of_board board) (saved_of board);
      are = checkpoints_read_again parts_again version (stream_parts version (plans_of_board board) (saved_of board)) (all_sound version (plans_of_board board) (saved_of board) (sound_at version)) short;
      count = parts_long version (plans_of_board board) (saved_of board) long ∙ sym count;
      same_count = under_long news (saved_of board) (long ∙ sym count);
      as_many = as_many version;
      each_stream = says_at;
    }

-- all tables of a plan
all_tables : (version : Version) (plan : PlanValue) → IsPlan plan → AreSoMany version plan (length plan.tables)
all_tables One plan is = refl
all_tables Two plan is = (is.tables.count.0, omega arith)

pub saved_boards : KeysAreKept → Ties → StreamPartsAreReadAgain → ReadsBack → SavedBoardsAreSaid
saved_boards keys_kept ties parts_again reads version board lawful within short =
    subst (IsCheckpoint (plans_of_board board) (checkpoint_in version board))
    (under_own (plans_of_board board) (saved_of board) (long keys_kept ties board lawful within) (λ s plan one p q. (known_at keys_kept ties board lawful within s plan one p q).sound.tables))
    (says_all keys_kept ties board lawful within reads version (plans_of_board board) refl
    (λ s old new p q. subst (IsFront old) (same_Some old new (sym p ∙ q)) (front_itself old))
    (λ s old new p q. subst (λ (plan : PlanValue). AreSoMany version plan (length old.tables)) (same_Some old new (sym p ∙ q)) (all_tables version old (well_at keys_kept ties board lawful within s old p)))
    parts_again short)

-- the tables of a plan stand in front of those of one that extends it
front_extended : (old new : PlanValue) → IsExtended old new → IsFront old new
front_extended old new more = record {
  shard = more.shard;
  fewer = omega (arith, more.more);
  tables = λ t less. ap (λ (tables : List TableValue). slice_get tables t) (sym more.tables) ∙ get_in_front (length old.tables) new.tables t less;
}

pub saved_boards_of_more : KeysAreKept → Ties → StreamPartsAreReadAgain → ReadsBack → SavedBoardsAreSaidOfMore
saved_boards_of_more keys_kept ties parts_again reads board news lawful within short are =
    says_all keys_kept ties board lawful within reads Two news are.count
    (λ s old new p q. front_extended old new (are.each_plan s old new p q))
    (λ s old new p q. let more : IsExtended old new = are.each_plan s old new p q in ((well_at keys_kept ties board lawful within s old p).tables.count.0, omega (arith, more.more)))
    parts_again short
