-- The columns that all streams keep, and the tables that keep them.
use Rattle.std.proofs.Common.{◌≡◌, ℕ, zero, suc, ◌+◌, List, [], ◌∷◌, length, map, Bool, true, false, cond, Option, Some, None, Ok, Err, refl, sym, ap, subst, ◌∙◌, arith}
use Rattle.std.specs.Prelude.{slice_get, slice_index_or, option_and_then}
use Rattle.std.specs.List.{list_all}
use Rattle.std.specs.Option.{option_or, option_map_or}
use Rattle.std.specs.Str.{bytes_eq, is_utf8}
use Rattle.std.proofs.lemmas.Slice.Eq.{bytes_eq-Decides}
use Rattle.std.proofs.lemmas.Option.{same_Some}
use Rattle.list_laws.proofs.Truths.{not_both}
use Rattle.filter_rule.specs.Faults.{Fault, columns_differ}
use Rattle.filter_rule.specs.PlanTable.{TableValue, keeping}
use Rattle.filter_rule.specs.PlanValue.{kept_under_rule}
use Rattle.filter_rule.specs.Reading.{Decided, kept_in, first_kept, keeps_these, agreed, closed_from, plan_over}
use Rattle.filter_rule.specs.WellFormed.{AreDistinct, AreKept, IsTable, AreTables, FitsTable, IsPlan}
use Rattle.filter_rule.specs.declared.decision.Decision.{Decision}
use Rattle.filter_rule.specs.declared.decision.Decision.TheVariants.{NoRule, EveryRow, InRange}
use Rattle.filter_rule.proofs.RefusedSteps.{same_fault, then_err}
use Rattle.filter_rule.proofs.ShapeLaws.{FitsColumns, Decided as AreDecided, decided_length, decided_fit}
use Rattle.filter_rule.proofs.StepLaws.{then_ok, read_as, same_ok, list_all_get}

-- ---- the first stream with a rule for a table

pub record KeptBy (t : ℕ) (streams : List Decided) (kept : List ℕ) : Type 0 where
  pub place : ℕ
  pub stream : Decided
  pub stands : slice_get streams place ≡ Some stream
  pub keeps : kept_in t stream ≡ Some kept

found_first : (t : ℕ) (s : Decided) (ss : List Decided) (o : Option (List ℕ)) (kept : List ℕ) → kept_in t s ≡ o → option_or o (first_kept t ss) ≡ Some kept → (first_kept t ss ≡ Some kept → KeptBy t ss kept) → KeptBy t (s ∷ ss) kept
found_first t s ss None kept is h more = let there = more h in record { place = suc there.place; stream = there.stream; stands = there.stands; keeps = there.keeps }
found_first t s ss (Some one) kept is h more = record { place = 0; stream = s; stands = refl; keeps = is ∙ h }

pub first_found : (t : ℕ) (streams : List Decided) (kept : List ℕ) → first_kept t streams ≡ Some kept → KeptBy t streams kept
first_found t [] kept h = cc
first_found t (s ∷ ss) kept h = found_first t s ss (kept_in t s) kept refl h (first_found t ss kept)

neither : {A : Type 0} (o p : Option A) → option_or o p ≡ None → (o ≡ None) × (p ≡ None)
neither None p h = (refl, h)
neither (Some x) p h = cc

none_keeps : (t : ℕ) (streams : List Decided) → first_kept t streams ≡ None → (i : ℕ) (stream : Decided) → slice_get streams i ≡ Some stream → kept_in t stream ≡ None
none_keeps t [] h i stream is = cc
none_keeps t (s ∷ ss) h zero stream is = subst (λ x. kept_in t x ≡ None) (same_Some s stream is) (neither (kept_in t s) (first_kept t ss) h).0
none_keeps t (s ∷ ss) h (suc i) stream is = none_keeps t ss (neither (kept_in t s) (first_kept t ss) h).1 i stream is

-- ---- what streams agree on

-- no stream has a rule for the table, or all that have one keep the same
pub data Agreement (streams : List Decided) (t : ℕ) (table : TableValue) (kept : List ℕ) : Type 0 where
  by_none : first_kept t streams ≡ None → kept ≡ table.kept → Agreement streams t table kept
  by_all : KeptBy t streams kept → ((i : ℕ) (stream : Decided) (other : List ℕ) → slice_get streams i ≡ Some stream → kept_in t stream ≡ Some other → other ≡ kept) → Agreement streams t table kept

these : (o : Option (List ℕ)) (kept other : List ℕ) → option_map_or (λ others. bytes_eq others kept) o true ≡ true → o ≡ Some other → other ≡ kept
these None kept other h is = cc
these (Some one) kept other h is = sym (same_Some one other is) ∙ (bytes_eq-Decides one kept).0 h

if_all : (b : Bool) (kept found : List ℕ) (name : List ℕ) → cond b (read_as kept) (Err (columns_differ name)) ≡ Ok found → (b ≡ true) × (kept ≡ found)
if_all true kept found name h = (refl, same_ok kept found h)
if_all false kept found name h = cc

if_not : (b : Bool) (kept name : List ℕ) (e : Fault) → cond b (read_as kept) (Err (columns_differ name)) ≡ Err e → (b ≡ false) × (columns_differ name ≡ e)
if_not true kept name e h = cc
if_not false kept name e h = (refl, same_fault {B = List ℕ} (columns_differ name) e h)

agreement : (streams : List Decided) (t : ℕ) (table : TableValue) (o : Option (List ℕ)) (kept : List ℕ) → first_kept t streams ≡ o → agreed streams t table o ≡ Ok kept → Agreement streams t table kept
agreement streams t table None kept is h = by_none is (sym (same_ok table.kept kept h))
agreement streams t table (Some first) kept is h =
    let parts = if_all (list_all (keeps_these t first) streams) first kept table.name h in
    by_all (first_found t streams kept (is ∙ ap Some parts.1)) (λ i stream other there keeps.
    these (kept_in t stream) first other (list_all_get (keeps_these t first) streams i stream parts.0 there) keeps ∙ parts.1)

-- ---- each table

-- the table that was closed
pub record ClosedAt (streams : List Decided) (tables : List TableValue) (t i : ℕ) (closed : TableValue) : Type 0 where
  pub table : TableValue
  pub stands : slice_get tables i ≡ Some table
  pub kept : List ℕ
  pub agrees : Agreement streams (t + i) table kept
  pub is : keeping table kept ≡ closed

closed_step : (streams : List Decided) (t : ℕ) (table : TableValue) (tables : List TableValue) (kept : List ℕ) (rest : List TableValue) (i : ℕ) (closed : TableValue) → agreed streams t table (first_kept t streams) ≡ Ok kept
    → ((j : ℕ) (other : TableValue) → slice_get rest j ≡ Some other → ClosedAt streams tables (t + 1) j other) → slice_get (keeping table kept ∷ rest) i ≡ Some closed → ClosedAt streams (table ∷ tables) t i closed
closed_step streams t table tables kept rest zero closed agrees more is =
    let at : t ≡ t + 0 = omega arith in
    record { table = table; stands = refl; kept = kept; agrees = subst (λ n. Agreement streams n table kept) at (agreement streams t table (first_kept t streams) kept refl agrees); is = same_Some (keeping table kept) closed is }
closed_step streams t table tables kept rest (suc i) closed agrees more is =
    let there = more i closed is in
    let at : (t + 1) + i ≡ t + suc i = omega arith in
    record { table = there.table; stands = there.stands; kept = there.kept; agrees = subst (λ n. Agreement streams n there.table there.kept) at there.agrees; is = there.is }

pub closed_at : (streams : List Decided) (t : ℕ) (tables closed : List TableValue) → closed_from streams t tables ≡ Ok closed → (i : ℕ) (one : TableValue) → slice_get closed i ≡ Some one → ClosedAt streams tables t i one
unfolding closed_from
closed_at streams t [] closed h i one is = let none : slice_get [] i ≡ Some one = ap (λ xs. slice_get xs i) (same_ok [] closed h) ∙ is in cc
closed_at streams t (table ∷ tables) closed h i one is =
    then_ok _ (agreed streams t table (first_kept t streams)) closed h (λ kept kept_is h2. then_ok _ (closed_from streams (t + 1) tables) closed h2 (λ rest rest_is h3.
    closed_step streams t table tables kept rest i one kept_is (closed_at streams (t + 1) tables rest rest_is) (ap (λ xs. slice_get xs i) (same_ok (keeping table kept ∷ rest) closed h3) ∙ is)))

-- of each table streams agree
pub agreed_there : (streams : List Decided) (t : ℕ) (tables closed : List TableValue) (i : ℕ) (table : TableValue) → closed_from streams t tables ≡ Ok closed → slice_get tables i ≡ Some table → (kept : List ℕ) × Agreement streams (t + i) table kept
unfolding closed_from
agreed_there streams t [] closed i table h is = cc
agreed_there streams t (one ∷ tables) closed zero table h is =
    then_ok _ (agreed streams t one (first_kept t streams)) closed h (λ kept kept_is h2.
    let at : t ≡ t + 0 = omega arith in
    (kept, subst (λ n. Agreement streams n table kept) at (subst (λ x. Agreement streams t x kept) (same_Some one table is) (agreement streams t one (first_kept t streams) kept refl kept_is))))
agreed_there streams t (one ∷ tables) closed (suc i) table h is =
    then_ok _ (agreed streams t one (first_kept t streams)) closed h (λ kept kept_is h2. then_ok _ (closed_from streams (t + 1) tables) closed h2 (λ rest rest_is h3.
    let there = agreed_there streams (t + 1) tables rest i table rest_is is in
    let at : (t + 1) + i ≡ t + suc i = omega arith in
    (there.0, subst (λ n. Agreement streams n table there.0) at there.1)))

-- what doesn't look at the kept columns stays
pub closed_map : {B : Type 0} (f : TableValue → B) → ((table : TableValue) (kept : List ℕ) → f (keeping table kept) ≡ f table) → (streams : List Decided) (t : ℕ) (tables closed : List TableValue) → closed_from streams t tables ≡ Ok closed → map f closed ≡ map f tables
unfolding closed_from
closed_map f same streams t [] closed h = ap (map f) (sym (same_ok [] closed h))
closed_map f same streams t (table ∷ tables) closed h =
    then_ok _ (agreed streams t table (first_kept t streams)) closed h (λ kept kept_is h2. then_ok _ (closed_from streams (t + 1) tables) closed h2 (λ rest rest_is h3.
    ap (map f) (sym (same_ok (keeping table kept ∷ rest) closed h3)) ∙ ap (λ x. x ∷ map f rest) (same table kept) ∙ ap (λ xs. f table ∷ xs) (closed_map f same streams (t + 1) tables rest rest_is)))

pub closed_length : (streams : List Decided) (t : ℕ) (tables closed : List TableValue) → closed_from streams t tables ≡ Ok closed → length closed ≡ length tables
unfolding closed_from
closed_length streams t [] closed h = ap length (sym (same_ok [] closed h))
closed_length streams t (table ∷ tables) closed h =
    then_ok _ (agreed streams t table (first_kept t streams)) closed h (λ kept kept_is h2. then_ok _ (closed_from streams (t + 1) tables) closed h2 (λ rest rest_is h3.
    ap length (sym (same_ok (keeping table kept ∷ rest) closed h3)) ∙ ap suc (closed_length streams (t + 1) tables rest rest_is)))

-- ---- closed tables are tables

-- the decision that a stream made of a table
pub record DecisionAt (t : ℕ) (stream : Decided) (kept : List ℕ) : Type 0 where
  pub decision : Decision
  pub stands : slice_get stream.decisions t ≡ Some decision
  pub keeps : kept_under_rule decision ≡ Some kept

pub decision_at_kept : (t : ℕ) (stream : Decided) (o : Option Decision) (kept : List ℕ) → slice_get stream.decisions t ≡ o → option_and_then kept_under_rule o ≡ Some kept → DecisionAt t stream kept
decision_at_kept t stream None kept is h = cc
decision_at_kept t stream (Some d) kept is h = record { decision = d; stands = is; keeps = h }

fit_kept : (table : TableValue) (d : Decision) (kept : List ℕ) → FitsColumns table d → kept_under_rule d ≡ Some kept → AreKept table.columns table.key kept
fit_kept table NoRule kept fit h = cc
fit_kept table (EveryRow k) kept fit h = subst (AreKept table.columns table.key) (same_Some k kept h) fit
fit_kept table (InRange place vindex range k) kept fit h = subst (AreKept table.columns table.key) (same_Some k kept h) fit.1

abbrev pub AllFit : List TableValue → List Decided → Type 0
AllFit tables streams = (i : ℕ) (stream : Decided) → slice_get streams i ≡ Some stream → AreDecided tables stream.decisions

agreed_kept : (tables : List TableValue) (streams : List Decided) (t : ℕ) (table : TableValue) (kept : List ℕ) → AllFit tables streams → slice_get tables t ≡ Some table → IsTable table → Agreement streams t table kept → AreKept table.columns table.key kept
agreed_kept tables streams t table kept fit stands is (by_none none same) = subst (AreKept table.columns table.key) (sym same) is.kept_columns
agreed_kept tables streams t table kept fit stands is (by_all by all) =
    let d = decision_at_kept t by.stream (slice_get by.stream.decisions t) kept refl by.keeps in
    fit_kept table d.decision kept (decided_fit tables by.stream.decisions (fit by.place by.stream by.stands) t d.decision table d.stands stands) d.keeps

keeping_table : (table : TableValue) (kept : List ℕ) → IsTable table → AreKept table.columns table.key kept → IsTable (keeping table kept)
keeping_table table kept is are = record {
  name_text = is.name_text;
  column_count = is.column_count;
  each_column = is.each_column;
  column_names = is.column_names;
  key_count = is.key_count;
  key_places = is.key_places;
  key_columns = is.key_columns;
  vindex_column = is.vindex_column;
  kept_columns = are;
}

abbrev pub Closed : List Decided → List TableValue → List TableValue → Type 0
Closed streams tables closed = closed_from streams 0 tables ≡ Ok closed

pub closed_tables : (streams : List Decided) (tables closed : List TableValue) → Closed streams tables closed → AllFit tables streams → AreTables tables → AreTables closed
closed_tables streams tables closed h fit are =
    let count : length closed ≡ length tables = closed_length streams 0 tables closed h in
    record {
      count = (omega (arith, are.count.0), omega (arith, are.count.1));
      names = subst AreDistinct (sym (closed_map (λ (t : TableValue). t.name) (λ table kept. refl) streams 0 tables closed h)) are.names;
      each_table = λ i one is.
          let at = closed_at streams 0 tables closed h i one is in
          let table = are.each_table i at.table at.stands in
          let zero_at : 0 + i ≡ i = omega arith in
          subst IsTable at.is (keeping_table at.table at.kept table (agreed_kept tables streams i at.table at.kept fit at.stands table (subst (λ n. Agreement streams n at.table at.kept) zero_at at.agrees)));
    }

fits_kept : (table : TableValue) (kept : List ℕ) (d : Decision) → FitsColumns table d → ((k : List ℕ) → kept_under_rule d ≡ Some k → k ≡ kept) → FitsTable (keeping table kept) d
fits_kept table kept NoRule fit same = tt
fits_kept table kept (EveryRow k) fit same = same k refl
fits_kept table kept (InRange place vindex range k) fit same = (fit.0, same k refl)

pub same_kept : (streams : List Decided) (t : ℕ) (table : TableValue) (kept : List ℕ) → Agreement streams t table kept → (i : ℕ) (stream : Decided) (k : List ℕ) → slice_get streams i ≡ Some stream → kept_in t stream ≡ Some k → k ≡ kept
same_kept streams t table kept (by_none none same) i stream k there keeps = let no : kept_in t stream ≡ None = none_keeps t streams none i stream there in cc
same_kept streams t table kept (by_all by all) i stream k there keeps = all i stream k there keeps

pub closed_fits : (streams : List Decided) (tables closed : List TableValue) → Closed streams tables closed → AllFit tables streams → (i : ℕ) (stream : Decided) → slice_get streams i ≡ Some stream
    → (t : ℕ) (d : Decision) (one : TableValue) → slice_get stream.decisions t ≡ Some d → slice_get closed t ≡ Some one → FitsTable one d
closed_fits streams tables closed h fit i stream there t d one d_is one_is =
    let at = closed_at streams 0 tables closed h t one one_is in
    let zero_at : 0 + t ≡ t = omega arith in
    let agrees = subst (λ n. Agreement streams n at.table at.kept) zero_at at.agrees in
    subst (λ (x : TableValue). FitsTable x d) at.is
    (fits_kept at.table at.kept d (decided_fit tables stream.decisions (fit i stream there) t d at.table d_is at.stands)
    (λ k keeps. same_kept streams t at.table at.kept agrees i stream k there (ap (option_and_then kept_under_rule) d_is ∙ keeps)))

pub closed_plan : (keyspace : List ℕ) (streams : List Decided) (tables closed : List TableValue) → Closed streams tables closed → AllFit tables streams → AreTables tables → is_utf8 keyspace ≡ true → (i : ℕ) (stream : Decided) → slice_get streams i ≡ Some stream
    → is_utf8 stream.shard ≡ true → IsPlan (plan_over keyspace closed stream)
closed_plan keyspace streams tables closed h fit are key_text i stream there shard_text = record {
  keyspace_text = key_text;
  shard_text = shard_text;
  tables = closed_tables streams tables closed h fit are;
  decided = decided_length tables stream.decisions (fit i stream there) ∙ sym (closed_length streams 0 tables closed h);
  filters = closed_fits streams tables closed h fit i stream there;
}

-- ---- a table that no rule matches

pub index_there : {A : Type 0} (xs : List A) (i : ℕ) (x other : A) → slice_get xs i ≡ Some x → slice_index_or xs i other ≡ x
index_there [] i x other h = cc
index_there (y ∷ xs) zero x other h = same_Some y x h
index_there (y ∷ xs) (suc i) x other h = index_there xs i x other h

no_kept : (d : Decision) (kept : List ℕ) → d ≡ NoRule → kept_under_rule d ≡ Some kept → ⊥
no_kept d kept is h = let none : kept_under_rule d ≡ None = ap kept_under_rule is in cc

pub unmatched_kept : (streams : List Decided) (t : ℕ) (table : TableValue) (kept : List ℕ) → Agreement streams t table kept → ((i : ℕ) (stream : Decided) → slice_get streams i ≡ Some stream → slice_index_or stream.decisions t NoRule ≡ NoRule) → kept ≡ table.kept
unmatched_kept streams t table kept (by_none none same) no_rule = same
unmatched_kept streams t table kept (by_all by all) no_rule =
    let d = decision_at_kept t by.stream (slice_get by.stream.decisions t) kept refl by.keeps in
    let is : d.decision ≡ NoRule = sym (index_there by.stream.decisions t d.decision NoRule d.stands) ∙ no_rule by.place by.stream by.stands in
    absurd (no_kept d.decision kept is d.keeps)

-- ---- streams that keep different columns

-- a table of which streams keep different columns
pub record Differs (streams : List Decided) (tables : List TableValue) (t : ℕ) (e : Fault) : Type 0 where
  pub place : ℕ
  pub table : TableValue
  pub stands : slice_get tables place ≡ Some table
  pub one : List ℕ
  pub other : List ℕ
  pub first : KeptBy (t + place) streams one
  pub second : KeptBy (t + place) streams other
  pub apart : one ≡ other → ⊥
  pub is : columns_differ table.name ≡ e

not_these : (t : ℕ) (kept : List ℕ) (s : Decided) (ss : List Decided) (o : Option (List ℕ)) → kept_in t s ≡ o → option_map_or (λ others. bytes_eq others kept) o true ≡ false → (other : List ℕ) × (KeptBy t (s ∷ ss) other) × (kept ≡ other → ⊥)
not_these t kept s ss None is h = cc
not_these t kept s ss (Some other) is h = (other, record { place = 0; stream = s; stands = refl; keeps = is }, λ same. let yes : bytes_eq other kept ≡ true = (bytes_eq-Decides other kept).1 (sym same) in cc)

behind : (t : ℕ) (s : Decided) (ss : List Decided) (kept : List ℕ) → KeptBy t ss kept → KeptBy t (s ∷ ss) kept
behind t s ss kept by = record { place = suc by.place; stream = by.stream; stands = by.stands; keeps = by.keeps }

some_other : (t : ℕ) (kept : List ℕ) (streams : List Decided) → list_all (keeps_these t kept) streams ≡ false → (other : List ℕ) × (KeptBy t streams other) × (kept ≡ other → ⊥)
some_other t kept [] h = cc
some_other t kept (s ∷ ss) h =
    not_both (keeps_these t kept s) (list_all (keeps_these t kept) ss) h (λ here. not_these t kept s ss (kept_in t s) refl here)
    (λ later. let there = some_other t kept ss later in (there.0, behind t s ss there.0 there.1, there.2))

differ_at : (streams : List Decided) (t : ℕ) (table : TableValue) (tables : List TableValue) (o : Option (List ℕ)) (e : Fault) → first_kept t streams ≡ o → agreed streams t table o ≡ Err e → Differs streams (table ∷ tables) t e
differ_at streams t table tables None e is h = cc
differ_at streams t table tables (Some kept) e is h =
    let parts = if_not (list_all (keeps_these t kept) streams) kept table.name e h in
    let found = some_other t kept streams parts.0 in
    let at : t ≡ t + 0 = omega arith in
    record {
      place = 0;
      table = table;
      stands = refl;
      one = kept;
      other = found.0;
      first = subst (λ n. KeptBy n streams kept) at (first_found t streams kept is);
      second = subst (λ n. KeptBy n streams found.0) at found.1;
      apart = found.2;
      is = parts.1;
    }

later : (streams : List Decided) (table : TableValue) (tables : List TableValue) (t : ℕ) (e : Fault) → Differs streams tables (t + 1) e → Differs streams (table ∷ tables) t e
later streams table tables t e d =
    let at : (t + 1) + d.place ≡ t + suc d.place = omega arith in
    record {
      place = suc d.place;
      table = d.table;
      stands = d.stands;
      one = d.one;
      other = d.other;
      first = subst (λ n. KeptBy n streams d.one) at d.first;
      second = subst (λ n. KeptBy n streams d.other) at d.second;
      apart = d.apart;
      is = d.is;
    }

pub closed_refused : (streams : List Decided) (t : ℕ) (tables : List TableValue) (e : Fault) → closed_from streams t tables ≡ Err e → Differs streams tables t e
unfolding closed_from
closed_refused streams t [] e h = cc
closed_refused streams t (table ∷ tables) e h =
    then_err _ (agreed streams t table (first_kept t streams)) e h (λ bad. differ_at streams t table tables (first_kept t streams) e refl bad)
    (λ kept kept_is h2. then_err _ (closed_from streams (t + 1) tables) e h2 (λ bad. later streams table tables t e (closed_refused streams (t + 1) tables e bad)) (λ rest rest_is h3. cc))
