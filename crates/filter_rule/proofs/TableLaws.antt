-- The tables of an accepted document are well formed.
use Rattle.std.proofs.Common.{◌≡◌, ℕ, zero, suc, ◌+◌, ◌<◌, ◌≤◌, List, [], ◌∷◌, ◌++◌, length, get_or, map, codes, Bool, true, false, cond, ◌&&◌, ltb, Option, Some, None, Result, Ok, Err, refl, sym, ap, subst, ◌∙◌, arith}
use Rattle.std.specs.Prelude.{slice_get, position, find, not, IfSome}
use Rattle.std.specs.List.{list_all, position_or_len, range_with_len}
use Rattle.std.specs.Option.{option_map_or}
use Rattle.std.specs.Str.{bytes_eq, is_utf8}
use Rattle.std.proofs.lemmas.Bool.{and_parts, not-false}
use Rattle.std.proofs.lemmas.Bool.Decides.{nat_tests}
use Rattle.std.proofs.lemmas.List.Folds.{find_at}
use Rattle.std.proofs.lemmas.List.Quantifiers.{position-Some}
use Rattle.std.proofs.lemmas.Option.{slice_get_within, slice_get-get_or, same_Some}
use Rattle.std.proofs.lemmas.Slice.Eq.{bytes_eq-Decides}
use Rattle.serde_json.specs.Data.{Data}
use Rattle.vindex.specs.declared.vindexes.Vindex.{Vindex}
use Rattle.filter_rule.specs.Private.Accepted.{IsAccepted}
use Rattle.filter_rule.specs.Document.{StreamSaid, TableSaid, DocumentSaid, member_in, text_in, list_in, name_of, column_of, vindex_said, rule_of, stream_of, list_apart, table_of, distinct, document_of, uses_hash, uses_no_other}
use Rattle.list_laws.specs.Outcome.{each}
use Rattle.filter_rule.specs.Faults.{Fault, key_type, limit, no_such_column}
use Rattle.filter_rule.specs.Limits.{is_up_to, is_table_within, is_within}
use Rattle.row_view.specs.FieldValue.{FieldValue}
use Rattle.filter_rule.specs.PlanTable.{TableValue, keeping}
use Rattle.filter_rule.specs.Resolving.{all_places, is_key_type, is_vindex_type, place_in, type_in, unfit_key, refuse_type, vindex_place, vindex_type, own_vindex_type, resolved}
use Rattle.filter_rule.specs.WellFormed.{AreDistinct, AreUpTo, AreColumnPlaces, AreKept, type_at, HasColumn, IsColumnDef, IsTable, AreTables}
use Rattle.filter_rule.proofs.DistinctNames.{distinct_apart}
use Rattle.filter_rule.proofs.TextLaws.{text_in_is, name_text, column_def}
use Rattle.filter_rule.proofs.StepLaws.{then_ok, read_as, same_ok, some_from_ok, each_length, each_at, list_all_get, find_none}

-- ---- what the shape of a document says of names

abbrev pub HasDistinctNames : TableSaid → Type 0
HasDistinctNames table = AreDistinct (map (λ (c : FieldValue). c.name) table.columns) × AreDistinct table.key

-- what some value says
record IsSaid {A : Type 0} (reads : Data → Result A Fault) (said : A) : Type 0 where
  item : Data
  gives : reads item ≡ Ok said

-- a list under texts of which none stands twice
list_apart-Ok : {A : Type 0} (name : A → List ℕ) (reads : Data → Result A Fault) (key : List ℕ) (d : Data) (items : List A) → list_apart name reads key d ≡ Ok items → AreDistinct (map name items) × ((i : ℕ) (x : A) → slice_get items i ≡ Some x → IsSaid reads x)
unfolding list_apart
list_apart-Ok name reads key d items h =
    then_ok _ (list_in key d) items h (λ values values_is h1.
    then_ok _ (each reads values) items h1 (λ found found_is h2.
    then_ok _ (distinct (map name found)) items h2 (λ names names_is h3.
    subst (λ l. AreDistinct (map name l) × ((i : ℕ) (x : _) → slice_get l i ≡ Some x → IsSaid reads x)) (same_ok found items h3)
    (distinct_apart (map name found) names names_is, λ i x x_is. let from = each_at reads values found found_is i x x_is in record { item = from.item; gives = from.gives }))))

same_names : (names : List (List ℕ)) → map (λ n. n) names ≡ names
same_names [] = refl
same_names (n ∷ names) = ap (λ ns. n ∷ ns) (same_names names)

table_names : (hash : Bool) (d : Data) (t : TableSaid) → table_of hash d ≡ Ok t → HasDistinctNames t
unfolding table_of
table_names hash d t h =
    then_ok _ (member_in (codes "name") d) t h (λ a a_is h1.
    then_ok _ (name_of a) t h1 (λ name name_is h2.
    then_ok _ (vindex_said hash d) t h2 (λ vindex vindex_is h3.
    then_ok _ (list_apart (λ (c : FieldValue). c.name) column_of (codes "columns") d) t h3 (λ columns columns_is h4.
    then_ok _ (list_apart (λ (n : List ℕ). n) name_of (codes "key") d) t h4 (λ key key_is h5.
    subst HasDistinctNames (same_ok (record { name = name; columns = columns; key = key; vindex = vindex }) t h5) (
      (list_apart-Ok (λ (c : FieldValue). c.name) column_of (codes "columns") d columns columns_is).0,
      subst AreDistinct (same_names key) (list_apart-Ok (λ (n : List ℕ). n) name_of (codes "key") d key key_is).0,
    ))))))

-- a table's name and its columns' are texts, and its types have 32 bits
pub record HasTexts (table : TableSaid) : Type 0 where
  pub name_text : is_utf8 table.name ≡ true
  pub each_column : (i : ℕ) (column : FieldValue) → slice_get table.columns i ≡ Some column → IsColumnDef column

texts_of_table : (hash : Bool) (d : Data) (t : TableSaid) → table_of hash d ≡ Ok t → HasTexts t
unfolding table_of
texts_of_table hash d t h =
    then_ok _ (member_in (codes "name") d) t h (λ a a_is h1.
    then_ok _ (name_of a) t h1 (λ name name_is h2.
    then_ok _ (vindex_said hash d) t h2 (λ vindex vindex_is h3.
    then_ok _ (list_apart (λ (c : FieldValue). c.name) column_of (codes "columns") d) t h3 (λ columns columns_is h4.
    then_ok _ (list_apart (λ (n : List ℕ). n) name_of (codes "key") d) t h4 (λ key key_is h5.
    let said = (list_apart-Ok (λ (c : FieldValue). c.name) column_of (codes "columns") d columns columns_is).1 in
    subst HasTexts (same_ok (record { name = name; columns = columns; key = key; vindex = vindex }) t h5)
    (record {
      name_text = name_text a name name_is;
      each_column = λ i c c_is. let from = said i c c_is in column_def from.item c from.gives;
    }))))))

shard_text : (hash : Bool) (d : Data) (s : StreamSaid) → stream_of hash d ≡ Ok s → is_utf8 s.shard ≡ true
unfolding stream_of
shard_text hash d s h =
    then_ok _ (text_in (codes "shard") d) s h (λ shard shard_is h1.
    then_ok _ (member_in (codes "filter") d) s h1 (λ filter filter_is h2.
    then_ok _ (list_in (codes "rules") filter) s h2 (λ values values_is h3.
    then_ok _ (each (rule_of hash) values) s h3 (λ rules rules_is h4.
    subst (λ (x : StreamSaid). is_utf8 x.shard ≡ true) (same_ok (record { shard = shard; rules = rules }) s h4) (text_in_is (codes "shard") d shard shard_is)))))

-- the shards of streams are texts
abbrev pub HaveTexts : List StreamSaid → Type 0
HaveTexts streams = (i : ℕ) (s : StreamSaid) → slice_get streams i ≡ Some s → is_utf8 s.shard ≡ true

-- no name stands twice in a document where it mustn't, and names are texts
pub record HasNames (document : DocumentSaid) : Type 0 where
  pub columns : (i : ℕ) (t : TableSaid) → slice_get document.tables i ≡ Some t → HasDistinctNames t
  pub tables : AreDistinct (map (λ (t : TableSaid). t.name) document.tables)
  pub shards : AreDistinct (map (λ (s : StreamSaid). s.shard) document.streams)
  pub keyspace_text : is_utf8 document.keyspace ≡ true
  pub table_texts : (i : ℕ) (t : TableSaid) → slice_get document.tables i ≡ Some t → HasTexts t
  pub shard_texts : HaveTexts document.streams

pub document_names : (d : Data) (document : DocumentSaid) → document_of d ≡ Ok document → HasNames document
unfolding document_of
document_names d document h =
    then_ok _ (text_in (codes "keyspace") d) document h (λ keyspace keyspace_is h1.
    then_ok _ (list_apart (λ (t : TableSaid). t.name) (table_of (uses_hash d)) (codes "tables") d) document h1 (λ tables tables_is h2.
    then_ok _ (list_apart (λ (s : StreamSaid). s.shard) (stream_of (uses_hash d)) (codes "streams") d) document h2 (λ streams streams_is h3.
    let apart = list_apart-Ok (λ (t : TableSaid). t.name) (table_of (uses_hash d)) (codes "tables") d tables tables_is in
    let sharded = list_apart-Ok (λ (s : StreamSaid). s.shard) (stream_of (uses_hash d)) (codes "streams") d streams streams_is in
    subst HasNames (same_ok (record { keyspace = keyspace; tables = tables; streams = streams; uses_no_other = uses_no_other d }) document h3)
    (record {
      columns = λ i t t_is. let from = apart.1 i t t_is in table_names (uses_hash d) from.item t from.gives;
      tables = apart.0;
      shards = sharded.0;
      keyspace_text = text_in_is (codes "keyspace") d keyspace keyspace_is;
      table_texts = λ i t t_is. let from = apart.1 i t t_is in texts_of_table (uses_hash d) from.item t from.gives;
      shard_texts = λ i s s_is. let from = sharded.1 i s s_is in shard_text (uses_hash d) from.item s from.gives;
    }))))

-- ---- what its counts say

pub limits_kept : (b : Bool) (d e : DocumentSaid) → cond b (read_as d) (Err limit) ≡ Ok e → (b ≡ true) × (d ≡ e)
limits_kept true d e h = (refl, same_ok d e h)
limits_kept false d e h = cc

up_to : (most n : ℕ) → is_up_to most n ≡ true → (1 ≤ n) × (n ≤ most)
up_to most n h = (grind (arith, nat_tests), grind (arith, nat_tests))

-- an accepted document is one that some value says, within the limits
pub accepted_names : (document : DocumentSaid) → IsAccepted document → HasNames document
accepted_names document accepted =
    let kept = limits_kept (is_within accepted.said) accepted.said document accepted.within in
    subst HasNames kept.1 (document_names accepted.value accepted.said accepted.says)

pub accepted_within : (document : DocumentSaid) → IsAccepted document → is_within document ≡ true
accepted_within document accepted =
    let kept = limits_kept (is_within accepted.said) accepted.said document accepted.within in
    subst (λ d. is_within d ≡ true) kept.1 kept.0

pub few_streams : (d : DocumentSaid) → is_within d ≡ true → AreUpTo 64 d.streams
few_streams d h =
    let both = and_parts (is_up_to 64 (length d.streams) && is_up_to 64 (length d.tables)) (list_all is_table_within d.tables) h in
    up_to 64 (length d.streams) (and_parts (is_up_to 64 (length d.streams)) (is_up_to 64 (length d.tables)) both.0).0

pub few_tables : (d : DocumentSaid) → is_within d ≡ true → AreUpTo 64 d.tables
few_tables d h =
    let both = and_parts (is_up_to 64 (length d.streams) && is_up_to 64 (length d.tables)) (list_all is_table_within d.tables) h in
    up_to 64 (length d.tables) (and_parts (is_up_to 64 (length d.streams)) (is_up_to 64 (length d.tables)) both.0).1

pub table_counts : (d : DocumentSaid) (i : ℕ) (t : TableSaid) → is_within d ≡ true → slice_get d.tables i ≡ Some t → AreUpTo 256 t.columns × AreUpTo 8 t.key
table_counts d i t h is =
    let both = and_parts (is_up_to 64 (length d.streams) && is_up_to 64 (length d.tables)) (list_all is_table_within d.tables) h in
    let counts = and_parts (is_up_to 256 (length t.columns)) (is_up_to 8 (length t.key)) (list_all_get is_table_within d.tables i t both.1 is) in
    (up_to 256 (length t.columns) counts.0, up_to 8 (length t.key) counts.1)

-- ---- columns by name

abbrev pub is_named : List ℕ → FieldValue → Bool
is_named name column = bytes_eq column.name name

pub place_found : (table : List ℕ) (columns : List FieldValue) (name : List ℕ) (place : ℕ) → place_in table columns name ≡ Ok place → position (is_named name) columns ≡ Some place
place_found table columns name place h = some_from_ok (position (is_named name) columns) (no_such_column table name) place h

-- the column of a name, at its place
pub record NamedColumn (columns : List FieldValue) (name : List ℕ) (place : ℕ) : Type 0 where
  pub column : FieldValue
  pub stands : slice_get columns place ≡ Some column
  pub named : column.name ≡ name

pub column_found : (columns : List FieldValue) (name : List ℕ) (place : ℕ) → position (is_named name) columns ≡ Some place → NamedColumn columns name place
column_found columns name place is =
    let none : FieldValue = record { name = []; type_number = 0 } in
    let there = position-Some (is_named name) columns place none is in
    record {
      column = get_or columns place none;
      stands = slice_get-get_or columns place none there.0;
      named = (bytes_eq-Decides (get_or columns place none).name name).0 there.1;
    }

same_place : (b : Bool) (found place : ℕ) → cond b (Some found) None ≡ Some place → found ≡ place
same_place true found place h = cc
same_place false found place h = cc

pub type_in-is : (columns : List FieldValue) (name : List ℕ) (place : ℕ) → position (is_named name) columns ≡ Some place → type_in columns name ≡ type_at columns place
type_in-is columns name place is =
    let at : position_or_len (is_named name) columns ≡ place = same_place (ltb (position_or_len (is_named name) columns) (length columns)) (position_or_len (is_named name) columns) place is in
    let found : find (is_named name) columns ≡ slice_get columns place = find_at (is_named name) columns ∙ ap (slice_get columns) at in
    ap (λ o. option_map_or (λ (c : FieldValue). c.type_number) o 0) found

pub has_column : (fits : ℕ → Bool) (table : List ℕ) (columns : List FieldValue) (name : List ℕ) (place : ℕ) → place_in table columns name ≡ Ok place → fits (type_in columns name) ≡ true → HasColumn fits columns place
has_column fits table columns name place place_is fit =
    let is = place_found table columns name place place_is in
    let there = column_found columns name place is in
    record {
      within = slice_get_within columns place there.column there.stands;
      fit = subst (λ n. fits n ≡ true) (type_in-is columns name place is) fit;
    }

-- ---- all columns

pub range_get : (a n i x : ℕ) → slice_get (range_with_len a n) i ≡ Some x → (x ≡ a + i) × (i < n)
range_get a zero i x h = cc
range_get a (suc n) zero x h = let at : a ≡ a + 0 = omega arith in (sym (same_Some a x h) ∙ at, omega arith)
range_get a (suc n) (suc i) x h =
    let there = range_get (a + 1) n i x h in
    let at : (a + 1) + i ≡ a + suc i = omega arith in
    let below : i < n = there.1 in
    (there.0 ∙ at, omega arith)

pub range_there : (a n i : ℕ) → i < n → slice_get (range_with_len a n) i ≡ Some (a + i)
range_there a zero i h = absurd (omega arith)
range_there a (suc n) zero h = let at : a ≡ a + 0 = omega arith in ap Some at
range_there a (suc n) (suc i) h = let at : (a + 1) + i ≡ a + suc i = omega arith in range_there (a + 1) n i (omega arith) ∙ ap Some at

pub range_more : (a n : ℕ) → range_with_len a (suc n) ≡ range_with_len a n ++ (a + n) ∷ []
range_more a zero = let at : a ≡ a + 0 = omega arith in ap (λ x. x ∷ []) at
range_more a (suc n) = let at : (a + 1) + n ≡ a + suc n = omega arith in ap (λ r. a ∷ r) (range_more (a + 1) n ∙ ap (λ x. range_with_len (a + 1) n ++ x ∷ []) at)

pub range_grown : (n : ℕ) → range_with_len 0 (n + 1) ≡ range_with_len 0 n ++ n ∷ []
range_grown n = let next : n + 1 ≡ suc n = omega arith in let at : 0 + n ≡ n = omega arith in ap (range_with_len 0) next ∙ range_more 0 n ∙ ap (λ x. range_with_len 0 n ++ x ∷ []) at

pub kept_places : (columns : List FieldValue) (key : List ℕ) → AreColumnPlaces columns key → AreKept columns key (all_places columns)
kept_places columns key within = record {
  places = λ i place is.
      let at = range_get 0 (length columns) i place is in
      let same : place ≡ 0 + i = at.0 in
      let below : i < length columns = at.1 in
      omega arith;
  apart = λ i j x a b.
      let first : x ≡ 0 + i = (range_get 0 (length columns) i x a).0 in
      let second : x ≡ 0 + j = (range_get 0 (length columns) j x b).0 in
      omega arith;
  key_kept = λ i place is. let at : 0 + place ≡ place = omega arith in (place, range_there 0 (length columns) place (within i place is) ∙ ap Some at);
}

-- ---- the key

pub distinct_places : (table : List ℕ) (columns : List FieldValue) (names : List (List ℕ)) (places : List ℕ) → AreDistinct names → each (place_in table columns) names ≡ Ok places → AreDistinct places
distinct_places table columns names places apart is i j place a b =
    let first = each_at (place_in table columns) names places is i place a in
    let second = each_at (place_in table columns) names places is j place b in
    let here = column_found columns first.item place (place_found table columns first.item place first.gives) in
    let there = column_found columns second.item place (place_found table columns second.item place second.gives) in
    let same : here.column ≡ there.column = same_Some here.column there.column (sym here.stands ∙ there.stands) in
    let names_same : second.item ≡ first.item = sym there.named ∙ ap (λ (c : FieldValue). c.name) (sym same) ∙ here.named in
    apart i j first.item first.stands (second.stands ∙ ap Some names_same)

pub no_refusal : (table : List ℕ) (o a : Option (List ℕ)) → refuse_type table o ≡ Ok a → o ≡ None
no_refusal table None a h = refl
no_refusal table (Some name) a h = cc

key_fits : (table : List ℕ) (columns : List FieldValue) (names : List (List ℕ)) (places : List ℕ) (a : Option (List ℕ)) → each (place_in table columns) names ≡ Ok places → refuse_type table (unfit_key columns names) ≡ Ok a
    → (i place : ℕ) → slice_get places i ≡ Some place → HasColumn is_key_type columns place
key_fits table columns names places a is fit i place there =
    let from = each_at (place_in table columns) names places is i place there in
    let all = find_none (λ name. not (is_key_type (type_in columns name))) names i from.item (no_refusal table (unfit_key columns names) a fit) from.stands in
    has_column is_key_type table columns from.item place from.gives (not-false (is_key_type (type_in columns from.item)) all)

-- ---- the vindex

pub type_kept : (b : Bool) (table name x : List ℕ) → cond b (read_as name) (Err (key_type table name)) ≡ Ok x → b ≡ true
type_kept true table name x h = refl
type_kept false table name x h = cc

pub named_fits : (table : List ℕ) (columns : List FieldValue) (name : List ℕ) (vindex : Vindex) (place : ℕ) (x : List ℕ) → place_in table columns name ≡ Ok place → vindex_type table columns name vindex ≡ Ok x → HasColumn (is_vindex_type vindex) columns place
named_fits table columns name vindex place x place_is type_is =
    has_column (is_vindex_type vindex) table columns name place place_is (type_kept (is_vindex_type vindex (type_in columns name)) table name x type_is)

abbrev pub FitsVindex : List FieldValue → Option (ℕ × Vindex) → Type 0
FitsVindex columns vindex = IfSome vindex (λ v. HasColumn (is_vindex_type v.1) columns v.0)

vindex_fits : (table : List ℕ) (columns : List FieldValue) (said : Option (List ℕ × Vindex)) (vindex : Option (ℕ × Vindex)) (b : Option (List ℕ)) → vindex_place table columns said ≡ Ok vindex → own_vindex_type table columns said ≡ Ok b → FitsVindex columns vindex
vindex_fits table columns None vindex b h k = subst (FitsVindex columns) (same_ok None vindex h) tt
vindex_fits table columns (Some v) vindex b h k =
    then_ok _ (place_in table columns v.0) vindex h (λ place place_is e. then_ok _ (vindex_type table columns v.0 v.1) b k (λ x x_is f.
    subst (FitsVindex columns) (same_ok (Some (place, v.1)) vindex e) (named_fits table columns v.0 v.1 place x place_is x_is)))

-- ---- a table

table_made : (said : TableSaid) (key : List ℕ) (vindex : Option (ℕ × Vindex)) (a b : Option (List ℕ)) → HasDistinctNames said → HasTexts said → AreUpTo 256 said.columns → AreUpTo 8 said.key
    → each (place_in said.name said.columns) said.key ≡ Ok key → vindex_place said.name said.columns said.vindex ≡ Ok vindex
    → refuse_type said.name (unfit_key said.columns said.key) ≡ Ok a → own_vindex_type said.name said.columns said.vindex ≡ Ok b
    → IsTable (record { name = said.name; columns = said.columns; key = key; vindex = vindex; kept = all_places said.columns })
table_made said key vindex a b names texts columns_few key_few key_is vindex_is key_fit vindex_fit =
    let count : length key ≡ length said.key = each_length (place_in said.name said.columns) said.key key key_is in
    record {
      name_text = texts.name_text;
      column_count = columns_few;
      each_column = texts.each_column;
      column_names = names.0;
      key_count = (omega arith, omega arith);
      key_places = distinct_places said.name said.columns said.key key names.1 key_is;
      key_columns = key_fits said.name said.columns said.key key a key_is key_fit;
      vindex_column = vindex_fits said.name said.columns said.vindex vindex b vindex_is vindex_fit;
      kept_columns = kept_places said.columns key (λ i place is. (key_fits said.name said.columns said.key key a key_is key_fit i place is).within);
    }

pub record Resolved (said : TableSaid) (t : TableValue) : Type 0 where
  pub name : t.name ≡ said.name
  pub columns : t.columns ≡ said.columns
  pub whole : keeping t (all_places t.columns) ≡ t
  pub table : HasDistinctNames said → HasTexts said → AreUpTo 256 said.columns → AreUpTo 8 said.key → IsTable t

pub resolved_parts : (said : TableSaid) (t : TableValue) → resolved said ≡ Ok t → Resolved said t
unfolding resolved
resolved_parts said t h =
    then_ok _ (each (place_in said.name said.columns) said.key) t h (λ key key_is h2.
    then_ok _ (vindex_place said.name said.columns said.vindex) t h2 (λ vindex vindex_is h3.
    then_ok _ (refuse_type said.name (unfit_key said.columns said.key)) t h3 (λ a a_is h4.
    then_ok _ (own_vindex_type said.name said.columns said.vindex) t h4 (λ b b_is h5.
    subst (Resolved said) (same_ok (record { name = said.name; columns = said.columns; key = key; vindex = vindex; kept = all_places said.columns }) t h5)
    (record {
      name = refl;
      columns = refl;
      whole = refl;
      table = λ names texts columns_few key_few. table_made said key vindex a b names texts columns_few key_few key_is vindex_is a_is b_is;
    })))))

pub names_kept : (said : List TableSaid) (tables : List TableValue) → each resolved said ≡ Ok tables → map (λ (t : TableValue). t.name) tables ≡ map (λ (t : TableSaid). t.name) said
names_kept [] tables h = ap (map (λ (t : TableValue). t.name)) (sym (same_ok [] tables h))
names_kept (s ∷ said) tables h =
    then_ok _ (resolved s) tables h (λ t t_is h2. then_ok _ (each resolved said) tables h2 (λ ts ts_is h3.
    ap (map (λ (u : TableValue). u.name)) (sym (same_ok (t ∷ ts) tables h3))
    ∙ ap (λ name. name ∷ map (λ (u : TableValue). u.name) ts) (resolved_parts s t t_is).name
    ∙ ap (λ names. s.name ∷ names) (names_kept said ts ts_is)))

-- ---- all tables

pub tables_fit : (d : DocumentSaid) (tables : List TableValue) → HasNames d → is_within d ≡ true → each resolved d.tables ≡ Ok tables → AreTables tables
tables_fit d tables names within is =
    let count : length tables ≡ length d.tables = each_length resolved d.tables tables is in
    let few = few_tables d within in
    record {
      count = (omega arith, omega arith);
      names = subst AreDistinct (sym (names_kept d.tables tables is)) names.tables;
      each_table = λ i t t_is.
          let from = each_at resolved d.tables tables is i t t_is in
          let counts = table_counts d i from.item within from.stands in
          (resolved_parts from.item t from.gives).table (names.columns i from.item from.stands) (names.table_texts i from.item from.stands) counts.0 counts.1;
    }
