-- The tables of a workflow whose names are plain are tables that a feed can have.
use Rattle.std.proofs.Common.{◌≡◌, ℕ, suc, ◌+◌, ◌&&◌, not, Bool, true, false, cond, List, [], ◌∷◌, ◌++◌, length, map, take, drop, Option, Some, None, refl, sym, ap, subst, ◌∙◌, slice_get, position, arith}
use Rattle.std.proofs.lemmas.Bool.{not-false}
use Rattle.std.proofs.lemmas.Iterator.Adapters.{position_from-zero}
use Rattle.std.proofs.lemmas.List.{length-map, take-append-drop}
use Rattle.std.proofs.lemmas.List.Folds.{list_all-append}
use Rattle.std.proofs.lemmas.Slice.Eq.{bytes_eq-Decides}
use Rattle.std.specs.List.{AllByRecursion, list_all, position_from}
use Rattle.std.specs.Str.{bytes_eq}
use Rattle.row_view.specs.FieldValue.{FieldValue}
use Rattle.filter_rule.specs.PlanTable as plan_table
use Rattle.filter_rule.specs.PlanValue.{PlanValue}
use Rattle.filter_rule.specs.WellFormed as formed
use Rattle.log_feed.specs.Table.{field_of}
use Rattle.log_feed.specs.Words.{is_plain_byte, is_plain_name}
use Rattle.log_laws.specs.Source.{IsTable, IsSource, source_of}
use Rattle.source_feed.specs.SourceValue.{SourceValue, table_in_source, short_name, without_prefix}
use Rattle.vevent.specs.WrittenEvent.{IsColumn}
use Rattle.vrepl_transcribe.specs.Source.{first_unplain, feed_table_of, source_in, wanted_of}

both_left : (a b : Bool) → (a && b) ≡ true → a ≡ true
both_left true b h = refl
both_left false b h = h

both_right : (a b : Bool) → (a && b) ≡ true → b ≡ true
both_right true b h = h
both_right false b h = cc

-- ---- places

-- where a test of what things mean is passed first
place_over_from : {A B : Type 0} (p : B → Bool) (f : A → B) (i : ℕ) (xs : List A) → position_from p i (map f xs) ≡ position_from (λ x. p (f x)) i xs
place_over_from p f i [] = refl
place_over_from p f i (x ∷ xs) = ap (λ (rest : Option ℕ). cond (p (f x)) (Some i) rest) (place_over_from p f (i + 1) xs)

pub place_over : {A B : Type 0} (p : B → Bool) (f : A → B) (xs : List A) → position p (map f xs) ≡ position (λ x. p (f x)) xs
place_over p f xs = position_from-zero p (map f xs) ∙ place_over_from p f 0 xs ∙ sym (position_from-zero (λ x. p (f x)) xs)

-- ---- names

-- the front of a plain name is of such bytes
front_plain : (name : List ℕ) (n : ℕ) → list_all is_plain_byte name ≡ true → list_all is_plain_byte (take n name) ≡ true
front_plain name n h =
    both_left (list_all is_plain_byte (take n name)) (list_all is_plain_byte (drop n name))
    (sym (list_all-append is_plain_byte (take n name) (drop n name)) ∙ subst (λ xs. list_all is_plain_byte xs ≡ true) (sym (take-append-drop n name)) h)

-- a dot is none of them
no_dot : (front : List ℕ) → list_all is_plain_byte (front ++ 46 ∷ []) ≡ true → ⊥
no_dot front h =
    let dot : list_all is_plain_byte (46 ∷ []) ≡ true = both_right (list_all is_plain_byte front) (list_all is_plain_byte (46 ∷ [])) (sym (list_all-append is_plain_byte front (46 ∷ [])) ∙ h) in
    cc

-- so a plain name doesn't begin with a keyspace and a dot
no_prefix : (keyspace name : List ℕ) → list_all is_plain_byte name ≡ true → without_prefix (keyspace ++ 46 ∷ []) name ≡ name
no_prefix keyspace name h = by (bytes_eq (keyspace ++ 46 ∷ []) (take (length (keyspace ++ 46 ∷ [])) name)) refl
  where
    by : (b : Bool) → bytes_eq (keyspace ++ 46 ∷ []) (take (length (keyspace ++ 46 ∷ [])) name) ≡ b → cond b (drop (length (keyspace ++ 46 ∷ [])) name) name ≡ name
    by false e = refl
    by true e =
        absurd (no_dot keyspace (subst (λ xs. list_all is_plain_byte xs ≡ true) (sym ((bytes_eq-Decides (keyspace ++ 46 ∷ []) (take (length (keyspace ++ 46 ∷ [])) name)).0 e)) (front_plain name (length (keyspace ++ 46 ∷ [])) h)))

own_name : (source : SourceValue) (name : List ℕ) → is_plain_name name ≡ true → table_in_source source name ≡ name
unfolding is_plain_name
own_name source name h = by source.keyspace (both_right _ (list_all is_plain_byte name) h)
  where
    by : (keyspace : List ℕ) → list_all is_plain_byte name ≡ true → short_name keyspace name ≡ name
    by [] plain = refl
    by (b ∷ keyspace) plain = no_prefix (b ∷ keyspace) name plain

-- ---- tables

-- where no place passes a test, nothing does
none_passes : {A : Type 0} (p : A → Bool) (i : ℕ) (xs : List A) → position_from p i xs ≡ None → AllByRecursion (λ x. p x ≡ false) xs
none_passes p i [] h = tt
none_passes {A} p i (x ∷ xs) h = by (p x) refl (none_passes p (i + 1) xs) h
  where
    by : (b : Bool) → p x ≡ b → (position_from p (i + 1) xs ≡ None → AllByRecursion (λ (y : A). p y ≡ false) xs) → cond b (Some i) (position_from p (i + 1) xs) ≡ None → AllByRecursion (λ (y : A). p y ≡ false) (x ∷ xs)
    by true e others h = cc
    by false e others h = (e, others h)

columns_are : (columns : List FieldValue) → ((i : ℕ) (column : FieldValue) → slice_get columns i ≡ Some column → formed.IsColumnDef column) → AllByRecursion (λ w. IsColumn (field_of w)) (map wanted_of columns)
columns_are [] h = tt
columns_are (column ∷ columns) h = let is : formed.IsColumnDef column = h 0 column refl in (record { name = is.name_text; number = omega (arith, is.type_bits) }, columns_are columns (λ i. h (suc i)))

tables_are : (source : SourceValue) (tables : List plan_table.TableValue) → ((i : ℕ) (table : plan_table.TableValue) → slice_get tables i ≡ Some table → formed.IsTable table)
    → AllByRecursion (λ (table : plan_table.TableValue). not (is_plain_name table.name) ≡ false) tables → AllByRecursion (IsTable source) (map feed_table_of tables)
tables_are source [] are plain = tt
tables_are source (table ∷ tables) are plain =
    let is : formed.IsTable table = are 0 table refl in (
      record {
        name = is.name_text;
        own = own_name source table.name (not-false (is_plain_name table.name) plain.0);
        few = omega (arith, length-map table.columns wanted_of, is.column_count.1);
        columns = columns_are table.columns is.each_column;
      },
      tables_are source tables (λ i. are (suc i)) plain.1,
    )

-- the source of a plan without such a name is one that a feed can have
pub is_source : (plan : PlanValue) (schema : Option (List ℕ)) → formed.IsPlan plan → first_unplain plan.tables ≡ None → IsSource (source_in plan schema)
is_source plan schema is plain = record {
  keyspace = is.keyspace_text;
  shard = is.shard_text;
  tables = tables_are (source_of (source_in plan schema)) plan.tables is.tables.each_table (none_passes is_unplain 0 plan.tables (sym (position_from-zero is_unplain plan.tables) ∙ plain));
}
  where
    is_unplain : plan_table.TableValue → Bool
    is_unplain table = not (is_plain_name table.name)
