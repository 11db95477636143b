-- A value that is no document is refused for its shape alone.
use Rattle.std.proofs.Common.{◌≡◌, ℕ, List, [], ◌∷◌, Bool, true, false, cond, map, Option, Some, None, Result, Ok, Err, refl, sym, ap, ◌∙◌, codes}
use Rattle.serde_json.specs.Data.{Data}
use Rattle.serde_json.specs.Find.{get, as_str}
use Rattle.filter_rule.specs.Document.{found, member_in, text_of, list_of, text_in, list_in, two_of, pair_of, is_name, name_of, type_by, type_said, column_of, uses_hash, uses_no_other, vindex_named, vindex_of, vindex_if, vindex_said, filter_if, filter_in, rule_of, stream_of, has_twice, distinct, list_apart, table_of, document_of}
use Rattle.list_laws.specs.Outcome.{◌>>=◌, each}
use Rattle.filter_rule.specs.Faults.{Fault, shape}
use Rattle.filter_rule.proofs.RefusedSteps.{failed, same_fault}

abbrev pub ShapeOnly : {A : Type 0} → Result A Fault → Type 0
ShapeOnly r = (e : Fault) → r ≡ Err e → shape ≡ e

ok_only : {A : Type 0} (x : A) → ShapeOnly (Ok x)
ok_only x e h = cc

shape_only : {A : Type 0} (r : Result A Fault) → r ≡ Err shape → ShapeOnly r
shape_only {A} r is e h = same_fault {B = A} shape e (sym is ∙ h)

then_only : {A B : Type 0} (f : A → Result B Fault) (r : Result A Fault) → ShapeOnly r → ((x : A) → ShapeOnly (f x)) → ShapeOnly (r >>= f)
then_only f (Ok x) h k = k x
then_only {A} {B} f (Err e) h k = λ d is. h d (ap (failed {B = A}) (same_fault {B = B} e d is))

each_only : {A B : Type 0} (f : A → Result B Fault) (xs : List A) → ((x : A) → ShapeOnly (f x)) → ShapeOnly (each f xs)
each_only f [] k = ok_only []
each_only f (x ∷ xs) k = then_only _ (f x) (k x) (λ y. then_only _ (each f xs) (each_only f xs k) (λ ys. ok_only (y ∷ ys)))

if_only : {A : Type 0} (b : Bool) (r s : Result A Fault) → ShapeOnly r → ShapeOnly s → ShapeOnly (cond b r s)
if_only true r s h k = h
if_only false r s h k = k

found_only : {A : Type 0} (o : Option A) → ShapeOnly (found o)
found_only None = shape_only _ refl
found_only (Some x) = ok_only x

-- ---- the document

text_in_only : (key : List ℕ) (d : Data) → ShapeOnly (text_in key d)
unfolding text_in
text_in_only key d = then_only _ (member_in key d) (found_only (get key d)) (λ v. found_only _)

list_in_only : (key : List ℕ) (d : Data) → ShapeOnly (list_in key d)
unfolding list_in
list_in_only key d = then_only _ (member_in key d) (found_only (get key d)) (λ v. found_only _)

two_only : (ds : List Data) → ShapeOnly (two_of ds)
two_only [] = shape_only _ refl
two_only (a ∷ []) = shape_only _ refl
two_only (a ∷ b ∷ []) = ok_only (a, b)
two_only (a ∷ b ∷ c ∷ ds) = shape_only _ refl

pair_only : (d : Data) → ShapeOnly (pair_of d)
unfolding pair_of
pair_only d = then_only _ (list_of d) (found_only _) two_only

name_only : (d : Data) → ShapeOnly (name_of d)
unfolding name_of
name_only d = then_only _ (text_of d) (found_only _) (λ s. if_only (is_name s) (Ok s) (Err shape) (ok_only s) (shape_only _ refl))

type_by_only : (o : Option (List ℕ)) (d : Data) → ShapeOnly (type_by o d)
type_by_only None d = found_only _
type_by_only (Some s) d = found_only _

kind_only : (d : Data) → ShapeOnly (type_said d)
unfolding type_said
kind_only d = type_by_only (as_str d) d

column_of_only : (d : Data) → ShapeOnly (column_of d)
unfolding column_of
column_of_only d = then_only _ (pair_of d) (pair_only d) (λ p. then_only _ (name_of p.0) (name_only p.0) (λ name. then_only _ (type_said p.1) (kind_only p.1) (λ number. ok_only (record { name = name; type_number = number }))))

vindex_of_only : (hash : Bool) (d : Data) → ShapeOnly (vindex_of hash d)
unfolding vindex_of
vindex_of_only hash d = then_only _ (pair_of d) (pair_only d) (λ p. then_only _ (name_of p.0) (name_only p.0) (λ column. then_only _ (text_of p.1) (found_only _) (λ name. then_only _ (found (vindex_named hash name)) (found_only _) (λ vindex. ok_only (column, vindex)))))

vindex_if_only : (hash : Bool) (o : Option Data) → ShapeOnly (vindex_if hash o)
vindex_if_only hash None = ok_only None
vindex_if_only hash (Some d) = then_only _ (vindex_of hash d) (vindex_of_only hash d) (λ v. ok_only (Some v))

vindex_in_only : (hash : Bool) (d : Data) → ShapeOnly (vindex_said hash d)
unfolding vindex_said
vindex_in_only hash d = vindex_if_only hash (get (codes "vindex") d)

filter_if_only : (o : Option Data) → ShapeOnly (filter_if o)
filter_if_only None = ok_only []
filter_if_only (Some d) = found_only _

filter_in_only : (d : Data) → ShapeOnly (filter_in d)
unfolding filter_in
filter_in_only d = filter_if_only (get (codes "filter") d)

rule_of_only : (hash : Bool) (d : Data) → ShapeOnly (rule_of hash d)
unfolding rule_of
rule_of_only hash d = then_only _ (text_in (codes "match") d) (text_in_only (codes "match") d) (λ m. then_only _ (filter_in d) (filter_in_only d) (λ f. ok_only (record { matches = m; filter = f; uses_hash = hash })))

stream_of_only : (hash : Bool) (d : Data) → ShapeOnly (stream_of hash d)
unfolding stream_of
stream_of_only hash d = then_only _ (text_in (codes "shard") d) (text_in_only (codes "shard") d) (λ shard. then_only _ (member_in (codes "filter") d) (found_only _) (λ filter. then_only _ (list_in (codes "rules") filter) (list_in_only (codes "rules") filter) (λ values. then_only _ (each (rule_of hash) values) (each_only (rule_of hash) values (rule_of_only hash)) (λ rs. ok_only (record { shard = shard; rules = rs })))))

distinct_only : (ss : List (List ℕ)) → ShapeOnly (distinct ss)
distinct_only ss = if_only (has_twice ss) (Err shape) (Ok ss) (shape_only _ refl) (ok_only ss)

list_apart_only : {A : Type 0} (name : A → List ℕ) (reads : Data → Result A Fault) (key : List ℕ) (d : Data) → ((x : Data) → ShapeOnly (reads x)) → ShapeOnly (list_apart name reads key d)
unfolding list_apart
list_apart_only name reads key d k =
    then_only _ (list_in key d) (list_in_only key d) (λ values. then_only _ (each reads values) (each_only reads values k) (λ items. then_only _ (distinct (map name items)) (distinct_only (map name items)) (λ names. ok_only items)))

table_of_only : (hash : Bool) (d : Data) → ShapeOnly (table_of hash d)
unfolding table_of
table_of_only hash d = then_only _ (member_in (codes "name") d) (found_only _) (λ a. then_only _ (name_of a) (name_only a) (λ name. then_only _ (vindex_said hash d) (vindex_in_only hash d) (λ vindex.
    then_only _ (list_apart (λ c. c.name) column_of (codes "columns") d) (list_apart_only (λ c. c.name) column_of (codes "columns") d column_of_only) (λ columns.
    then_only _ (list_apart (λ n. n) name_of (codes "key") d) (list_apart_only (λ n. n) name_of (codes "key") d name_only) (λ key.
    ok_only (record { name = name; columns = columns; key = key; vindex = vindex }))))))

pub document_of_only : (d : Data) → ShapeOnly (document_of d)
unfolding document_of
document_of_only d = then_only _ (text_in (codes "keyspace") d) (text_in_only (codes "keyspace") d) (λ keyspace.
    then_only _ (list_apart (λ t. t.name) (table_of (uses_hash d)) (codes "tables") d) (list_apart_only (λ t. t.name) (table_of (uses_hash d)) (codes "tables") d (table_of_only (uses_hash d))) (λ tables.
    then_only _ (list_apart (λ s. s.shard) (stream_of (uses_hash d)) (codes "streams") d) (list_apart_only (λ s. s.shard) (stream_of (uses_hash d)) (codes "streams") d (stream_of_only (uses_hash d))) (λ streams.
    ok_only (record { keyspace = keyspace; tables = tables; streams = streams; uses_no_other = uses_no_other d }))))
