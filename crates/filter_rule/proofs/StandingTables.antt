-- What stands in a file whose tables are refused, or whose counts are.
use Rattle.std.proofs.Common.{◌≡◌, inl, inr, ℕ, suc, List, [], ◌∷◌, length, Bool, true, false, cond, ◌&&◌, Option, Some, None, Ok, Err, refl, subst, arith}
use Rattle.std.specs.Prelude.{slice_get, not, nat_le}
use Rattle.std.specs.List.{list_all}
use Rattle.std.proofs.lemmas.Bool.Decides.{nat_tests}
use Rattle.std.proofs.lemmas.Bool.{not-true}
use Rattle.list_laws.proofs.Truths.{not_both}
use Rattle.vindex.specs.declared.vindexes.Vindex.{Vindex}
use Rattle.filter_rule.specs.Document.{TableSaid, DocumentSaid}
use Rattle.list_laws.specs.Outcome.{each}
use Rattle.filter_rule.specs.Faults.{Fault, json, shape, limit, no_such_column, key_type, bad_rule, columns_differ}
use Rattle.filter_rule.specs.Limits.{is_up_to, is_table_within, is_within, known_vindexes, within_limits}
use Rattle.filter_rule.specs.Resolving.{is_key_type, is_vindex_type, place_in, type_in, unfit_key, refuse_type, vindex_place, vindex_type, own_vindex_type, resolved}
use Rattle.filter_rule.specs.Standing.{HasTable, LacksColumn, by_key, by_vindex, HasUnfitColumn, in_key, under_vindex, HasBadRule, KeepDifferent, IsOutside, IsPastLimit, streams_past, tables_past, columns_past, key_past, vindexes_past}
use Rattle.filter_rule.proofs.RefusedSteps.{same_fault, then_err, each_refused, each_gives, absent, unfit_column, found}
use Rattle.filter_rule.proofs.StepLaws.{then_ok, read_as}

-- what stands in a document, by the fault
abbrev pub StandsIn : DocumentSaid → Fault → Type 0
StandsIn document json = ⊥
StandsIn document shape = ⊥
StandsIn document limit = IsPastLimit document
StandsIn document (no_such_column table column) = LacksColumn document table column
StandsIn document (key_type table column) = HasUnfitColumn document table column
StandsIn document (bad_rule stream rule) = HasBadRule document stream rule
StandsIn document (columns_differ table) = KeepDifferent document table

-- ---- counts

outside_at : (most n : ℕ) (low high : Bool) → nat_le 1 n ≡ low → nat_le n most ≡ high → (low && high) ≡ false → IsOutside most n
outside_at most n true true a b h = cc
outside_at most n true false a b h = inr (grind (arith, nat_tests))
outside_at most n false high a b h = inl (grind (arith, nat_tests))

outside : (most n : ℕ) → is_up_to most n ≡ false → IsOutside most n
outside most n h = outside_at most n (nat_le 1 n) (nat_le n most) refl refl h

-- a table that is past its limits
bad_table : (document : DocumentSaid) (ts : List TableSaid) → ((i : ℕ) (t : TableSaid) → slice_get ts i ≡ Some t → HasTable document t) → list_all is_table_within ts ≡ false → IsPastLimit document
bad_table document [] there h = cc
bad_table document (t ∷ ts) there h =
    not_both (is_table_within t) (list_all is_table_within ts) h
    (λ here. not_both (is_up_to 256 (length t.columns)) (is_up_to 8 (length t.key)) here
    (λ few. columns_past t (there 0 t refl) (outside 256 (length t.columns) few))
    (λ few. key_past t (there 0 t refl) (outside 8 (length t.key) few)))
    (λ rest. bad_table document ts (λ i u is. there (suc i) u is) rest)

past_limit : (document : DocumentSaid) → is_within document ≡ false → IsPastLimit document
past_limit document h =
    not_both (is_up_to 64 (length document.streams) && is_up_to 64 (length document.tables)) (list_all is_table_within document.tables) h
    (λ counts. not_both (is_up_to 64 (length document.streams)) (is_up_to 64 (length document.tables)) counts
    (λ few. streams_past (outside 64 (length document.streams) few))
    (λ few. tables_past (outside 64 (length document.tables) few)))
    (λ bad. bad_table document document.tables (λ i t is. (i, is)) bad)

limit_at : (document : DocumentSaid) (b : Bool) (e : Fault) → is_within document ≡ b → cond b (read_as document) (Err limit) ≡ Err e → StandsIn document e
limit_at document true e is h = cc
limit_at document false e is h = subst (StandsIn document) (same_fault {B = DocumentSaid} limit e h) (past_limit document is)

known_at : (document : DocumentSaid) (b : Bool) (e : Fault) → document.uses_no_other ≡ b → cond b (read_as document) (Err limit) ≡ Err e → StandsIn document e
known_at document true e is h = cc
known_at document false e is h = subst (StandsIn document) (same_fault {B = DocumentSaid} limit e h) (vindexes_past is)

pub known_stand : (document : DocumentSaid) (e : Fault) → known_vindexes document ≡ Err e → StandsIn document e
known_stand document e h = known_at document document.uses_no_other e refl h

pub limits_stand : (document : DocumentSaid) (e : Fault) → within_limits document ≡ Err e → StandsIn document e
limits_stand document e h = limit_at document (is_within document) e refl h

-- ---- the vindex

vindex_absent : (document : DocumentSaid) (said : TableSaid) (v : Option (List ℕ × Vindex)) (e : Fault) → HasTable document said → said.vindex ≡ v → vindex_place said.name said.columns v ≡ Err e → StandsIn document e
vindex_absent document said None e there is h = cc
vindex_absent document said (Some v) e there is h =
    then_err _ (place_in said.name said.columns v.0) e h
    (λ none. let a = absent said.name said.columns v.0 e none in subst (StandsIn document) a.0 (by_vindex said v there refl is refl a.1))
    (λ place place_is h2. cc)

pub refused_type : {A : Type 0} (b : Bool) (x : A) (fault e : Fault) → cond b (read_as x) (Err fault) ≡ Err e → (b ≡ false) × (fault ≡ e)
refused_type true x fault e h = cc
refused_type {A} false x fault e h = (refl, same_fault {B = A} fault e h)

vindex_unfit : (document : DocumentSaid) (said : TableSaid) (v : Option (List ℕ × Vindex)) (vindex : Option (ℕ × Vindex)) (e : Fault) → HasTable document said → said.vindex ≡ v
    → vindex_place said.name said.columns v ≡ Ok vindex → own_vindex_type said.name said.columns v ≡ Err e → StandsIn document e
vindex_unfit document said None vindex e there is place_is h = cc
vindex_unfit document said (Some v) vindex e there is place_is h =
    then_ok _ (place_in said.name said.columns v.0) vindex place_is (λ place found_is h2.
    then_err _ (vindex_type said.name said.columns v.0 v.1) e h
    (λ unfit.
    let r = refused_type (is_vindex_type v.1 (type_in said.columns v.0)) v.0 (key_type said.name v.0) e unfit in
    subst (StandsIn document) r.1 (under_vindex said v there refl is refl (unfit_column (is_vindex_type v.1) said.name said.columns v.0 place found_is r.0)))
    (λ x x_is h3. cc))

-- ---- the key

key_unfit : (document : DocumentSaid) (said : TableSaid) (places : List ℕ) (o : Option (List ℕ)) (e : Fault) → HasTable document said → each (place_in said.name said.columns) said.key ≡ Ok places
    → unfit_key said.columns said.key ≡ o → refuse_type said.name o ≡ Err e → StandsIn document e
key_unfit document said places None e there is unfit h = cc
key_unfit document said places (Some name) e there is unfit h =
    let r = found (λ n. not (is_key_type (type_in said.columns n))) said.key name unfit in
    let place = each_gives (place_in said.name said.columns) said.key places r.place name is r.stands in
    subst (StandsIn document) (same_fault {B = Option (List ℕ)} (key_type said.name name) e h)
    (in_key said there refl (r.place, r.stands) (unfit_column is_key_type said.name said.columns name place.0 place.1 (not-true (is_key_type (type_in said.columns name)) r.passes)))

pub table_stands : (document : DocumentSaid) (said : TableSaid) (e : Fault) → HasTable document said → resolved said ≡ Err e → StandsIn document e
unfolding resolved
table_stands document said e there h =
    then_err _ (each (place_in said.name said.columns) said.key) e h
    (λ none.
    let r = each_refused (place_in said.name said.columns) said.key e none in
    let a = absent said.name said.columns r.item e r.gives in
    subst (StandsIn document) a.0 (by_key said there refl (r.place, r.stands) a.1))
    (λ key key_is h2. then_err _ (vindex_place said.name said.columns said.vindex) e h2
    (λ none. vindex_absent document said said.vindex e there refl none)
    (λ vindex vindex_is h3. then_err _ (refuse_type said.name (unfit_key said.columns said.key)) e h3
    (λ unfit. key_unfit document said key (unfit_key said.columns said.key) e there key_is refl unfit)
    (λ a a_is h4. then_err _ (own_vindex_type said.name said.columns said.vindex) e h4
    (λ unfit. vindex_unfit document said said.vindex vindex e there refl vindex_is unfit)
    (λ b b_is h5. cc))))

pub tables_stand : (document : DocumentSaid) (e : Fault) → each resolved document.tables ≡ Err e → StandsIn document e
tables_stand document e h =
    let r = each_refused resolved document.tables e h in
    table_stands document r.item e (r.place, r.stands) r.gives
