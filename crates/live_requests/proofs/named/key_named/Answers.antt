use Rattle.std.proofs.Common.{◌≡◌, ◌∙◌, ℕ, List, length, map, Option, Some, ap, subst, sym}
use Rattle.std.proofs.lemmas.List.{length-map}
use Rattle.std.proofs.lemmas.Simd.{map-map}
use Rattle.std.specs.Option.{option_map}
use Rattle.pk_copy.specs.KeyValue.{KeyValue}
use Rattle.pk_copy.specs.Lastpk.{key_of_lastpk}
use Rattle.row_view.specs.ColumnValue.{column_value}
use Rattle.live_requests.specs.Named.{IsKeyText}
use Rattle.live_requests.proofs.ValueLaws.{key-read, no-key}
use Rattle.live_requests.proofs.named.key_named.Goals as goal

-- the values that were found
known-values : {A : Type 0} (all_of : A → List (List ℕ)) (found : Option A) (values : A) (total : Option (List (List ℕ))) → option_map all_of found ≡ total → found ≡ Some values → total ≡ Some (all_of values)
known-values {A} all_of found values total read is = sym read ∙ ap (λ (o : Option A). option_map all_of o) is

-- they are as many as the key's columns
known-count : {V : Type 0} (items_of : V → List ℕ) (values : List V) (count : ℕ) (lent places : List ℕ) → count ≡ length values → count ≡ length lent → lent ≡ places → length (map items_of values) ≡ length places
known-count items_of values count lent places is same places_are = length-map values items_of ∙ sym is ∙ same ∙ ap (λ (l : List ℕ). length l) places_are

-- the row of them
row-of : {V C : Type 0} (items_of : V → List ℕ) (column_of : C → Option (List ℕ)) (values lent : List V) (columns lent_columns : List C) (row view : List (Option (List ℕ)))
    → view ≡ row → row ≡ map column_of lent_columns → lent_columns ≡ columns → map column_of columns ≡ map (λ value. Some (items_of value)) lent → lent ≡ values → view ≡ map Some (map items_of values)
row-of {V} {C} items_of column_of values lent columns lent_columns row view viewed made same columns_are lent_is =
    viewed
    ∙ made
    ∙ ap (λ (l : List C). map column_of l) same
    ∙ columns_are
    ∙ ap (λ (l : List V). map (λ value. Some (items_of value)) l) lent_is
    ∙ sym (map-map Some items_of values)

pub returns-in-Ok : goal.returns-in-Ok
returns-in-Ok c =
    let known = known-values (λ values. map (λ value. value.items) values.items) c.in_ok-values.field-0 c.in-Some.values _ c.in_ok-values.ensures c.in-Some.is in
    let count = known-count (λ value. value.items) c.in-Some.values.items c.len.result c.key_columns.result.now _ (c.len.ensures ∙ c.in-Some.values.ok.0) c.if-len-key_columns.false c.key_columns.ensures.places in
    let made = rw c.in-Some-2.is at c.in_ok-row.ensures.row in
    let row = row-of (λ value. value.items) column_value c.in-Some.values.items c.deref.result.now c.in_ok-columns.columns.items c.deref-2.result.now c.in-Some-2.row c.view.result c.view.ensures made c.deref-2.ensures.value c.in_ok-columns.ensures c.deref.ensures.value in
    subst (λ (key : KeyValue). IsKeyText c.args.plan.now c.args.t c.args.text.now key) (sym c.in_ok-from_view-in-Ok.ensures.key)
    (key-read c.args.plan.now c.args.t c.args.text.now c.in-Ok.key _ known count (ap (λ (l : List (Option (List ℕ))). key_of_lastpk c.args.plan.now c.args.t l) (sym row) ∙ sym c.in-Ok.ensures.value))

pub returns : goal.returns
returns c = λ key is.
    let known = known-values (λ values. map (λ value. value.items) values.items) c.in_ok-values.field-0 c.in-Some.values _ c.in_ok-values.ensures c.in-Some.is in
    let made = rw c.in-Some-2.is at c.in_ok-row.ensures.row in
    let row = row-of (λ value. value.items) column_value c.in-Some.values.items c.deref.result.now c.in_ok-columns.columns.items c.deref-2.result.now c.in-Some-2.row c.view.result c.view.ensures made c.deref-2.ensures.value c.in_ok-columns.ensures c.deref.ensures.value in
    no-key c.args.plan.now c.args.t c.args.text.now key _ c.in-Err.field-0 known (ap (λ (l : List (Option (List ℕ))). key_of_lastpk c.args.plan.now c.args.t l) (sym row) ∙ sym c.in-Err.ensures.value) is
