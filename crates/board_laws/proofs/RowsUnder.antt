-- The rows that a read list keeps are rows of the plan's tables, each at its own key.
use Rattle.std.proofs.Common.{◌≡◌, ℕ, suc, ◌<◌, Bool, true, false, cond, List, [], ◌∷◌, ◌++◌, length, take, Option, Some, None, Ok, slice_get, refl, sym, subst, ◌∙◌}
use Rattle.std.proofs.lemmas.Option.{same_Some, none-some}
use Rattle.std.specs.Prelude.{IfSome}
use Rattle.std.specs.List.{AllByRecursion, cons_option, filter_map}
use Rattle.std.specs.Option.{option_or, option_map, option_and_then}
use Rattle.filter_rule.specs.PlanValue.{PlanValue, columns_of, passes_of}
use Rattle.pk_copy.specs.KeyOf.{key_of}
use Rattle.pk_copy.specs.KeyOrder.{key_cmp}
use Rattle.pk_copy.specs.KeyValue.{KeyValue, AreParts}
use Rattle.pk_copy.specs.Lastpk.{IsTableKey, KeysOfRowsAreTableKeys}
use Rattle.target_tables.specs.Touches.{last_at}
use Rattle.source_feed.specs.History.{RowValue, touches_in, passing, passed_at}
use Rattle.source_feed.specs.Prepared.{IsTouchUnder}
use Rattle.source_feed.specs.Touches.{PutValue, TouchValue, PreparedValue}
use Rattle.board_laws.specs.KeptRows.{touched_keys, passed_rows}
use Rattle.board_laws.specs.Lawful.{IsReadList}
use Rattle.board_laws.proofs.History.{read-cut}
use Rattle.board_laws.proofs.Lookups.{Ties, is_key, same_key}

-- a row of one of the plan's tables, of the table's width, at its own key
pub record IsRowUnder (plan : PlanValue) (row : KeyValue × RowValue) : Type 0 where
  pub table : row.0.table < length plan.tables
  pub width : length row.1 ≡ length (columns_of plan row.0.table)
  pub key : key_of plan row.0.table row.1 ≡ Ok row.0
  pub parts : AreParts row.0.parts

-- a touch that puts a row puts such a one
abbrev PutsUnder : PlanValue → TouchValue → Type 0
PutsUnder plan touch = IfSome touch.1 (λ put. IsRowUnder plan (touch.0, put.row))

-- the key of such a row is one of its table
pub key-under : KeysOfRowsAreTableKeys → (plan : PlanValue) (row : KeyValue × RowValue) → IsRowUnder plan row → IsTableKey plan row.0
key-under of_rows plan row h = of_rows plan row.0.table row.1 row.0 h.table h.parts h.key

-- ---- touches

puts : (plan : PlanValue) (touch : TouchValue) → IsTouchUnder plan touch → PutsUnder plan touch
puts plan touch h = by touch.1 h.put
  where
    by : (o : Option PutValue) → IfSome o (λ put. (put.row ≡ h.row) × (passes_of plan touch.0.table h.row ≡ Ok put.passes)) → IfSome o (λ put. IsRowUnder plan (touch.0, put.row))
    by None e = tt
    by (Some put) e = subst (λ (row : RowValue). IsRowUnder plan (touch.0, row)) (sym e.0) (record { table = h.table; width = h.width; key = h.key; parts = h.parts })

all-puts : (plan : PlanValue) (touches : List TouchValue) (others : List TouchValue) → AllByRecursion (IsTouchUnder plan) touches → AllByRecursion (PutsUnder plan) others → AllByRecursion (PutsUnder plan) (touches ++ others)
all-puts plan [] others h rest = rest
all-puts plan (touch ∷ touches) others h rest = (puts plan touch h.0, all-puts plan touches others h.1 rest)

list-puts : (plan : PlanValue) (list : List PreparedValue) → ((i : ℕ) (group : PreparedValue) → slice_get list i ≡ Some group → AllByRecursion (IsTouchUnder plan) group.touches)
    → AllByRecursion (PutsUnder plan) (touches_in list)
list-puts plan [] h = tt
list-puts plan (group ∷ list) h = all-puts plan group.touches (touches_in list) (h 0 group refl) (list-puts plan list (λ i. h (suc i)))

read-puts : (plan : PlanValue) (list : List PreparedValue) → IsReadList plan list → AllByRecursion (PutsUnder plan) (touches_in list)
read-puts plan list read = list-puts plan list (λ i group here.
    subst (λ (p : PlanValue). AllByRecursion (IsTouchUnder p) group.touches) (read.planned i group here) (read.prepared i group here).touches)

-- ---- what stands at a key

last-under : (ties : Ties) (plan : PlanValue) (touches : List TouchValue) (key : KeyValue) (put : PutValue) → AllByRecursion (PutsUnder plan) touches → last_at key_cmp touches key ≡ Some (Some put)
    → IsRowUnder plan (key, put.row)
last-under ties plan [] key put all e = absurd (none-some (Some put) e)
last-under ties plan (touch ∷ later) key put all e = by (λ h. last-under ties plan later key put all.1 h) (last_at key_cmp later key) refl (is_key key touch.0) refl e
  where
    by : (last_at key_cmp later key ≡ Some (Some put) → IsRowUnder plan (key, put.row)) → (o : Option (Option PutValue)) → last_at key_cmp later key ≡ o → (b : Bool) → is_key key touch.0 ≡ b
        → option_or o (cond b (Some touch.1) None) ≡ Some (Some put) → IsRowUnder plan (key, put.row)
    by rest (Some x) there b same e = rest (there ∙ e)
    by rest None there true same e =
        let left : touch.1 ≡ Some put = same_Some touch.1 (Some put) e in
        subst (λ (k : KeyValue). IsRowUnder plan (k, put.row)) (sym (same_key ties key touch.0 same)) (subst (λ (o : Option PutValue). IfSome o (λ (p : PutValue). IsRowUnder plan (touch.0, p.row))) left all.0)
    by rest None there false same e = absurd (none-some (Some put) e)

module _ (ties : Ties) (plan : PlanValue) (history : List PreparedValue) (n : ℕ) (all : AllByRecursion (PutsUnder plan) (touches_in (take n history))) where
  row-under : (key : KeyValue) (row : RowValue) → passed_at history n key ≡ Some row → IsRowUnder plan (key, row)
  row-under key row e = by (last_at key_cmp (touches_in (take n history)) key) refl e
    where
      passed : (put : PutValue) → IsRowUnder plan (key, put.row) → (b : Bool) → cond b (Some put.row) None ≡ Some row → IsRowUnder plan (key, row)
      passed put under true e = subst (λ (r : RowValue). IsRowUnder plan (key, r)) (same_Some put.row row e) under
      passed put under false e = absurd (none-some row e)

      by : (o : Option (Option PutValue)) → last_at key_cmp (touches_in (take n history)) key ≡ o → option_and_then passing (option_and_then (λ put. put) o) ≡ Some row → IsRowUnder plan (key, row)
      by None there e = absurd (none-some row e)
      by (Some None) there e = absurd (none-some row e)
      by (Some (Some put)) there e = passed put (last-under ties plan (touches_in (take n history)) key put all there) put.passes e

  rows-under : (keys : List KeyValue) → AllByRecursion (IsRowUnder plan) (filter_map (λ (key : KeyValue). option_map (λ (row : RowValue). (key, row)) (passed_at history n key)) keys)
  rows-under [] = tt
  rows-under (key ∷ keys) = by (passed_at history n key) refl (rows-under keys)
    where
      by : (o : Option RowValue) → passed_at history n key ≡ o → AllByRecursion (IsRowUnder plan) (filter_map (λ (key : KeyValue). option_map (λ (row : RowValue). (key, row)) (passed_at history n key)) keys)
          → AllByRecursion (IsRowUnder plan) (cons_option (option_map (λ (row : RowValue). (key, row)) o) (filter_map (λ (key : KeyValue). option_map (λ (row : RowValue). (key, row)) (passed_at history n key)) keys))
      by None e rest = rest
      by (Some row) e rest = (row-under key row e, rest)

-- ---- the kept rows

pub passed-under : (ties : Ties) (plan : PlanValue) (list : List PreparedValue) (n : ℕ) → IsReadList plan list → AllByRecursion (IsRowUnder plan) (passed_rows list n)
passed-under ties plan list n read = rows-under ties plan list n (read-puts plan (take n list) (read-cut plan list n read)) (touched_keys (touches_in (take n list)))
