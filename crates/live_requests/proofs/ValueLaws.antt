-- The values of cells, one after another, and the key that they are.
use Rattle.std.proofs.Common.{◌≡◌, ◌∙◌, ℕ, ◌+◌, ◌<◌, List, [], ◌∷◌, ◌++◌, map, length, append_assoc, append-nil, refl, sym, ap, subst, arith, Option, Some, None, Result, Ok, Err}
use Rattle.std.specs.Borrow.{Bor}
use Rattle.std.specs.Prelude.{IfSome, IfNone}
use Rattle.std.specs.List.{slice_split}
use Rattle.std.specs.Option.{option_and_then, option_map}
use Rattle.std.proofs.lemmas.List.{map-append}
use Rattle.std.proofs.lemmas.Option.{none-some, same_Some}
use Rattle.filter_rule.specs.PlanValue.{PlanValue, key_columns_of}
use Rattle.pk_copy.specs.declared.fault.KeyFault.{KeyFault}
use Rattle.pk_copy.specs.KeyValue.{KeyValue}
use Rattle.pk_copy.specs.Lastpk.{key_of_lastpk}
use Rattle.live_requests.specs.Named.{IsKeyText, is_comma, value_of, values_in, values_of}

-- ---- cells that are left

abbrev pub cells_left : Option (Bor (List ℕ)) → List (List ℕ)
cells_left None = []
cells_left (Some text) = slice_split is_comma text.now

abbrev pub size_left : Option (Bor (List ℕ)) → ℕ
size_left None = 0
size_left (Some text) = length text.now + 1

-- values, and those behind them
abbrev pub behind : List (List ℕ) → Option (List (List ℕ)) → Option (List (List ℕ))
behind done more = option_map (λ values. done ++ values) more

pub begins : (more : Option (List (List ℕ))) → behind [] more ≡ more
begins None = refl
begins (Some values) = refl

pub parted : (text cell : List ℕ) (rest : Option (Bor (List ℕ))) → IfSome rest (λ r. slice_split is_comma text ≡ cell ∷ slice_split is_comma r.now) → IfNone rest (slice_split is_comma text ≡ cell ∷ [])
    → slice_split is_comma text ≡ cell ∷ cells_left rest
parted text cell None more last = last
parted text cell (Some r) more last = more

pub smaller : (left rest : Option (Bor (List ℕ))) (lent : Bor (List ℕ)) → left ≡ Some lent → IfSome rest (λ r. length r.now < length lent.now) → size_left rest < size_left left
smaller left None lent is less = subst (λ (o : Option (Bor (List ℕ))). 0 < size_left o) (sym is) (omega arith)
smaller left (Some r) lent is less = subst (λ (o : Option (Bor (List ℕ))). length r.now + 1 < size_left o) (sym is) (omega (arith, less))

push-behind : (done : List (List ℕ)) (v : List ℕ) (more : Option (List (List ℕ))) → behind (done ++ v ∷ []) more ≡ behind done (option_map (λ values. v ∷ values) more)
push-behind done v None = refl
push-behind done v (Some values) = ap (λ (l : List (List ℕ)). Some l) (append_assoc done (v ∷ []) values)

-- the values in a cell and those behind it, by that of the cell
abbrev with_more : Option (List (List ℕ)) → Option (List ℕ) → Option (List (List ℕ))
with_more more one = option_and_then (λ value. option_map (λ values. value ∷ values) more) one

left-parted : (left rest : Option (Bor (List ℕ))) (lent : Bor (List ℕ)) (cell : List ℕ) → left ≡ Some lent → slice_split is_comma lent.now ≡ cell ∷ cells_left rest → values_in (cells_left left) ≡ with_more (values_in (cells_left rest)) (value_of cell)
left-parted left rest lent cell is parts = ap (λ (o : Option (Bor (List ℕ))). values_in (cells_left o)) is ∙ ap (λ (l : List (List ℕ)). values_in l) parts

-- one value more
pub next-value : {A : Type 0} (items_of : A → List ℕ) (done new : List A) (one : A) (cell : List ℕ) (left rest : Option (Bor (List ℕ))) (lent : Bor (List ℕ)) (found : Option A) (total : Option (List (List ℕ)))
    → left ≡ Some lent → slice_split is_comma lent.now ≡ cell ∷ cells_left rest → option_map items_of found ≡ value_of cell → found ≡ Some one → new ≡ done ++ one ∷ []
    → behind (map items_of done) (values_in (cells_left left)) ≡ total → behind (map items_of new) (values_in (cells_left rest)) ≡ total
next-value {A} items_of done new one cell left rest lent found total is parts read there pushed so_far =
    let more = values_in (cells_left rest) in
    let value : value_of cell ≡ Some (items_of one) = sym read ∙ ap (λ (o : Option A). option_map items_of o) there in
    ap (λ (l : List A). behind (map items_of l) more) pushed
    ∙ ap (λ (l : List (List ℕ)). behind l more) (map-append items_of done (one ∷ []))
    ∙ push-behind (map items_of done) (items_of one) more
    ∙ ap (λ (o : Option (List (List ℕ))). behind (map items_of done) o) (sym (left-parted left rest lent cell is parts ∙ ap (λ (o : Option (List ℕ)). with_more more o) value))
    ∙ so_far

-- a cell that has none
pub no-value : {A : Type 0} (items_of : A → List ℕ) (done : List A) (cell : List ℕ) (left rest : Option (Bor (List ℕ))) (lent : Bor (List ℕ)) (found : Option A) (total : Option (List (List ℕ)))
    → left ≡ Some lent → slice_split is_comma lent.now ≡ cell ∷ cells_left rest → option_map items_of found ≡ value_of cell → found ≡ None
    → behind (map items_of done) (values_in (cells_left left)) ≡ total → None ≡ total
no-value {A} items_of done cell left rest lent found total is parts read there so_far =
    let more = values_in (cells_left rest) in
    let value : value_of cell ≡ None = sym read ∙ ap (λ (o : Option A). option_map items_of o) there in
    ap (λ (o : Option (List (List ℕ))). behind (map items_of done) o) (sym (left-parted left rest lent cell is parts ∙ ap (λ (o : Option (List ℕ)). with_more more o) value)) ∙ so_far

-- no cell is left
pub all-values : {A : Type 0} (items_of : A → List ℕ) (done : List A) (left : Option (Bor (List ℕ))) (total : Option (List (List ℕ))) → ((text : Bor (List ℕ)) → left ≡ Some text → ⊥)
    → behind (map items_of done) (values_in (cells_left left)) ≡ total → Some (map items_of done) ≡ total
all-values items_of done None total none so_far = ap (λ (l : List (List ℕ)). Some l) (sym (append-nil (map items_of done))) ∙ so_far
all-values items_of done (Some text) total none so_far = absurd (none text refl)

-- ---- the key that values are

pub no-values : (plan : PlanValue) (t : ℕ) (text : List ℕ) (key : KeyValue) → values_of text ≡ None → IsKeyText plan t text key → ⊥
no-values plan t text key none is = none-some is.values (sym none ∙ is.cells)

same-values : (plan : PlanValue) (t : ℕ) (text : List ℕ) (key : KeyValue) (values : List (List ℕ)) → values_of text ≡ Some values → (is : IsKeyText plan t text key) → values ≡ is.values
same-values plan t text key values known is = same_Some values is.values (sym known ∙ is.cells)

pub other-count : (plan : PlanValue) (t : ℕ) (text : List ℕ) (key : KeyValue) (values : List (List ℕ)) → values_of text ≡ Some values → (length values ≡ length (key_columns_of plan t) → ⊥) → IsKeyText plan t text key → ⊥
other-count plan t text key values known other is = other (ap (λ (l : List (List ℕ)). length l) (same-values plan t text key values known is) ∙ is.count)

ok-err : {X E : Type 0} (x : X) (e : E) → ◌≡◌ {A = Result X E} (Ok x) (Err e) → ⊥
ok-err x e same = cc

pub no-key : (plan : PlanValue) (t : ℕ) (text : List ℕ) (key : KeyValue) (values : List (List ℕ)) (fault : KeyFault) → values_of text ≡ Some values → key_of_lastpk plan t (map Some values) ≡ Err fault → IsKeyText plan t text key → ⊥
no-key plan t text key values fault known refused is =
    ok-err key fault (sym is.read ∙ ap (λ (l : List (List ℕ)). key_of_lastpk plan t (map Some l)) (sym (same-values plan t text key values known is)) ∙ refused)

pub key-read : (plan : PlanValue) (t : ℕ) (text : List ℕ) (key : KeyValue) (values : List (List ℕ)) → values_of text ≡ Some values → length values ≡ length (key_columns_of plan t) → key_of_lastpk plan t (map Some values) ≡ Ok key
    → IsKeyText plan t text key
key-read plan t text key values known count read = record { values = values; cells = known; count = count; read = read }
