-- What touches of further tables don't change: the rows at keys of the old tables, and what a copied key is.
use Rattle.std.proofs.Common.{◌≡◌, ◌==◌, ℕ, suc, ◌<◌, Bool, true, false, cond, List, [], ◌∷◌, ◌++◌, length, take, Option, Some, None, slice_get, refl, sym, ap, ◌∙◌, arith}
use Rattle.std.proofs.lemmas.Bool.{true≢false, ltb-true, eqb-true, lt-ltb}
use Rattle.std.proofs.lemmas.List.Elements.{filter-append}
use Rattle.std.specs.Prelude.{nat_lt, IfSome}
use Rattle.std.specs.List.{filter}
use Rattle.std.specs.Option.{option_or, option_and_then}
use Rattle.list_laws.proofs.Choices.{or_none}
use Rattle.pk_copy.specs.KeyOrder.{key_cmp}
use Rattle.pk_copy.specs.KeyValue.{KeyValue}
use Rattle.pk_copy.specs.Marks.{waiting, copied, Marks, AreMarks, IsOfCurrent, current_mark, covers, is_inside}
use Rattle.target_tables.specs.Touches.{last_at}
use Rattle.source_feed.specs.History.{touches_in, passing, passed_at}
use Rattle.source_feed.specs.Prepared.{is_on}
use Rattle.source_feed.specs.Touches.{PutValue, TouchValue, PreparedValue}
use Rattle.board_laws.proofs.Lookups.{Ties, is_key, same_key}

-- ---- touches

abbrev pub on : ℕ → List TouchValue → List TouchValue
on tables touches = filter (is_on tables) touches

-- a touch of a further table is none of an old key
no_touch : (ties : Ties) (tables : ℕ) (touch : TouchValue) (key : KeyValue) → key.table < tables → is_on tables touch ≡ false → is_key key touch.0 ≡ false
no_touch ties tables touch key old further = by (is_key key touch.0) refl
  where
    by : (b : Bool) → is_key key touch.0 ≡ b → is_key key touch.0 ≡ false
    by false e = e
    by true e =
        let same : key.table ≡ touch.0.table = ap (λ (k : KeyValue). k.table) (same_key ties key touch.0 e) in
        absurd (true≢false (sym (lt-ltb touch.0.table tables (omega (arith, same, old))) ∙ further))

-- the last touch of an old key is one of the old tables
pub last_at-on : (ties : Ties) (tables : ℕ) (touches : List TouchValue) (key : KeyValue) → key.table < tables → last_at key_cmp (on tables touches) key ≡ last_at key_cmp touches key
last_at-on ties tables [] key old = refl
last_at-on ties tables (touch ∷ later) key old = by (last_at-on ties tables later key old) (is_on tables touch) refl
  where
    by : last_at key_cmp (on tables later) key ≡ last_at key_cmp later key → (b : Bool) → is_on tables touch ≡ b
        → last_at key_cmp (cond b (touch ∷ on tables later) (on tables later)) key ≡ last_at key_cmp (touch ∷ later) key
    by rest true e = ap (λ (v : Option (Option PutValue)). option_or v (cond (is_key key touch.0) (Some touch.1) None)) rest
    by rest false e =
        rest
        ∙ sym (or_none (last_at key_cmp later key))
        ∙ ap (λ b. option_or (last_at key_cmp later key) (cond b (Some touch.1) None)) (sym (no_touch ties tables touch key old e))

-- ---- histories

-- groups with the same touches of the old tables, place by place
pub same_touches : (tables : ℕ) (xs ys : List PreparedValue) → length xs ≡ length ys
    → ((i : ℕ) (x y : PreparedValue) → slice_get xs i ≡ Some x → slice_get ys i ≡ Some y → on tables x.touches ≡ on tables y.touches)
    → on tables (touches_in xs) ≡ on tables (touches_in ys)
same_touches tables [] [] long same = refl
same_touches tables [] (y ∷ ys) long same = let clash : 0 ≡ suc (length ys) = long in absurd (omega (arith, clash))
same_touches tables (x ∷ xs) [] long same = let clash : suc (length xs) ≡ 0 = long in absurd (omega (arith, clash))
same_touches tables (x ∷ xs) (y ∷ ys) long same =
    let rest : suc (length xs) ≡ suc (length ys) = long in
    let first : on tables x.touches ≡ on tables y.touches = same 0 x y refl refl in
    let later : on tables (touches_in xs) ≡ on tables (touches_in ys) = same_touches tables xs ys (omega (arith, rest)) (λ i p q e f. same (suc i) p q e f) in
    filter-append (is_on tables) x.touches (touches_in xs)
    ∙ ap (λ (ts : List TouchValue). ts ++ on tables (touches_in xs)) first
    ∙ ap (λ (ts : List TouchValue). on tables y.touches ++ ts) later
    ∙ sym (filter-append (is_on tables) y.touches (touches_in ys))

-- such groups keep the same at an old key
pub passed_at-on : (ties : Ties) (tables : ℕ) (one other : List PreparedValue) (n : ℕ) (key : KeyValue) → key.table < tables
    → on tables (touches_in (take n one)) ≡ on tables (touches_in (take n other)) → passed_at one n key ≡ passed_at other n key
passed_at-on ties tables one other n key old same =
    ap (λ (t : Option (Option PutValue)). option_and_then passing (option_and_then (λ put. put) t))
    (sym (last_at-on ties tables (touches_in (take n one)) key old)
    ∙ ap (λ (ts : List TouchValue). last_at key_cmp ts key) same
    ∙ last_at-on ties tables (touches_in (take n other)) key old)

-- ---- copied keys

-- a copied key is one of the tables that there are
pub inside_old : (marks : Marks) → AreMarks marks → (key : KeyValue) → is_inside marks key ≡ true → key.table < marks.tables
inside_old marks are key inside = by (nat_lt key.table marks.done) refl (key.table == marks.done) refl marks.upto are.current inside
  where
    by : (a : Bool) → nat_lt key.table marks.done ≡ a → (b : Bool) → (key.table == marks.done) ≡ b → (o : Option KeyValue) → IfSome o (IsOfCurrent marks)
        → covers (cond a copied (cond b (current_mark o) waiting)) key ≡ true → key.table < marks.tables
    by true d b e o current h = let less : key.table < marks.done = ltb-true key.table marks.done d in omega (arith, less, are.within)
    by false d true e None current h = absurd (true≢false (sym h))
    by false d true e (Some last) current h = let at : key.table ≡ marks.done = eqb-true key.table marks.done e in omega (arith, at, current.copying)
    by false d false e o current h = absurd (true≢false (sym h))
