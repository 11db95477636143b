-- Names that were seen, and those that are left.
use Rattle.std.proofs.Common.{◌≡◌, ℕ, ◌+◌, ◌<◌, List, [], ◌∷◌, ◌++◌, length, drop, get_or, map, Bool, true, false, cond, Err, refl, sym, ap, ◌∙◌}
use Rattle.std.specs.Borrow.{Bor}
use Rattle.std.specs.Cmp.Lexicographic.{slice_cmp}
use Rattle.std.specs.List.{list_any}
use Rattle.std.specs.Ordering.{nat_cmp, is_eq}
use Rattle.std.specs.Str.{bytes_eq}
use Rattle.std.specs.Prelude.{not, ◌||◌}
use Rattle.std.proofs.lemmas.List.Folds.{list_any-append}
use Rattle.std.proofs.lemmas.Map.Text.{is_eq-slice_cmp}
use Rattle.std.proofs.lemmas.Slice.Eq.{bytes_eq-Decides}
use Rattle.filter_rule.specs.Faults.{shape}
use Rattle.filter_rule.specs.Document.{repeats, has_twice, distinct}
use Rattle.filter_rule.proofs.EachLaws.{map_drop_at}

pub not_is : (b c : Bool) → c ≡ not b → c ≡ true → b ≡ false
not_is true c e h = cc
not_is false c e h = refl

pub is_not : (b c : Bool) → c ≡ not b → c ≡ false → b ≡ true
is_not true c e h = refl
is_not false c e h = cc

-- whether a key has the name
abbrev pub has_name : List ℕ → Bor (List ℕ) → Bool
has_name s k = is_eq (slice_cmp nat_cmp s k.now)

-- the keys have these names and no others
abbrev pub HasNames : List (Bor (List ℕ)) → List (List ℕ) → Type 0
HasNames keys names = (q : Bor (List ℕ)) → list_any (has_name q.now) keys ≡ list_any (λ t. bytes_eq q.now t) names

-- behind the names that the keys have, what is left repeats one exactly where the whole does
abbrev pub IsSeen : List (Bor (List ℕ)) → List (List ℕ) → Bool → Type 0
IsSeen keys rest whole = (before : List (List ℕ)) × HasNames keys before × (repeats before rest ≡ whole)

equal : (b c : Bool) → (b ≡ true → c ≡ true) → (c ≡ true → b ≡ true) → b ≡ c
equal true c f g = sym (f refl)
equal false true f g = g refl
equal false false f g = refl

turned : (s t : List ℕ) → bytes_eq s t ≡ true → bytes_eq t s ≡ true
turned s t e = (bytes_eq-Decides t s).1 (sym ((bytes_eq-Decides s t).0 e))

either_way : (s t : List ℕ) → bytes_eq s t ≡ bytes_eq t s
either_way s t = equal (bytes_eq s t) (bytes_eq t s) (turned s t) (turned t s)

one_more : (b c : Bool) → cond b true c ≡ (c || (b || false))
one_more true true = refl
one_more true false = refl
one_more false true = refl
one_more false false = refl

pub put_in : (keys grown : List (Bor (List ℕ))) (k : Bor (List ℕ)) (names : List (List ℕ))
    → ((q : Bor (List ℕ)) → list_any (has_name q.now) grown ≡ cond (is_eq (slice_cmp nat_cmp k.now q.now)) true (list_any (has_name q.now) keys))
    → HasNames keys names → HasNames grown (names ++ k.now ∷ [])
put_in keys grown k names more had q =
    more q
    ∙ ap (λ b. cond b true (list_any (has_name q.now) keys)) (is_eq-slice_cmp k.now q.now)
    ∙ one_more (bytes_eq k.now q.now) (list_any (has_name q.now) keys)
    ∙ ap (λ b. list_any (has_name q.now) keys || (b || false)) (either_way k.now q.now)
    ∙ ap (λ b. b || (bytes_eq q.now k.now || false)) (had q)
    ∙ sym (list_any-append (λ t. bytes_eq q.now t) names (k.now ∷ []))

pub name_turn : {C : Type 0} (name : C → List ℕ) (xs : List C) (i : ℕ) (d : C) (keys grown : List (Bor (List ℕ))) (k : Bor (List ℕ)) (is_new whole : Bool)
    → i < length xs → d ≡ get_or xs i d → k.now ≡ name d → is_new ≡ not (list_any (has_name k.now) keys) → is_new ≡ true
    → ((q : Bor (List ℕ)) → list_any (has_name q.now) grown ≡ cond (is_eq (slice_cmp nat_cmp k.now q.now)) true (list_any (has_name q.now) keys))
    → IsSeen keys (drop i (map name xs)) whole → IsSeen grown (drop (i + 1) (map name xs)) whole
name_turn name xs i d keys grown k is_new whole within item here new so more so_far =
    let before = so_far.0 in
    let absent : list_any (λ t. bytes_eq k.now t) before ≡ false = sym (so_far.1 k) ∙ not_is (list_any (has_name k.now) keys) is_new new so in
    let same : repeats (before ++ k.now ∷ []) (drop (i + 1) (map name xs)) ≡ whole =
    ap (λ b. b || repeats (before ++ k.now ∷ []) (drop (i + 1) (map name xs))) (sym absent)
    ∙ ap (λ s. repeats before (s ∷ drop (i + 1) (map name xs))) here
    ∙ ap (λ x. repeats before (name x ∷ drop (i + 1) (map name xs))) item
    ∙ ap (repeats before) (sym (map_drop_at name xs i d within)) ∙ so_far.2 in
    (before ++ k.now ∷ [], put_in keys grown k before more so_far.1, same)

pub name_repeats : {C : Type 0} (name : C → List ℕ) (xs : List C) (i : ℕ) (d : C) (keys : List (Bor (List ℕ))) (k : Bor (List ℕ)) (is_new : Bool)
    → i < length xs → d ≡ get_or xs i d → k.now ≡ name d → is_new ≡ not (list_any (has_name k.now) keys) → is_new ≡ false
    → IsSeen keys (drop i (map name xs)) (has_twice (map name xs)) → has_twice (map name xs) ≡ true
name_repeats name xs i d keys k is_new within item here new so so_far =
    let before = so_far.0 in
    let there : list_any (λ t. bytes_eq k.now t) before ≡ true = sym (so_far.1 k) ∙ is_not (list_any (has_name k.now) keys) is_new new so in
    sym so_far.2 ∙ ap (repeats before) (map_drop_at name xs i d within)
    ∙ ap (λ x. repeats before (name x ∷ drop (i + 1) (map name xs))) (sym item)
    ∙ ap (λ s. repeats before (s ∷ drop (i + 1) (map name xs))) (sym here)
    ∙ ap (λ b. b || repeats (before ++ k.now ∷ []) (drop (i + 1) (map name xs))) there

pub refuses_twice : (ss : List (List ℕ)) → has_twice ss ≡ true → distinct ss ≡ Err shape
refuses_twice ss h = rw h
