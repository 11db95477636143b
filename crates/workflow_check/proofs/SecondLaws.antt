-- Names that were seen, and the first of those that are left that was seen before.
use Rattle.std.proofs.Common.{◌≡◌, ℕ, ◌+◌, ◌<◌, List, [], ◌∷◌, ◌++◌, length, drop, get_or, map, Bool, true, false, cond, Option, None, refl, sym, ap, ◌∙◌}
use Rattle.std.specs.Borrow.{Bor}
use Rattle.std.specs.Cmp.Lexicographic.{slice_cmp}
use Rattle.std.specs.List.{list_any}
use Rattle.std.specs.Ordering.{nat_cmp, is_eq}
use Rattle.std.specs.Prelude.{not, codes}
use Rattle.std.specs.Str.{bytes_eq}
use Rattle.filter_rule.proofs.DistinctLaws.{HasNames, has_name, put_in, not_is, is_not}
use Rattle.filter_rule.proofs.EachLaws.{map_drop_at}
use Rattle.workflow_check.specs.Shape.{second_from}
use Rattle.workflow_check.specs.Told.{ToldValue, told_here, told_within, item_step, quoted}

-- the names, as bytes
abbrev pub texts : List (Bor (List ℕ)) → List (List ℕ)
texts names = map (λ one. one.now) names

-- behind the names that the keys have, the first of those that are left is that of the whole
abbrev pub IsSeen : List (Bor (List ℕ)) → ℕ → List (List ℕ) → Option ToldValue → Type 0
IsSeen keys i rest whole = (before : List (List ℕ)) × HasNames keys before × (second_from i before rest ≡ whole)

pub second_none : (keys names : List (Bor (List ℕ))) → keys ≡ [] → IsSeen keys 0 (texts names) (second_from 0 [] (texts names))
second_none keys names none = ([], (λ q. ap (list_any (has_name q.now)) none), refl)

at_place : (names : List (Bor (List ℕ))) (i : ℕ) (d none : Bor (List ℕ)) → i < length names → d ≡ get_or names i none → drop i (texts names) ≡ d.now ∷ drop (i + 1) (texts names)
at_place names i d none within item =
    map_drop_at (λ (one : Bor (List ℕ)). one.now) names i none within ∙ ap (λ (one : Bor (List ℕ)). one.now ∷ drop (i + 1) (texts names)) (sym item)

unseen : (b : Bool) (i : ℕ) (before : List (List ℕ)) (name : List ℕ) (rest : List (List ℕ)) → list_any (bytes_eq name) before ≡ b → b ≡ false
    → second_from i before (name ∷ rest) ≡ second_from (i + 1) (before ++ name ∷ []) rest
unseen true i before name rest e none = cc
unseen false i before name rest e none = rw e refl

stood : (b : Bool) (i : ℕ) (before : List (List ℕ)) (name : List ℕ) (rest : List (List ℕ)) → list_any (bytes_eq name) before ≡ b → b ≡ true
    → second_from i before (name ∷ rest) ≡ told_within (item_step i) (told_here (quoted (codes "a second") name))
stood true i before name rest e some = rw e refl
stood false i before name rest e some = cc

pub second_turn : (names : List (Bor (List ℕ))) (i : ℕ) (d none : Bor (List ℕ)) (keys grown : List (Bor (List ℕ))) (is_new : Bool) (whole : Option ToldValue)
    → i < length names → d ≡ get_or names i none → is_new ≡ not (list_any (has_name d.now) keys) → is_new ≡ true
    → ((q : Bor (List ℕ)) → list_any (has_name q.now) grown ≡ cond (is_eq (slice_cmp nat_cmp d.now q.now)) true (list_any (has_name q.now) keys))
    → IsSeen keys i (drop i (texts names)) whole → IsSeen grown (i + 1) (drop (i + 1) (texts names)) whole
second_turn names i d none keys grown is_new whole within item new so more so_far =
    let before = so_far.0 in
    let absent : list_any (bytes_eq d.now) before ≡ false = sym (so_far.1 d) ∙ not_is (list_any (has_name d.now) keys) is_new new so in (
      before ++ d.now ∷ [],
      put_in keys grown d before more so_far.1,
      sym (unseen (list_any (bytes_eq d.now) before) i before d.now (drop (i + 1) (texts names)) refl absent)
          ∙ ap (second_from i before) (sym (at_place names i d none within item)) ∙ so_far.2,
    )

pub second_stands : (names : List (Bor (List ℕ))) (i : ℕ) (d none : Bor (List ℕ)) (keys : List (Bor (List ℕ))) (is_new : Bool) (whole : Option ToldValue)
    → i < length names → d ≡ get_or names i none → is_new ≡ not (list_any (has_name d.now) keys) → is_new ≡ false
    → IsSeen keys i (drop i (texts names)) whole → told_within (item_step i) (told_here (quoted (codes "a second") d.now)) ≡ whole
second_stands names i d none keys is_new whole within item new so so_far =
    let before = so_far.0 in
    let there : list_any (bytes_eq d.now) before ≡ true = sym (so_far.1 d) ∙ is_not (list_any (has_name d.now) keys) is_new new so in
    sym (stood (list_any (bytes_eq d.now) before) i before d.now (drop (i + 1) (texts names)) refl there)
    ∙ ap (second_from i before) (sym (at_place names i d none within item)) ∙ so_far.2
