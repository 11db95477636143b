-- Names in the order in which they first stand.
use Rattle.std.proofs.Common.{◌≡◌, ℕ, List, [], ◌∷◌, ◌++◌, true, cond, refl, sym, ap, subst, ◌∙◌}
use Rattle.std.specs.Borrow.{Bor}
use Rattle.std.specs.Cmp.Lexicographic.{slice_cmp}
use Rattle.std.specs.List.{list_any}
use Rattle.std.specs.Ordering.{nat_cmp, is_eq}
use Rattle.filter_rule.proofs.DistinctLaws.{put_in, has_name}
use Rattle.feed_check.specs.Private.SeenNames.{HasNames, texts}

-- the set has one name more
abbrev pub HasMore : List (Bor (List ℕ)) → List (Bor (List ℕ)) → Bor (List ℕ) → Type 0
HasMore keys grown one = (q : Bor (List ℕ)) → list_any (has_name q.now) grown ≡ cond (is_eq (slice_cmp nat_cmp one.now q.now)) true (list_any (has_name q.now) keys)

texts_behind : (names : List (Bor (List ℕ))) (one : Bor (List ℕ)) → texts (names ++ one ∷ []) ≡ texts names ++ one.now ∷ []
texts_behind [] one = refl
texts_behind (name ∷ names) one = ap (λ (rest : List (List ℕ)). name.now ∷ rest) (texts_behind names one)

-- the set has what was told, behind one more name
pub pushed_told : (keys grown : List (Bor (List ℕ))) (name : Bor (List ℕ)) (names all : List (Bor (List ℕ))) → all ≡ names ++ name ∷ [] → HasMore keys grown name → HasNames keys (texts names) → HasNames grown (texts all)
pushed_told keys grown name names all is more has = subst (HasNames grown) (sym (ap texts is ∙ texts_behind names name)) (put_in keys grown name (texts names) more has)
