-- The rules of a stream, as far as a loop has come.
use Rattle.std.proofs.Common.{◌≡◌, ℕ, zero, suc, ◌+◌, ◌<◌, ◌≤◌, List, [], ◌∷◌, ◌++◌, length, take, drop, get_or, Result, Ok, Err, refl, sym, ap, ◌∙◌, arith}
use Rattle.list_laws.proofs.Fronts.{take-own}
use Rattle.filter_rule.specs.Document.{RuleSaid}
use Rattle.list_laws.specs.Outcome.{◌>>=◌}
use Rattle.filter_rule.specs.Faults.{Fault}
use Rattle.filter_rule.specs.PlanTable.{TableValue}
use Rattle.filter_rule.specs.Reading.{rule_over, decide_in_turn}
use Rattle.filter_rule.specs.declared.decision.Decision.{Decision}
use Rattle.filter_rule.proofs.EachLaws.{drop_at}
use Rattle.filter_rule.proofs.DecideLaws.{drop_all}

-- a vector that was written through a slice of all of it
pub written_back : {A : Type 0} (n : ℕ) (front rest : List A) → n ≡ length front → take n (front ++ rest) ≡ front
written_back n front rest e = ap (λ m. take m (front ++ rest)) e ∙ take-own front rest

next_rule : (s n : ℕ) (tables : List TableValue) (r : RuleSaid) (rs : List RuleSaid) (ds es : List Decision) → rule_over s n tables r ds ≡ Ok es → decide_in_turn s tables n (r ∷ rs) ds ≡ decide_in_turn s tables (n + 1) rs es
unfolding decide_in_turn
next_rule s n tables r rs ds es is = ap (λ x. x >>= λ decided. decide_in_turn s tables (n + 1) rs decided) is

bad_next : (s n : ℕ) (tables : List TableValue) (r : RuleSaid) (rs : List RuleSaid) (ds : List Decision) (f : Fault) → rule_over s n tables r ds ≡ Err f → decide_in_turn s tables n (r ∷ rs) ds ≡ Err f
unfolding decide_in_turn
bad_next s n tables r rs ds f is = ap (λ x. x >>= λ decided. decide_in_turn s tables (n + 1) rs decided) is

no_rules : (s n : ℕ) (tables : List TableValue) (ds : List Decision) → decide_in_turn s tables n [] ds ≡ Ok ds
unfolding decide_in_turn
no_rules s n tables ds = refl

opened : (s n : ℕ) (tables : List TableValue) (rs : List RuleSaid) (r : RuleSaid) (ds : List Decision) → n < length rs → r ≡ get_or rs n r → decide_in_turn s tables n (drop n rs) ds ≡ decide_in_turn s tables n (r ∷ drop (n + 1) rs) ds
opened s n tables rs r ds within is = ap (λ x. decide_in_turn s tables n x ds) (drop_at rs n r within ∙ ap (λ x. x ∷ drop (n + 1) rs) (sym is))

pub rules_turn : (s n : ℕ) (tables : List TableValue) (rs : List RuleSaid) (r : RuleSaid) (ds es : List Decision) (whole : Result (List Decision) Fault) → n < length rs → r ≡ get_or rs n r → rule_over s n tables r ds ≡ Ok es
    → decide_in_turn s tables n (drop n rs) ds ≡ whole → decide_in_turn s tables (n + 1) (drop (n + 1) rs) es ≡ whole
rules_turn s n tables rs r ds es whole within item is so_far = sym (next_rule s n tables r (drop (n + 1) rs) ds es is) ∙ sym (opened s n tables rs r ds within item) ∙ so_far

pub rules_fault : (s n : ℕ) (tables : List TableValue) (rs : List RuleSaid) (r : RuleSaid) (ds : List Decision) (whole : Result (List Decision) Fault) → n < length rs → r ≡ get_or rs n r
    → decide_in_turn s tables n (drop n rs) ds ≡ whole → (f : Fault) → rule_over s n tables r ds ≡ Err f → whole ≡ Err f
rules_fault s n tables rs r ds whole within item so_far f is = sym so_far ∙ opened s n tables rs r ds within item ∙ bad_next s n tables r (drop (n + 1) rs) ds f is

pub rules_end : (s n : ℕ) (tables : List TableValue) (rs : List RuleSaid) (ds : List Decision) (whole : Result (List Decision) Fault) → length rs ≤ n → decide_in_turn s tables n (drop n rs) ds ≡ whole → whole ≡ Ok ds
rules_end s n tables rs ds whole past so_far = sym so_far ∙ ap (λ x. decide_in_turn s tables n x ds) (drop_all rs n past) ∙ no_rules s n tables ds

take_more : {A : Type 0} (xs : List A) (i : ℕ) (d : A) → i < length xs → take (i + 1) xs ≡ take i xs ++ get_or xs i d ∷ []
take_more [] i d h = absurd (omega arith)
take_more (x ∷ xs) zero d h = refl
take_more (x ∷ xs) (suc i) d h = let n : suc i + 1 ≡ suc (i + 1) = omega arith in rw n (ap (λ r. x ∷ r) (take_more xs i d (omega arith)))
