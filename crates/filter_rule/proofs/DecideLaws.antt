-- One rule over all tables, as far as a loop has come.
use Rattle.std.proofs.Common.{◌≡◌, ℕ, zero, suc, ◌+◌, ◌<◌, ◌≤◌, List, [], ◌∷◌, ◌++◌, length, take, drop, get_or, Result, Ok, Err, refl, sym, ap, ◌∙◌, arith}
use Rattle.std.specs.Prelude.{slice_set}
use Rattle.list_laws.specs.Outcome.{◌>>=◌}
use Rattle.filter_rule.specs.Faults.{Fault}
use Rattle.filter_rule.specs.PlanTable.{TableValue}
use Rattle.filter_rule.specs.Rules.{RuleForm, decide_once, decide_each}
use Rattle.filter_rule.specs.declared.decision.Decision.{Decision}
use Rattle.filter_rule.proofs.EachLaws.{with_front, front_more, append_none, drop_at}

pub take_set : {A : Type 0} (xs : List A) (i : ℕ) (e : A) → i < length xs → take (i + 1) (slice_set xs i e) ≡ take i xs ++ e ∷ []
take_set [] i e h = absurd (omega arith)
take_set (x ∷ xs) zero e h = refl
take_set (x ∷ xs) (suc i) e h = let n : suc i + 1 ≡ suc (i + 1) = omega arith in rw n (ap (λ r. x ∷ r) (take_set xs i e (omega arith)))

pub drop_set : {A : Type 0} (xs : List A) (i : ℕ) (e : A) → drop (i + 1) (slice_set xs i e) ≡ drop (i + 1) xs
drop_set [] i e = refl
drop_set (x ∷ xs) zero e = refl
drop_set (x ∷ xs) (suc i) e = let n : suc i + 1 ≡ suc (i + 1) = omega arith in rw n (drop_set xs i e)

pub take_all : {A : Type 0} (xs : List A) (i : ℕ) → length xs ≤ i → take i xs ≡ xs
take_all [] zero h = refl
take_all [] (suc i) h = refl
take_all (x ∷ xs) zero h = absurd (omega arith)
take_all (x ∷ xs) (suc i) h = ap (λ r. x ∷ r) (take_all xs i (omega arith))

pub drop_all : {A : Type 0} (xs : List A) (i : ℕ) → length xs ≤ i → drop i xs ≡ []
drop_all [] zero h = refl
drop_all [] (suc i) h = refl
drop_all (x ∷ xs) zero h = absurd (omega arith)
drop_all (x ∷ xs) (suc i) h = drop_all xs i (omega arith)

-- what is decided so far, and what the rest comes to
abbrev pub decided_from : ℕ → ℕ → RuleForm → List Decision → List TableValue → List Decision → Result (List Decision) Fault
decided_from s n form front ts ds = with_front front (decide_each s n form ts ds)

one_more : (s n : ℕ) (form : RuleForm) (front : List Decision) (t : TableValue) (ts : List TableValue) (d : Decision) (ds : List Decision) (e : Decision) → decide_once s n form t d ≡ Ok e
    → decided_from s n form front (t ∷ ts) (d ∷ ds) ≡ decided_from s n form (front ++ e ∷ []) ts ds
unfolding decide_each
one_more s n form front t ts d ds e is = ap (λ r. with_front front (r >>= λ e. decide_each s n form ts ds >>= λ es. Ok (e ∷ es))) is ∙ front_more front e (decide_each s n form ts ds)

one_fault : (s n : ℕ) (form : RuleForm) (front : List Decision) (t : TableValue) (ts : List TableValue) (d : Decision) (ds : List Decision) (f : Fault) → decide_once s n form t d ≡ Err f
    → decided_from s n form front (t ∷ ts) (d ∷ ds) ≡ Err f
unfolding decide_each
one_fault s n form front t ts d ds f is = ap (λ r. with_front front (r >>= λ e. decide_each s n form ts ds >>= λ es. Ok (e ∷ es))) is

opened : (s n : ℕ) (form : RuleForm) (tables : List TableValue) (ds : List Decision) (i : ℕ) (t : TableValue) (d : Decision) → i < length tables → i < length ds → t ≡ get_or tables i t → d ≡ get_or ds i d
    → decided_from s n form (take i ds) (drop i tables) (drop i ds) ≡ decided_from s n form (take i ds) (t ∷ drop (i + 1) tables) (d ∷ drop (i + 1) ds)
opened s n form tables ds i t d in_tables in_ds t_is d_is =
    ap (λ ts. decided_from s n form (take i ds) ts (drop i ds)) (drop_at tables i t in_tables ∙ ap (λ x. x ∷ drop (i + 1) tables) (sym t_is))
    ∙ ap (decided_from s n form (take i ds) (t ∷ drop (i + 1) tables)) (drop_at ds i d in_ds ∙ ap (λ x. x ∷ drop (i + 1) ds) (sym d_is))

pub decide_turn : (s n : ℕ) (form : RuleForm) (tables : List TableValue) (ds : List Decision) (i : ℕ) (t : TableValue) (d e : Decision) (whole : Result (List Decision) Fault)
    → i < length tables → length ds ≡ length tables → t ≡ get_or tables i t → d ≡ get_or ds i d → decide_once s n form t d ≡ Ok e
    → decided_from s n form (take i ds) (drop i tables) (drop i ds) ≡ whole
    → decided_from s n form (take (i + 1) (slice_set ds i e)) (drop (i + 1) tables) (drop (i + 1) (slice_set ds i e)) ≡ whole
decide_turn s n form tables ds i t d e whole within same t_is d_is is so_far =
    let in_ds : i < length ds = omega arith in
    ap (λ x. decided_from s n form x (drop (i + 1) tables) (drop (i + 1) (slice_set ds i e))) (take_set ds i e in_ds)
    ∙ ap (decided_from s n form (take i ds ++ e ∷ []) (drop (i + 1) tables)) (drop_set ds i e)
    ∙ sym (one_more s n form (take i ds) t (drop (i + 1) tables) d (drop (i + 1) ds) e is)
    ∙ sym (opened s n form tables ds i t d within in_ds t_is d_is) ∙ so_far

pub decide_fault : (s n : ℕ) (form : RuleForm) (tables : List TableValue) (ds : List Decision) (i : ℕ) (t : TableValue) (d : Decision) (whole : Result (List Decision) Fault)
    → i < length tables → length ds ≡ length tables → t ≡ get_or tables i t → d ≡ get_or ds i d
    → decided_from s n form (take i ds) (drop i tables) (drop i ds) ≡ whole → (f : Fault) → decide_once s n form t d ≡ Err f → whole ≡ Err f
decide_fault s n form tables ds i t d whole within same t_is d_is so_far f is =
    let in_ds : i < length ds = omega arith in
    sym so_far ∙ opened s n form tables ds i t d within in_ds t_is d_is ∙ one_fault s n form (take i ds) t (drop (i + 1) tables) d (drop (i + 1) ds) f is

decide_none : (s n : ℕ) (form : RuleForm) (ds : List Decision) → decide_each s n form [] ds ≡ Ok []
unfolding decide_each
decide_none s n form ds = refl

pub decide_end : (s n : ℕ) (form : RuleForm) (tables : List TableValue) (ds : List Decision) (i : ℕ) (whole : Result (List Decision) Fault)
    → length tables ≤ i → length ds ≡ length tables → decided_from s n form (take i ds) (drop i tables) (drop i ds) ≡ whole → whole ≡ Ok ds
decide_end s n form tables ds i whole past same so_far =
    let past_ds : length ds ≤ i = omega arith in
    sym so_far ∙ ap (λ ts. decided_from s n form (take i ds) ts (drop i ds)) (drop_all tables i past) ∙ ap (with_front (take i ds)) (decide_none s n form (drop i ds))
    ∙ ap Ok (append_none (take i ds) ∙ take_all ds i past_ds)
