-- What each stream decides.
use Rattle.std.proofs.Common.{◌≡◌, ℕ, zero, suc, ◌+◌, ◌<◌, ◌≤◌, List, [], ◌∷◌, ◌++◌, length, drop, get_or, map, Some, Result, Ok, Err, refl, sym, ap, subst, ◌∙◌, arith}
use Rattle.std.specs.Prelude.{slice_get}
use Rattle.std.proofs.lemmas.Option.{same_Some}
use Rattle.list_laws.specs.Outcome.{◌>>=◌}
use Rattle.filter_rule.specs.Document.{StreamSaid}
use Rattle.filter_rule.specs.Faults.{Fault}
use Rattle.filter_rule.specs.FirstRule.{AreByFirst}
use Rattle.filter_rule.specs.PlanTable.{TableValue}
use Rattle.filter_rule.specs.Reading.{Decided, decisions_of, decided_by, decided_from}
use Rattle.filter_rule.specs.WellFormed.{AreTables}
use Rattle.filter_rule.proofs.DecideLaws.{drop_all}
use Rattle.filter_rule.proofs.EachLaws.{with_front, front_more, append_none, drop_at}
use Rattle.filter_rule.proofs.FirstRuleLaws.{decisions_by_first}
use Rattle.filter_rule.proofs.ShapeLaws.{Decided as AreDecided, decisions_decided}
use Rattle.filter_rule.proofs.StepLaws.{then_ok, same_ok}

-- what a stream of this number decides
pub record IsDecided (tables : List TableValue) (n : ℕ) (stream : StreamSaid) (one : Decided) : Type 0 where
  pub shard : one.shard ≡ stream.shard
  pub first : AreByFirst n tables stream.rules one.decisions
  pub fit : AreTables tables → AreDecided tables one.decisions

pub decided_parts : (tables : List TableValue) (n : ℕ) (stream : StreamSaid) (one : Decided) → decided_by tables n stream ≡ Ok one → IsDecided tables n stream one
unfolding decided_by
decided_parts tables n stream one h =
    then_ok _ (decisions_of n tables stream.rules) one h (λ ds ds_is h2.
    subst (IsDecided tables n stream) (same_ok (record { shard = stream.shard; decisions = ds }) one h2)
    (record { shard = refl; first = decisions_by_first n tables stream.rules ds ds_is; fit = λ fit. decisions_decided n tables stream.rules ds fit ds_is }))

-- the stream that something was decided by
pub record DecidedAt (tables : List TableValue) (n : ℕ) (ss : List StreamSaid) (i : ℕ) (one : Decided) : Type 0 where
  pub stream : StreamSaid
  pub stands : slice_get ss i ≡ Some stream
  pub is : IsDecided tables (n + i) stream one

decided_step : (tables : List TableValue) (n : ℕ) (s : StreamSaid) (ss : List StreamSaid) (first : Decided) (rest : List Decided) (i : ℕ) (one : Decided) → decided_by tables n s ≡ Ok first
    → ((j : ℕ) (other : Decided) → slice_get rest j ≡ Some other → DecidedAt tables (n + 1) ss j other) → slice_get (first ∷ rest) i ≡ Some one → DecidedAt tables n (s ∷ ss) i one
decided_step tables n s ss first rest zero one first_is more is =
    let at : n ≡ n + 0 = omega arith in
    record { stream = s; stands = refl; is = subst (λ k. IsDecided tables k s one) at (subst (IsDecided tables n s) (same_Some first one is) (decided_parts tables n s first first_is)) }
decided_step tables n s ss first rest (suc i) one first_is more is =
    let there = more i one is in
    let at : (n + 1) + i ≡ n + suc i = omega arith in
    record { stream = there.stream; stands = there.stands; is = subst (λ k. IsDecided tables k there.stream one) at there.is }

pub decided_at : (tables : List TableValue) (n : ℕ) (ss : List StreamSaid) (decided : List Decided) → decided_from tables n ss ≡ Ok decided → (i : ℕ) (one : Decided) → slice_get decided i ≡ Some one → DecidedAt tables n ss i one
unfolding decided_from
decided_at tables n [] decided h i one is = let none : slice_get [] i ≡ Some one = ap (λ xs. slice_get xs i) (same_ok [] decided h) ∙ is in cc
decided_at tables n (s ∷ ss) decided h i one is =
    then_ok _ (decided_by tables n s) decided h (λ first first_is h2. then_ok _ (decided_from tables (n + 1) ss) decided h2 (λ rest rest_is h3.
    decided_step tables n s ss first rest i one first_is (decided_at tables (n + 1) ss rest rest_is) (ap (λ xs. slice_get xs i) (same_ok (first ∷ rest) decided h3) ∙ is)))

pub decided_shards : (tables : List TableValue) (n : ℕ) (ss : List StreamSaid) (decided : List Decided) → decided_from tables n ss ≡ Ok decided → map (λ (one : Decided). one.shard) decided ≡ map (λ (s : StreamSaid). s.shard) ss
unfolding decided_from
decided_shards tables n [] decided h = ap (map (λ (one : Decided). one.shard)) (sym (same_ok [] decided h))
decided_shards tables n (s ∷ ss) decided h =
    then_ok _ (decided_by tables n s) decided h (λ first first_is h2. then_ok _ (decided_from tables (n + 1) ss) decided h2 (λ rest rest_is h3.
    ap (map (λ (one : Decided). one.shard)) (sym (same_ok (first ∷ rest) decided h3))
    ∙ ap (λ shard. shard ∷ map (λ (one : Decided). one.shard) rest) (decided_parts tables n s first first_is).shard
    ∙ ap (λ shards. s.shard ∷ shards) (decided_shards tables (n + 1) ss rest rest_is)))

-- ---- the loop

next_decided : (tables : List TableValue) (n : ℕ) (front : List Decided) (s : StreamSaid) (ss : List StreamSaid) (one : Decided) → decided_by tables n s ≡ Ok one
    → with_front front (decided_from tables n (s ∷ ss)) ≡ with_front (front ++ one ∷ []) (decided_from tables (n + 1) ss)
unfolding decided_from
next_decided tables n front s ss one is =
    ap (λ r. with_front front (r >>= λ one. decided_from tables (n + 1) ss >>= λ others. Ok (one ∷ others))) is ∙ front_more front one (decided_from tables (n + 1) ss)

bad_decided : (tables : List TableValue) (n : ℕ) (front : List Decided) (s : StreamSaid) (ss : List StreamSaid) (f : Fault) → decided_by tables n s ≡ Err f → with_front front (decided_from tables n (s ∷ ss)) ≡ Err f
unfolding decided_from
bad_decided tables n front s ss f is = ap (λ r. with_front front (r >>= λ one. decided_from tables (n + 1) ss >>= λ others. Ok (one ∷ others))) is

none_decided : (tables : List TableValue) (n : ℕ) → decided_from tables n [] ≡ Ok []
unfolding decided_from
none_decided tables n = refl

opened : (tables : List TableValue) (n : ℕ) (front : List Decided) (ss : List StreamSaid) (s : StreamSaid) → n < length ss → s ≡ get_or ss n s
    → with_front front (decided_from tables n (drop n ss)) ≡ with_front front (decided_from tables n (s ∷ drop (n + 1) ss))
opened tables n front ss s within is = ap (λ xs. with_front front (decided_from tables n xs)) (drop_at ss n s within ∙ ap (λ x. x ∷ drop (n + 1) ss) (sym is))

pub decided_turn : (tables : List TableValue) (n : ℕ) (front grown : List Decided) (one : Decided) (ss : List StreamSaid) (s : StreamSaid) (whole : Result (List Decided) Fault)
    → n < length ss → s ≡ get_or ss n s → decided_by tables n s ≡ Ok one → grown ≡ front ++ one ∷ []
    → with_front front (decided_from tables n (drop n ss)) ≡ whole → with_front grown (decided_from tables (n + 1) (drop (n + 1) ss)) ≡ whole
decided_turn tables n front grown one ss s whole within item is more so_far =
    ap (λ x. with_front x (decided_from tables (n + 1) (drop (n + 1) ss))) more
    ∙ sym (next_decided tables n front s (drop (n + 1) ss) one is) ∙ sym (opened tables n front ss s within item) ∙ so_far

pub decided_fault : (tables : List TableValue) (n : ℕ) (front : List Decided) (ss : List StreamSaid) (s : StreamSaid) (whole : Result (List Decided) Fault)
    → n < length ss → s ≡ get_or ss n s → with_front front (decided_from tables n (drop n ss)) ≡ whole → (f : Fault) → decided_by tables n s ≡ Err f → whole ≡ Err f
decided_fault tables n front ss s whole within item so_far f is = sym so_far ∙ opened tables n front ss s within item ∙ bad_decided tables n front s (drop (n + 1) ss) f is

pub decided_end : (tables : List TableValue) (n : ℕ) (front : List Decided) (ss : List StreamSaid) (whole : Result (List Decided) Fault)
    → length ss ≤ n → with_front front (decided_from tables n (drop n ss)) ≡ whole → whole ≡ Ok front
decided_end tables n front ss whole past so_far =
    sym so_far ∙ ap (λ xs. with_front front (decided_from tables n xs)) (drop_all ss n past) ∙ ap (with_front front) (none_decided tables n) ∙ ap Ok (append_none front)
