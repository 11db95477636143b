-- What a workflow file's reader answers, in other words.
use Rattle.std.proofs.Common.{◌≡◌, ◌⊎◌, inl, inr, ℕ, List, subst, map, Vec, Global, Result, Ok, Err, refl, sym, ◌∙◌}
use Rattle.std.specs.Prelude.{IfOk, IfErr, IfSome, IsErrAnd, string_bytes}
use Rattle.std.specs.Arc.{arc_value}
use Rattle.std.specs.declared.sync.Arc.{Arc}
use Rattle.filter_rule.specs.Faults.{Fault, json, shape, limit, no_such_column, key_type, bad_rule, columns_differ, definition_fault_of, GivesOrFails}
use Rattle.filter_rule.specs.FirstRule.{FollowFirstRules}
use Rattle.filter_rule.specs.PlanValue.{PlanValue}
use Rattle.filter_rule.specs.Reading.{IsNoJson, plans_of}
use Rattle.filter_rule.specs.Standing.{Stands}
use Rattle.filter_rule.specs.declared.fault.PlanFault.{PlanFault}
use Rattle.filter_rule.specs.declared.fault.PlanFault.TheVariants as errors
use Rattle.filter_rule.proofs.FollowLaws.{follows_first}
use Rattle.filter_rule.proofs.JsonText.{json_refused}
use Rattle.filter_rule.proofs.StandingLaws.{stands}

abbrev pub Plans : Type 0
Plans = Vec (Arc PlanValue Global) Global

abbrev pub values : Plans → List PlanValue
values v = map arc_value v.items

pub first_of : (text : List ℕ) (r : Result Plans PlanFault) → GivesOrFails values r (plans_of text) → IfOk r (λ v. FollowFirstRules text (values v))
first_of text (Ok v) h = follows_first text (values v) h
first_of text (Err e) h = tt

pub refuses_all : (text : List ℕ) → IsNoJson text → plans_of text ≡ Err json
unfolding plans_of
refuses_all text none = rw (json_refused text none) refl

json_of_refused : (e : PlanFault) (r : Result (List PlanValue) Fault) → r ≡ Err json → GivesOrFails {X = Plans} values (Err e) r → (e ≡ errors.Json) ⊎ (e ≡ errors.Memory)
json_of_refused errors.Memory r is h = inr refl
json_of_refused errors.Json r is h = inl refl
json_of_refused errors.Shape r is h = cc (sym is ∙ h)
json_of_refused errors.Limit r is h = cc (sym is ∙ h)
json_of_refused (errors.NoSuchColumn table column) r is h = cc (sym is ∙ h)
json_of_refused (errors.KeyType table column) r is h = cc (sym is ∙ h)
json_of_refused (errors.BadRule stream rule) r is h = cc (sym is ∙ h)
json_of_refused (errors.ColumnsDiffer table) r is h = cc (sym is ∙ h)

pub json_only : (text : List ℕ) (r : Result Plans PlanFault) → GivesOrFails values r (plans_of text) → IsNoJson text → IsErrAnd r (λ fault. (fault ≡ errors.Json) ⊎ (fault ≡ errors.Memory))
json_only text (Ok v) h none = cc (sym (refuses_all text none) ∙ h)
json_only text (Err e) h none = json_of_refused e (plans_of text) (refuses_all text none) h

pub json_is_none : (text : List ℕ) (r : Result Plans PlanFault) → GivesOrFails values r (plans_of text) → r ≡ Err errors.Json → IsNoJson text
json_is_none text r h is = stands text json (subst (λ x. GivesOrFails values x (plans_of text)) is h)

pub stands_in : (text : List ℕ) (r : Result Plans PlanFault) → GivesOrFails values r (plans_of text) → IfErr r (λ fault. IfSome (definition_fault_of fault) (Stands text))
stands_in text (Ok v) h = tt
stands_in text (Err errors.Memory) h = tt
stands_in text (Err errors.Json) h = stands text json h
stands_in text (Err errors.Shape) h = stands text shape h
stands_in text (Err errors.Limit) h = stands text limit h
stands_in text (Err (errors.NoSuchColumn table column)) h = stands text (no_such_column (string_bytes table) (string_bytes column)) h
stands_in text (Err (errors.KeyType table column)) h = stands text (key_type (string_bytes table) (string_bytes column)) h
stands_in text (Err (errors.BadRule stream rule)) h = stands text (bad_rule stream rule) h
stands_in text (Err (errors.ColumnsDiffer table)) h = stands text (columns_differ (string_bytes table)) h
