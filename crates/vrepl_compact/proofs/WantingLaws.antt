-- Where memory is wanted of what `compact` is given.
use Rattle.std.proofs.Common.{◌≡◌, ℕ, List, Bool, true, false, cond, Option, None, Some, Result, Ok, Err, refl}
use Rattle.std.proofs.lemmas.Str.{IsUtf8-from_is_utf8}
use Rattle.std.specs.Option.{ok_or}
use Rattle.std.specs.Str.{is_utf8}
use Rattle.filter_rule.specs.Faults.{Fault, json}
use Rattle.filter_rule.specs.PlanValue.{PlanValue}
use Rattle.filter_rule.specs.Reading.{IsSomeText, json_of, plans_of, plans_of_value}
use Rattle.filter_rule.proofs.JsonText.{some_text}
use Rattle.filter_rule.proofs.StepLaws.{some_from_ok, then_ok}
use Rattle.vrepl_main.specs.Opening.{said_plans}
use Rattle.vrepl_main.specs.declared.refusal.CommandRefusal.{CommandRefusal}
use Rattle.vrepl_main.specs.declared.refusal.CommandRefusal.TheVariants.{Memory, NoStream}
use Rattle.vrepl_compact.specs.Asked.{plan_or_none}

-- ---- the workflow

value_there : {A : Type 0} (b : Bool) (o : Option A) (value : A) → cond b (ok_or o json) (Err json) ≡ Ok value → (b ≡ true) × (o ≡ Some value)
value_there true o value e = (refl, some_from_ok o json value e)
value_there false o value e = cc

some_at : (text : List ℕ) (plans : List PlanValue) → plans_of text ≡ Ok plans → IsSomeText text
unfolding plans_of json_of
some_at text plans is =
    then_ok plans_of_value (json_of text) plans is
    (λ value value_is rest. let there = value_there (is_utf8 text) _ value value_is in some_text text value (IsUtf8-from_is_utf8 text there.0) there.1)

said_at : (said : Result (List PlanValue) Fault) (plans : List PlanValue) → said_plans said ≡ Ok plans → said ≡ Ok plans
said_at (Ok other) plans e = cc
said_at (Err fault) plans e = cc

-- a file that is read is a text
pub text_read : (text : List ℕ) (plans : List PlanValue) → said_plans (plans_of text) ≡ Ok plans → IsSomeText text
text_read text plans e = some_at text plans (said_at (plans_of text) plans e)

-- ---- the stream

-- that there is none is no want of memory
pub none_wanted : {P : Type 0} (refusal : CommandRefusal) → refusal ≡ NoStream → refusal ≡ Memory → P
none_wanted refusal none wanted = cc

-- the plan that is had is there
pub planned_some : (o : Option PlanValue) (plan : PlanValue) → plan_or_none o ≡ Ok plan → Some plan ≡ o
planned_some (Some other) plan e = cc
planned_some None plan e = cc
