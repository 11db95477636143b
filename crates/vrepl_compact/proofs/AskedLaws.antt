-- What is said of the feed that is asked for, by what is said of a step to it.
use Rattle.std.proofs.Common.{◌≡◌, ◌∙◌, ℕ, List, map, Option, None, Some, option_map, Result, Ok, Err, slice_get, refl, sym, ap, subst}
use Rattle.std.proofs.lemmas.Option.{slice_get-map}
use Rattle.std.specs.Arc.{arc_value}
use Rattle.std.specs.Prelude.{IsOk, MatchOption}
use Rattle.std.specs.declared.alloc.Global.{Global}
use Rattle.std.specs.declared.sync.Arc.{Arc}
use Rattle.list_laws.specs.Outcome.{◌>>=◌}
use Rattle.filter_rule.specs.PlanValue.{PlanValue}
use Rattle.source_feed.specs.Planned.{PlannedGroupValue, FeedValue}
use Rattle.source_feed.specs.declared.fault.FeedFault.{FeedFault}
use Rattle.vrepl_main.specs.Opening.{feed_under}
use Rattle.vrepl_main.specs.Reasons.{Reason, no_stream, reason_of, RefusesInputs}
use Rattle.vrepl_main.specs.declared.refusal.CommandRefusal.{CommandRefusal}
use Rattle.vrepl_main.specs.declared.refusal.CommandRefusal.TheVariants.{Memory}
use Rattle.vrepl_compact.specs.Asked.{AskedFeed, plan_or_none}
use Rattle.vrepl_compact.specs.Compacted.{IsCompacted, IsTold, RefusesCompact}
use Rattle.vrepl_compact.specs.declared.inputs.CompactInputs.{CompactInputs}
use Rattle.vrepl_compact.specs.declared.refusal.Uncompacted.{Uncompacted}
use Rattle.vrepl_compact.specs.declared.refusal.Uncompacted.TheVariants.{Given, Limit, Feed}

by_reason : {X Y : Type 0} (meant : Option Reason) (one : Result X Reason) (whole : Result Y Reason) → ((reason : Reason) → one ≡ Err reason → whole ≡ Err reason)
    → MatchOption meant ⊥ (λ reason. one ≡ Err reason) → MatchOption meant ⊥ (λ reason. whole ≡ Err reason)
by_reason None one whole carries is = is
by_reason (Some reason) one whole carries is = carries reason is

-- a refusal of a step is one of what goes on from it
pub refused_at : {X Y : Type 0} (refusal : CommandRefusal) (one : Result X Reason) (step : X → Result Y Reason) → RefusesInputs refusal one → RefusesInputs refusal (one >>= step)
refused_at Memory one step is = tt
refused_at refusal one step is = by_reason (reason_of refusal) one (one >>= step) (λ reason e. ap (λ r. r >>= step) e) is

-- what is compacted or refused behind a step is so of the whole
pub compacted_behind : {X : Type 0} (inputs : CompactInputs) (one : Result X Reason) (step : X → Result AskedFeed Reason) (x : X) (groups rows : ℕ) (written : List ℕ) → one ≡ Ok x
    → IsCompacted inputs (step x) groups rows written → IsCompacted inputs (one >>= step) groups rows written
compacted_behind inputs one step x groups rows written e is = subst (λ r. IsCompacted inputs (r >>= step) groups rows written) (sym e) is

pub told_behind : {X : Type 0} (one : Result X Reason) (step : X → Result AskedFeed Reason) (x : X) (groups rows size : ℕ) (line : List ℕ) → one ≡ Ok x → IsTold (step x) groups rows size line
    → IsTold (one >>= step) groups rows size line
told_behind one step x groups rows size line e is = subst (λ r. IsTold (r >>= step) groups rows size line) (sym e) is

pub refused_behind : {X : Type 0} (inputs : CompactInputs) (uncompacted : Uncompacted) (one : Result X Reason) (step : X → Result AskedFeed Reason) (x : X) → one ≡ Ok x
    → RefusesCompact inputs uncompacted (step x) → RefusesCompact inputs uncompacted (one >>= step)
refused_behind inputs uncompacted one step x e is = subst (λ r. RefusesCompact inputs uncompacted (r >>= step)) (sym e) is

-- a result ends in one error alone
pub one_error : {A E : Type 0} (r : Result A E) (x y : E) → r ≡ Err x → r ≡ Err y → x ≡ y
one_error r x y e f = cc

-- the refusal that is given
given_in : CommandRefusal → Uncompacted → CommandRefusal
given_in other (Given refusal) = refusal
given_in other (Limit plan stream fault) = other
given_in other (Feed plan fault) = other

pub given_memory : (refusal : CommandRefusal) → Given refusal ≡ Given Memory → refusal ≡ Memory
unfolding given_in
given_memory refusal e = ap (given_in refusal) e

-- ---- the plan

pub planned_at : (plans : List (Arc PlanValue Global)) (stream : ℕ) (plan : Arc PlanValue Global) → Some plan ≡ slice_get plans stream → plan_or_none (slice_get (map arc_value plans) stream) ≡ Ok (arc_value plan)
planned_at plans stream plan e = ap plan_or_none (slice_get-map arc_value plans stream ∙ ap (option_map arc_value) (sym e))

pub unplanned_at : (plans : List (Arc PlanValue Global)) (stream : ℕ) → None ≡ slice_get plans stream → plan_or_none (slice_get (map arc_value plans) stream) ≡ Err no_stream
unplanned_at plans stream e = ap plan_or_none (slice_get-map arc_value plans stream ∙ ap (option_map arc_value) (sym e))

-- ---- the feed

same_ok : {A F : Type 0} (r : Result A F) (x y : A) → r ≡ Ok x → r ≡ Ok y → x ≡ y
same_ok r x y e f = cc

-- a feed that opens has these groups, under its plan
pub opened_as : (plan : PlanValue) (groups : Result (List PlannedGroupValue) FeedFault) (feed : FeedValue) → feed_under plan groups ≡ Ok feed → (groups ≡ Ok feed.groups) × (feed.plan ≡ plan)
opened_as plan (Ok groups) feed e =
    let same : record { plan = plan; groups = groups } ≡ feed = same_ok (feed_under plan (Ok groups)) (record { plan = plan; groups = groups }) feed refl e in
    (ap (λ (f : FeedValue). Ok f.groups) same, ap (λ (f : FeedValue). f.plan) (sym same))
opened_as plan (Err fault) feed e = cc

-- and they are there
pub opens_as : (plan : PlanValue) (groups : Result (List PlannedGroupValue) FeedFault) (feed : FeedValue) → feed_under plan groups ≡ Ok feed → IsOk groups
opens_as plan groups feed e = subst IsOk (sym (opened_as plan groups feed e).0) refl
