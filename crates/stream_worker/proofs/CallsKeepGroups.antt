-- Calls of a seat keep the groups that are applied.
use Rattle.std.proofs.Common.{◌≡◌, ℕ, zero, suc, ◌<◌, List, [], ◌∷◌, take, Option, Some, None, MatchOption, slice_get, refl, sym, ap, ◌∙◌, subst, arith}
use Rattle.std.specs.Prelude.{IfSome}
use Rattle.source_feed.specs.Touches.{PreparedValue}
use Rattle.stream_worker.specs.Knowing.{Laid, Knows}
use Rattle.stream_worker.specs.Rule.{IsSaid, AllGoOn}
use Rattle.stream_worker.specs.Seats.{IsSeatStep}
use Rattle.stream_worker.specs.Calls.{Call, AreCalls, CallsGoOn, AppliedGroupsStay}
use Rattle.stream_worker.proofs.StreamsGoOn.{all_go_on-refl, all_go_on-trans}
use Rattle.stream_worker.proofs.StepsOfOneStream.{step_changes}

go_on_behind : (o : Option Laid) (seen left : Laid) → AllGoOn seen.board left.board → IfSome o (λ last. AllGoOn left.board last.board) → IfSome o (λ last. AllGoOn seen.board last.board)
go_on_behind None seen left one h = tt
go_on_behind (Some last) seen left one h = all_go_on-trans seen.board left.board last.board one h

-- a call's board goes on from the one that the seat knew
call_goes_on : (before after : Knows) (s : ℕ) (call : Call) (seen : Laid) (is : before.seen ≡ Some seen) (step : IsSeatStep before s call.event call.result after) → AllGoOn seen.board step.left.board
call_goes_on before after s call seen is step =
    let said : IsSaid before.streams seen step.taken = subst (λ (o : Option Laid). MatchOption o (before.streams ≡ []) (λ (seen : Laid). IsSaid before.streams seen step.taken)) is step.says in
    all_go_on-trans seen.board step.taken.board step.left.board said.every (step_changes step.taken step.left s call.event call.result step.step).every

pub calls_go_on : CallsGoOn
calls_go_on s [] before after seen is calls =
    subst (λ (v : Knows). IfSome v.seen (λ left. AllGoOn seen.board left.board)) (sym calls)
    (subst (λ (o : Option Laid). IfSome o (λ left. AllGoOn seen.board left.board)) (sym is) (all_go_on-refl seen.board))
calls_go_on s (call ∷ later) before after seen is calls =
    let next : Knows = calls.0 in
    let step : IsSeatStep before s call.event call.result next = calls.1 in
    let rest : AreCalls s later next after = calls.2 in
    go_on_behind after.seen seen step.left (call_goes_on before next s call seen is step) (calls_go_on s later next after step.left step.seen rest)

front_get : {A : Type 0} (n i : ℕ) (xs : List A) → i < n → slice_get (take n xs) i ≡ slice_get xs i
front_get zero i xs h = absurd (omega (arith, h))
front_get (suc n) i [] h = refl
front_get (suc n) zero (x ∷ xs) h = refl
front_get (suc n) (suc i) (x ∷ xs) h = front_get n i xs (omega (arith, h))

pub applied_stay : AppliedGroupsStay
applied_stay earlier later i group on less there =
    sym (front_get earlier.applied i later.list less)
    ∙ ap (λ (xs : List PreparedValue). slice_get xs i) on.groups
    ∙ front_get earlier.applied i earlier.list less
    ∙ there
