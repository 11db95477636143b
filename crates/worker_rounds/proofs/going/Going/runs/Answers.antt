use Rattle.std.proofs.Common.{◌≡◌, List, length, Option, Some, None, slice_get, ap, subst, arith}
use Rattle.board_laws.specs.declared.step_refusal.StepRefusal.{StepRefusal}
use Rattle.worker_rounds.specs.Private.OnRound.{Gone, Runs, IsStopAt, IsStoppedIn}
use Rattle.worker_rounds.proofs.going.Going.runs.Goals as goal

pub is_running-requires : goal.is_running-requires
is_running-requires g c =
    omega (arith, c.requires, c.self.invariant.count, ap (λ (xs : List (Option StepRefusal)). length xs) c.deref.ensures.value)

pub returns-clause-yes : goal.returns-clause-yes
returns-clause-yes g c =
    λ holds. subst (λ (x : Gone). Runs x c.args.s) c.self.view_is (subst (λ (xs : List (Option StepRefusal)). slice_get xs c.args.s ≡ Some None) c.deref.ensures.value (c.is_running.ensures.yes holds))

pub returns-clause-no : goal.returns-clause-no
returns-clause-no g c =
    λ fails. subst (λ (x : Gone). IsStoppedIn x c.args.s) c.self.view_is (subst (λ (xs : List (Option StepRefusal)). IsStopAt xs c.args.s) c.deref.ensures.value (c.is_running.ensures.no fails))
