use Rattle.std.proofs.Common.{ℕ, ◌≤◌, map, subst}
use Rattle.std.proofs.lemmas.List.{length-map}
use Rattle.std.proofs.lemmas.Result.{err_from_is_err_and}
use Rattle.std.specs.Arc.{arc_value}
use Rattle.vrepl_main.proofs.StepLaws.{prints_all, prints_first}
use Rattle.vrepl_main.proofs.stepping.print_run.Goals as goal

pub fresh_board-requires-clause-some : goal.fresh_board-requires-clause-some
fresh_board-requires-clause-some g c = subst (λ (n : ℕ). 1 ≤ n) (length-map c.args.scripted.opened.plans.items arc_value) c.requires.count.0

pub fresh_board-requires-clause-few : goal.fresh_board-requires-clause-few
fresh_board-requires-clause-few g c = subst (λ (n : ℕ). n ≤ 64) (length-map c.args.scripted.opened.plans.items arc_value) c.requires.count.1

pub returns-in_err-print_taken : goal.returns-in_err-print_taken
returns-in_err-print_taken g c =
    let given = c.args.scripted in
    let p = err_from_is_err_and c.from_residual-in_err-print_taken.result c.from_residual-in_err-print_taken.ensures.1 in
    rw p.1 (prints_first (map arc_value given.opened.plans.items) given.opened.feeds.items given.steps.items (arc_value c.in_ok-plan.plan) c.in_ok-fed.fed _ _ (rw c.deref.ensures.value at c.in_ok-plan.ensures) c.in_ok-fed.ensures.fresh p.0 p.2
    (rw (c.deref-2.ensures, c.deref-3.ensures.value) at c.in_err-print_taken.ensures))

pub returns : goal.returns
returns g c =
    let given = c.args.scripted in
    prints_all (map arc_value given.opened.plans.items) given.opened.feeds.items given.steps.items (arc_value c.in_ok-plan.plan) c.in_ok-fed.fed _ _ (rw c.deref.ensures.value at c.in_ok-plan.ensures) c.in_ok-fed.ensures.fresh
    (rw (c.deref-2.ensures, c.deref-3.ensures.value) at c.in_ok-print_taken.ensures)
