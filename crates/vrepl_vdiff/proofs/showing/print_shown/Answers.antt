use Rattle.std.proofs.Common.{sym, subst, ℕ}
use Rattle.vrepl_main.specs.Comparison.{Compared}
use Rattle.vrepl_vdiff.specs.Shown.{IsDifferencesText, PrintsSome, by_detail}
use Rattle.vrepl_vdiff.specs.declared.options.Detail.{Detail}
use Rattle.vrepl_vdiff.proofs.showing.print_shown.Goals as goal

pub returns-in-Comparison : goal.returns-in-Comparison
returns-in-Comparison g c =
    let compared : Compared = record { plan = c.args.plan.now; source = c.args.source.now; target = c.args.target.now } in
    subst (λ (d : Detail). PrintsSome (by_detail d c.args.options.now compared) c.print_comparison.result (g.W.Out.written c.args.out.now) (g.W.Out.written c.print_comparison.new.out)) (sym c.in-Comparison.is) c.print_comparison.ensures

pub returns-in-Text : goal.returns-in-Text
returns-in-Text g c =
    let compared : Compared = record { plan = c.args.plan.now; source = c.args.source.now; target = c.args.target.now } in
    subst (λ (d : Detail). PrintsSome (by_detail d c.args.options.now compared) c.print_differences.result (g.W.Out.written c.args.out.now) (g.W.Out.written c.print_differences.new.out)) (sym c.in-Text.is)
    (subst (λ (n : ℕ). PrintsSome (IsDifferencesText n compared) c.print_differences.result (g.W.Out.written c.args.out.now) (g.W.Out.written c.print_differences.new.out)) c.unwrap_or-count.ensures c.print_differences.ensures)

pub returns-in-Sql : goal.returns-in-Sql
returns-in-Sql g c =
    let compared : Compared = record { plan = c.args.plan.now; source = c.args.source.now; target = c.args.target.now } in
    subst (λ (d : Detail). PrintsSome (by_detail d c.args.options.now compared) c.print_repair.result (g.W.Out.written c.args.out.now) (g.W.Out.written c.print_repair.new.out)) (sym c.in-Sql.is) c.print_repair.ensures
