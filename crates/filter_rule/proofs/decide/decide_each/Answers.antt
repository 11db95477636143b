use Rattle.std.proofs.Common.{get_or, ap, arith}
use Rattle.std.proofs.lemmas.Grind.{common_steps}
use Rattle.std.proofs.lemmas.Result.{err_from_is_err_and}
use Rattle.filter_rule.specs.Rules.{decide_each, decide_once}
use Rattle.filter_rule.specs.Private.RuleViews.{form_seen}
use Rattle.filter_rule.proofs.EachLaws.{fails_along}
use Rattle.filter_rule.proofs.DecideLaws.{decide_turn, decide_fault, decide_end}
use Rattle.filter_rule.proofs.decide.decide_each.Goals as goal

pub returns-in_err-decide_once-clause-decided : goal.returns-in_err-decide_once-clause-decided
returns-in_err-decide_once-clause-decided c =
    let p = err_from_is_err_and c.from_residual.result c.from_residual.ensures.1 in
    let s = c.args.place.stream in
    let n = c.args.place.rule in
    let form = form_seen c.args.form.now in
    let tables = c.args.tables.now in
    let d = get_or c.loop-i.decisions c.loop-i.i c.index-decisions-i.result in
    rw (p.1, p.2) (fails_along c.in_err-decide_once.field-0.0 (decide_once s n form c.index-tables-i.result d) (decide_each s n form tables c.args.decisions.now)
    (λ f is. decide_fault s n form tables c.loop-i.decisions c.loop-i.i c.index-tables-i.result d (decide_each s n form tables c.args.decisions.now)
    c.loop-i-test.true c.loop-i.invariant.0 c.index-tables-i.is (ap (get_or c.loop-i.decisions c.loop-i.i) c.index-decisions-i.is) c.loop-i.invariant.1 f is)
    c.in_err-decide_once.ensures)

pub loop-i-preserved : goal.loop-i-preserved
loop-i-preserved c =
    let d = get_or c.loop-i.decisions c.loop-i.i c.index-decisions-i.result in (
      grind (arith, common_steps),
      decide_turn c.args.place.stream c.args.place.rule (form_seen c.args.form.now) c.args.tables.now c.loop-i.decisions c.loop-i.i c.index-tables-i.result d c.decide_once.new.decision _
          c.loop-i-test.true c.loop-i.invariant.0 c.index-tables-i.is (ap (get_or c.loop-i.decisions c.loop-i.i) c.index-decisions-i.is) c.in_ok-decide_once.ensures c.loop-i.invariant.1,
    )

pub returns-clause-decided : goal.returns-clause-decided
returns-clause-decided c =
    decide_end c.args.place.stream c.args.place.rule (form_seen c.args.form.now) c.args.tables.now c.loop-i.decisions c.loop-i.i _ c.loop-i-test.false c.loop-i.invariant.0 c.loop-i.invariant.1
