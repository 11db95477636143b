use Rattle.std.proofs.lemmas.Result.{err_from_is_err_and}
use Rattle.filter_rule.specs.Reading.{decided_by, decided_from}
use Rattle.filter_rule.proofs.DecidedLaws.{decided_turn, decided_fault, decided_end}
use Rattle.filter_rule.proofs.EachLaws.{fails_along}
use Rattle.filter_rule.proofs.read.decided_from.Goals as goal

pub returns-in_err-decided_by : goal.returns-in_err-decided_by
returns-in_err-decided_by c =
    let p = err_from_is_err_and c.from_residual.result c.from_residual.ensures.1 in
    let tables = c.args.tables.now in
    let whole = decided_from tables 0 c.args.streams.now in
    rw (p.1, p.2) (fails_along c.in_err-decided_by.field-0.0 (decided_by tables c.loop-n.n c.index-streams-n.result) whole
    (λ f is. decided_fault tables c.loop-n.n c.loop-n.decided.items c.args.streams.now c.index-streams-n.result whole c.loop-n-test.true c.index-streams-n.is c.loop-n.invariant f is)
    c.in_err-decided_by.ensures)

pub loop-n-preserved : goal.loop-n-preserved
loop-n-preserved c =
    decided_turn c.args.tables.now c.loop-n.n c.loop-n.decided.items c.push.new.self.items c.in_ok-decided_by.field-0 c.args.streams.now c.index-streams-n.result _
    c.loop-n-test.true c.index-streams-n.is c.in_ok-decided_by.ensures c.in_ok-push.ensures.items c.loop-n.invariant

pub returns : goal.returns
returns c = decided_end c.args.tables.now c.loop-n.n c.loop-n.decided.items c.args.streams.now _ c.loop-n-test.false c.loop-n.invariant
