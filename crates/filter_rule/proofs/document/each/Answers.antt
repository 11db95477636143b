use Rattle.std.proofs.Common.{map}
use Rattle.std.proofs.lemmas.Result.{err_from_is_err_and}
use Rattle.serde_json.specs.View.{view}
use Rattle.list_laws.specs.Outcome.{each}
use Rattle.filter_rule.proofs.EachLaws.{turn, turn_fault, fails_along}
use Rattle.filter_rule.proofs.document.each.Goals as goal

pub returns-in_err-from_json : goal.returns-in_err-from_json
returns-in_err-from_json g c =
    let p = err_from_is_err_and c.from_residual.result c.from_residual.ensures.1 in
    let reads = g.T.FromJson.reads c.args.hash in
    let x = c.value-item.result in
    let xs = c.args.values.now in
    rw (p.1, p.2) (fails_along c.in_err-from_json.field-0.0 (reads (view x)) (each reads (map view xs))
    (λ f is. turn_fault reads view xs c.loop-value.value-index x c.loop-value.found.items (each reads (map view xs)) c.loop-value-test.true c.value-item.is c.loop-value.invariant f is)
    c.in_err-from_json.ensures)

pub loop-value-preserved : goal.loop-value-preserved
loop-value-preserved g c =
    turn (g.T.FromJson.reads c.args.hash) view c.args.values.now c.loop-value.value-index c.value-item.result c.loop-value.found.items c.push.new.self.items c.in_ok-from_json.field-0 _
    c.loop-value-test.true c.value-item.is c.in_ok-from_json.ensures c.in_ok-push.ensures.items c.loop-value.invariant
