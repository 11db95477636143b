use Rattle.std.proofs.Common.{◌≡◌, sym, ap, ◌∙◌, arith, ◌<◌, ◌≤◌, length}
use Rattle.std.proofs.lemmas.Grind.{common_steps}
use Rattle.std.proofs.lemmas.List.{get_or_default}
use Rattle.std.proofs.lemmas.Result.{err_from_is_err_and}
use Rattle.filter_rule.specs.PlanTable.{keeping}
use Rattle.filter_rule.specs.Reading.{first_kept, agreed, closed_from}
use Rattle.filter_rule.proofs.CloseLaws.{close_turn, close_fault, close_end}
use Rattle.filter_rule.proofs.EachLaws.{fails_along}
use Rattle.filter_rule.proofs.keeping.closed.Goals as goal

pub returns-in_err-kept : goal.returns-in_err-kept
returns-in_err-kept c =
    let p = err_from_is_err_and c.from_residual.result c.from_residual.ensures.1 in
    let streams = c.args.streams.now in
    let t = c.loop-t.t in
    let table = c.index.result.now in
    let whole = closed_from streams 0 c.args.tables.items in
    let before = c.loop-t-test.true in
    let many = c.loop-t.invariant.1 in
    let within : t < length c.loop-t.closed.items = omega arith in
    rw (p.1, p.2) (fails_along c.in_err-kept.field-0.0 (agreed streams t table (first_kept t streams)) whole
    (λ f is. close_fault streams t c.loop-t.closed.items table whole within c.index.ensures c.loop-t.invariant.0 f is)
    c.in_err-kept.ensures)

pub loop-t-preserved : goal.loop-t-preserved
loop-t-preserved c =
    let streams = c.args.streams.now in
    let t = c.loop-t.t in
    let tables = c.loop-t.closed.items in
    let table = c.index.result.now in
    let before = c.loop-t-test.true in
    let many = c.loop-t.invariant.1 in
    let within : t < length tables = omega arith in
    let same : c.index_mut.result.now ≡ table = c.index_mut.ensures.value ∙ get_or_default tables t c.index_mut.result.now table within ∙ sym c.index.ensures in (
      close_turn streams t tables table c.keep.new.self c.in_ok-kept.kept _ within c.index.ensures c.in_ok-kept.ensures (c.keep.ensures ∙ ap (λ x. keeping x c.in_ok-kept.kept) same) c.loop-t.invariant.0,
      grind (arith, common_steps),
    )

pub returns : goal.returns
returns c =
    let past = c.loop-t-test.false in
    let many = c.loop-t.invariant.1 in
    let all : length c.loop-t.closed.items ≤ c.loop-t.t = omega arith in
    close_end c.args.streams.now c.loop-t.t c.loop-t.closed.items _ all c.loop-t.invariant.0
