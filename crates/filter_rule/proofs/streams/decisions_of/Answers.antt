use Rattle.std.proofs.Common.{◌≡◌, ◌+◌, length, drop, arith, ap, ◌∙◌}
use Rattle.std.proofs.lemmas.Result.{err_from_is_err_and}
use Rattle.filter_rule.specs.Reading.{rule_over, decide_in_turn, decisions_of}
use Rattle.filter_rule.proofs.EachLaws.{fails_along}
use Rattle.filter_rule.proofs.StreamLaws.{rules_turn, rules_fault, rules_end, written_back}
use Rattle.filter_rule.proofs.streams.decisions_of.Goals as goal

pub returns-in_err-take_rule : goal.returns-in_err-take_rule
returns-in_err-take_rule c =
    let p = err_from_is_err_and c.from_residual-in_err-take_rule.result c.from_residual-in_err-take_rule.ensures.1 in
    let s = c.args.stream in
    let n = c.loop-n.n in
    let tables = c.args.tables.now in
    let rs = c.args.rules.now in
    let whole = decisions_of s tables rs in
    let ds = c.deref_mut.result.now in
    let so_far = ap (decide_in_turn s tables n (drop n rs)) c.deref_mut.ensures.value ∙ c.loop-n.invariant.1 in
    rw (p.1, p.2) (fails_along c.in_err-take_rule.field-0.0 (rule_over s n tables c.index-rules-n.result ds) whole
    (λ f is. rules_fault s n tables rs c.index-rules-n.result ds whole c.loop-n-test.true c.index-rules-n.is so_far f is)
    c.in_err-take_rule.ensures.decided)

pub loop-n-preserved : goal.loop-n-preserved
loop-n-preserved c =
    let s = c.args.stream in
    let n = c.loop-n.n in
    let tables = c.args.tables.now in
    let rs = c.args.rules.now in
    let whole = decisions_of s tables rs in
    let ds = c.deref_mut.result.now in
    let so_far = ap (decide_in_turn s tables n (drop n rs)) c.deref_mut.ensures.value ∙ c.loop-n.invariant.1 in
    let kept : length c.take_rule.new.decisions ≡ length tables = c.take_rule.ensures.count ∙ ap length c.deref_mut.ensures.value ∙ c.loop-n.invariant.0 in
    let count : c.loop-n.decisions.len ≡ length c.take_rule.new.decisions = omega (arith, c.deref_mut.ensures.len, c.take_rule.ensures.count) in
    let back = written_back c.loop-n.decisions.len c.take_rule.new.decisions (drop (length c.take_rule.new.decisions) c.loop-n.decisions.items) count in (
      ap length back ∙ kept,
      ap (decide_in_turn s tables (n + 1) (drop (n + 1) rs)) back
          ∙ rules_turn s n tables rs c.index-rules-n.result ds c.take_rule.new.decisions whole c.loop-n-test.true c.index-rules-n.is c.in_ok-take_rule.ensures.decided so_far,
    )

pub returns : goal.returns
returns c = rules_end c.args.stream c.loop-n.n c.args.tables.now c.args.rules.now c.loop-n.decisions.items _ c.loop-n-test.false c.loop-n.invariant.1
