use Rattle.std.proofs.Common.{◌≡◌, ℕ, suc, ◌+◌, ◌-◌, List, map, Bor, ap, arith}
use Rattle.std.proofs.lemmas.Result.{err_from_is_err_and}
use Rattle.log_tables.proofs.PartLaws.{texts_start, texts_more, texts_fault, texts_end}
use Rattle.log_tables.proofs.labels.texts_of.Goals as goal

pub loop-init : goal.loop-init
loop-init c = texts_start (c.args.count - 0) c.args.count (map (λ (b : Bor (List ℕ)). b.now) c.new-labels.result.items) c.args.bytes.now (omega arith) (ap (map (λ (b : Bor (List ℕ)). b.now)) c.new-labels.ensures.items)

pub returns-in_err-label : goal.returns-in_err-label
returns-in_err-label c =
    let p = err_from_is_err_and c.from_residual.result c.from_residual.ensures.1 in
    let one : c.args.count - c.loop.counter ≡ suc (c.args.count - (c.loop.counter + 1)) = omega arith in
    rw (p.1, p.2) (texts_fault (c.args.count - c.loop.counter) (c.args.count - (c.loop.counter + 1)) c.loop.left.now c.in_err-label.field-0.0 (map (λ (b : Bor (List ℕ)). b.now) c.loop.labels.items) _ one c.in_err-label.ensures c.loop.invariant)

pub loop-preserved : goal.loop-preserved
loop-preserved c =
    let one : c.args.count - c.loop.counter ≡ suc (c.args.count - (c.loop.counter + 1)) = omega arith in
    rw c.in_ok-push_label.ensures
    (texts_more (c.args.count - c.loop.counter) (c.args.count - (c.loop.counter + 1)) c.loop.left.now (c.in_ok-label.label.now, c.in_ok-label.rest.now) (map (λ (b : Bor (List ℕ)). b.now) c.loop.labels.items) _ one c.in_ok-label.ensures c.loop.invariant)

pub returns : goal.returns
returns c =
    let none : c.args.count - c.loop.counter ≡ 0 = omega arith in
    texts_end (c.args.count - c.loop.counter) c.loop.left.now (map (λ (b : Bor (List ℕ)). b.now) c.loop.labels.items) _ none c.loop.invariant
