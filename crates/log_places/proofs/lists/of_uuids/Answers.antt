use Rattle.std.proofs.Common.{◌≡◌, suc, ◌+◌, ◌-◌, List, [], ap, arith}
use Rattle.gtid_set.specs.declared.interval.Interval.{Interval}
use Rattle.std.proofs.lemmas.Result.{err_from_is_err_and}
use Rattle.log_places.specs.List.{uuid_at}
use Rattle.log_places.proofs.TimesLaws.{times_same, times_more, times_refused, times_end}
use Rattle.log_places.proofs.lists.of_uuids.Goals as goal

pub loop-init : goal.loop-init
loop-init c = times_same uuid_at (c.args.count - 0) c.args.count (c.new-reached.result, c.args.bytes.now) ([], c.args.bytes.now) (omega arith) (ap (λ (s : List Interval). (s, c.args.bytes.now)) c.new-reached.ensures)

pub returns-in_err-more : goal.returns-in_err-more
returns-in_err-more c =
    let p = err_from_is_err_and c.from_residual.result c.from_residual.ensures.1 in
    let one : c.args.count - c.loop.counter ≡ suc (c.args.count - (c.loop.counter + 1)) = omega arith in
    rw (p.1, p.2) (times_refused uuid_at (c.args.count - c.loop.counter) (c.args.count - (c.loop.counter + 1)) (c.loop.reached, c.loop.left.now) _ _ one c.in_err-more.ensures c.loop.invariant)

pub loop-preserved : goal.loop-preserved
loop-preserved c =
    let one : c.args.count - c.loop.counter ≡ suc (c.args.count - (c.loop.counter + 1)) = omega arith in
    times_more uuid_at (c.args.count - c.loop.counter) (c.args.count - (c.loop.counter + 1)) (c.loop.reached, c.loop.left.now) _ _ one c.in_ok-more.ensures c.loop.invariant

pub returns : goal.returns
returns c =
    let none : c.args.count - c.loop.counter ≡ 0 = omega arith in
    times_end uuid_at (c.args.count - c.loop.counter) (c.loop.reached, c.loop.left.now) _ none c.loop.invariant
