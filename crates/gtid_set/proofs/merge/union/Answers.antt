use Rattle.std.proofs.Common.{◌≡◌, ◌∙◌, true, false, get_or, drop, arith, sym}
use Rattle.std.proofs.lemmas.List.{get_or_default, take_rest}
use Rattle.gtid_set.specs.declared.interval.Interval.{Interval}
use Rattle.gtid_set.specs.Position.{starts_by, union_of}
use Rattle.gtid_set.proofs.Joined.{canonical-intervals}
use Rattle.gtid_set.proofs.Within.{canonical-union, union-pairs}
use Rattle.gtid_set.proofs.Merging.{merged-one, merged-swap, starts_total, interval-at, intervals-drop, rising-drop, canonical-drop, canonical-rising, union-rest}
use Rattle.gtid_set.proofs.merge.union.Goals as goal

abbrev nowhere : Interval
nowhere = record { uuid = 0; first = 0; last = 0 }

pub append-requires-clause-interval : goal.append-requires-clause-interval
append-requires-clause-interval c = interval-at c.args.one.now c.loop-i.i nowhere c.loop-i-test.true (canonical-intervals c.args.one.now c.requires.one)

pub append-requires-else-starts_by-clause-interval : goal.append-requires-else-starts_by-clause-interval
append-requires-else-starts_by-clause-interval c = interval-at c.args.other.now c.loop-i.j nowhere c.if-j-other.true (canonical-intervals c.args.other.now c.requires.other)

pub loop-i-preserved-then-starts_by : goal.loop-i-preserved-then-starts_by
loop-i-preserved-then-starts_by c =
    let one = c.args.one.now in
    let other = c.args.other.now in
    let i = c.loop-i.i in
    let j = c.loop-i.j in
    let x : Interval = get_or one i nowhere in
    let y : Interval = get_or other j nowhere in
    let first : starts_by x y ≡ true = cc in
    let before = c.loop-i.invariant in
    let m = merged-one c.loop-i.both.items one other c.append.new.set.items i j x y c.loop-i-test.true c.if-j-other.true
    (get_or_default one i nowhere x c.loop-i-test.true) (get_or_default other j nowhere y c.if-j-other.true)
    before.canonical c.requires.one c.requires.other before.starts_one before.starts_other first c.in_ok-append.ensures.ok in
    record { canonical = m.canonical; one = omega arith; other = omega arith; starts_one = m.starts_one; starts_other = m.starts_other; pairs = λ u n. m.pairs u n ∙ before.pairs u n }

pub loop-i-preserved : goal.loop-i-preserved
loop-i-preserved c =
    let one = c.args.one.now in
    let other = c.args.other.now in
    let i = c.loop-i.i in
    let j = c.loop-i.j in
    let x : Interval = get_or one i nowhere in
    let y : Interval = get_or other j nowhere in
    let not_first : starts_by x y ≡ false = cc in
    let before = c.loop-i.invariant in
    let m = merged-swap (merged-one c.loop-i.both.items other one c.append-else-starts_by.new.set.items j i y x c.if-j-other.true c.loop-i-test.true
    (get_or_default other j nowhere y c.if-j-other.true) (get_or_default one i nowhere x c.loop-i-test.true)
    before.canonical c.requires.other c.requires.one before.starts_other before.starts_one (starts_total x y not_first) c.in_ok-append-2.ensures.ok) in
    record { canonical = m.canonical; one = omega arith; other = omega arith; starts_one = m.starts_one; starts_other = m.starts_other; pairs = λ u n. m.pairs u n ∙ before.pairs u n }

pub append_all-requires-clause-each : goal.append_all-requires-clause-each
append_all-requires-clause-each c = rw take_rest (intervals-drop c.loop-i.i c.args.one.now (canonical-intervals c.args.one.now c.requires.one))

pub append_all-requires-clause-rising : goal.append_all-requires-clause-rising
append_all-requires-clause-rising c = rw take_rest (rising-drop c.loop-i.i c.args.one.now (canonical-rising c.args.one.now c.requires.one))

pub append_all-requires-2-clause-canonical : goal.append_all-requires-2-clause-canonical
append_all-requires-2-clause-canonical c =
    let e = rw take_rest at c.in_ok-append_all.ensures in
    rw e (canonical-union c.loop-i.both.items (drop c.loop-i.i c.args.one.now) c.loop-i.invariant.canonical (canonical-drop c.loop-i.i c.args.one.now c.requires.one))

pub append_all-requires-2-clause-each : goal.append_all-requires-2-clause-each
append_all-requires-2-clause-each c = rw take_rest (intervals-drop c.loop-i.j c.args.other.now (canonical-intervals c.args.other.now c.requires.other))

pub append_all-requires-2-clause-rising : goal.append_all-requires-2-clause-rising
append_all-requires-2-clause-rising c = rw take_rest (rising-drop c.loop-i.j c.args.other.now (canonical-rising c.args.other.now c.requires.other))

pub returns : goal.returns
returns c =
    let one = c.args.one.now in
    let other = c.args.other.now in
    let before = c.loop-i.invariant in
    let e = rw take_rest at c.in_ok-append_all.ensures in
    let f = rw take_rest at c.in_ok-append_all-2.ensures in
    rw (c.shrink_to_fit.ensures.items, f, e) (union-rest c.loop-i.both.items (drop c.loop-i.i one) (drop c.loop-i.j other) (union_of one other) before.canonical
    (canonical-drop c.loop-i.i one c.requires.one) (canonical-drop c.loop-i.j other c.requires.other) (canonical-union one other c.requires.one c.requires.other)
    (λ u n. before.pairs u n ∙ sym (union-pairs one other c.requires.one c.requires.other u n)))
