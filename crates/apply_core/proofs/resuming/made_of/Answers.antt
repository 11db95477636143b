use Rattle.std.proofs.lemmas.Result.{err_from_is_err_and}
use Rattle.apply_core.proofs.AfterSaveLaws.{made_board, others_refused, clash_refused}
use Rattle.apply_core.proofs.ResumeLaws.{all_rise}
use Rattle.apply_core.proofs.KeyedLaws.{all_keyed}
use Rattle.apply_core.proofs.resuming.made_of.Goals as goal

pub compare_rows-requires-clause-rising : goal.compare_rows-requires-clause-rising
compare_rows-requires-clause-rising c = rw c.deref-4.ensures.value (all_rise c.args.feeds.now c.args.saved.items c.requires.said)

pub compare_rows-requires-clause-keyed : goal.compare_rows-requires-clause-keyed
compare_rows-requires-clause-keyed c =
    rw (c.deref-3.ensures.value, c.deref-4.ensures.value) (all_keyed c.args.feeds.now c.args.saved.items c.in_ok-streams.streams.items c.requires.said (rw c.deref-2.ensures.value at c.in_ok-streams.ensures.ok))

pub rows_together-requires-clause-rising : goal.rows_together-requires-clause-rising
rows_together-requires-clause-rising c = all_rise c.args.feeds.now c.args.saved.items c.requires.said

pub returns-in_err-compare_rows-clause-err : goal.returns-in_err-compare_rows-clause-err
returns-in_err-compare_rows-clause-err c =
    let p = err_from_is_err_and c.from_residual-in_err-compare_rows.result c.from_residual-in_err-compare_rows.ensures.1 in
    rw (p.1, p.2) (others_refused c.args.feeds.now c.args.saved.items c.in_ok-streams.streams.items c.in_err-compare_rows.field-0.0 (rw c.deref-2.ensures.value at c.in_ok-streams.ensures.ok) (rw (c.deref-3.ensures.value, c.deref-4.ensures.value) at c.in_err-compare_rows.ensures.err))

pub returns-in_err-rows-clause-err : goal.returns-in_err-rows-clause-err
returns-in_err-rows-clause-err c =
    let p = err_from_is_err_and c.from_residual-in_err-rows.result c.from_residual-in_err-rows.ensures.1 in
    rw (p.1, p.2) (clash_refused c.args.feeds.now c.args.saved.items c.in_ok-streams.streams.items c.in_err-rows.field-0.0 (rw c.deref-2.ensures.value at c.in_ok-streams.ensures.ok) (rw (c.deref-3.ensures.value, c.deref-4.ensures.value) at c.in_ok-compare_rows.ensures.ok) (rw c.deref-5.ensures.value at c.in_err-rows.ensures.err))

pub invariant_of-result : goal.invariant_of-result
invariant_of-result c =
    (c.resumed_boards_are_lawful.ensures c.args.feeds.now c.requires.said.bytes c.args.saved.items _ c.requires.feeds c.requires.said.is
    (made_board c.args.feeds.now c.args.saved.items c.in_ok-streams.streams.items c.in_ok-rows.rows.entries (rw c.deref-2.ensures.value at c.in_ok-streams.ensures.ok) (rw (c.deref-3.ensures.value, c.deref-4.ensures.value) at c.in_ok-compare_rows.ensures.ok) (rw c.deref-5.ensures.value at c.in_ok-rows.ensures.ok))).0

pub returns-clause-ok : goal.returns-clause-ok
returns-clause-ok c =
    made_board c.args.feeds.now c.args.saved.items c.in_ok-streams.streams.items c.in_ok-rows.rows.entries (rw c.deref-2.ensures.value at c.in_ok-streams.ensures.ok) (rw (c.deref-3.ensures.value, c.deref-4.ensures.value) at c.in_ok-compare_rows.ensures.ok) (rw c.deref-5.ensures.value at c.in_ok-rows.ensures.ok)
