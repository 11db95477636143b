use Rattle.std.proofs.Common.{◌≡◌, ◌+◌, Some, slice_get, take, sym, subst}
use Rattle.list_laws.proofs.Places.{place_of}
use Rattle.apply_core.specs.Private.Together.{AreTogether}
use Rattle.apply_core.proofs.FirstRowsLaws.{first_together}
use Rattle.apply_core.proofs.ResumeLaws.{puts_of_saved, front_long, together_more, clash_at}
use Rattle.apply_core.proofs.resumed_rows.put_saved.Goals as goal

pub returns-then-s-eq0-clause-ok : goal.returns-then-s-eq0-clause-ok
returns-then-s-eq0-clause-ok c =
    let state = place_of c.args.streams.now c.args.s c.requires.here in
    let first : slice_get c.args.streams.now 0 ≡ Some state.0 = subst (λ n. slice_get c.args.streams.now n ≡ Some state.0) c.if-s-eq0.true state.1 in
    subst (λ n. AreTogether (take (n + 1) c.args.streams.now) c.in_ok-rows.field-0.entries) (sym c.if-s-eq0.true)
    (first_together c.args.streams.now state.0 c.args.own.items c.in_ok-rows.field-0.entries first c.requires.rising (c.requires.agree state.0 state.1) c.in_ok-rows.ensures)

pub returns-in-Ok-clause-ok : goal.returns-in-Ok-clause-ok
returns-in-Ok-clause-ok c =
    let state = place_of c.args.streams.now c.args.s c.requires.here in
    let puts = puts_of_saved (λ a b. (c.keys_tie_where_they_are_equal.ensures a b).0) c.args.own.items state.0 c.in_ok-puts.puts.items c.requires.rising (c.requires.agree state.0 state.1) c.in_ok-puts.ensures in
    together_more c.args.streams.now c.args.s state.0 c.put_stream.new.rows.entries state.1 (c.in-Ok.ensures.ok _ state.0 (front_long c.args.streams.now c.args.s c.requires.here) c.requires.lower puts)

pub returns-in-Err-OwnedByOther-clause-err : goal.returns-in-Err-OwnedByOther-clause-err
returns-in-Err-OwnedByOther-clause-err c =
    let state = place_of c.args.streams.now c.args.s c.requires.here in
    let puts = puts_of_saved (λ a b. (c.keys_tie_where_they_are_equal.ensures a b).0) c.args.own.items state.0 c.in_ok-puts.puts.items c.requires.rising (c.requires.agree state.0 state.1) c.in_ok-puts.ensures in
    clash_at c.args.streams.now c.args.s state.0 c.args.rows.now.entries c.in-Err-OwnedByOther.key c.in-Err-OwnedByOther.owner c.requires.here state.1 c.requires.lower
    (rw c.in-Err-OwnedByOther.field-0-is at c.in-Err-OwnedByOther.ensures.err _ state.0 (front_long c.args.streams.now c.args.s c.requires.here) c.requires.lower puts)
