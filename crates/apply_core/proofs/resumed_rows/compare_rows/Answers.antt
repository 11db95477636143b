use Rattle.std.proofs.Common.{◌<◌, length, refl, sym, subst}
use Rattle.std.proofs.lemmas.Option.{slice_get_read}
use Rattle.apply_core.proofs.ResumeLaws.{agree_more, all_agree, differs_first}
use Rattle.apply_core.proofs.resumed_rows.compare_rows.Goals as goal

pub difference-requires-clause-rising : goal.difference-requires-clause-rising
difference-requires-clause-rising c =
    let inside : c.loop-s.s < length c.args.saved.now = subst (λ n. c.loop-s.s < n) (sym c.requires.count) c.loop-s-test.true in
    let there = slice_get_read c.args.saved.now (length c.args.saved.now) c.loop-s.s c.index-saved-s.result refl inside c.index-saved-s.is in
    c.requires.rising c.loop-s.s c.index-saved-s.result there

pub difference-requires-clause-keyed : goal.difference-requires-clause-keyed
difference-requires-clause-keyed c =
    let inside : c.loop-s.s < length c.args.saved.now = subst (λ n. c.loop-s.s < n) (sym c.requires.count) c.loop-s-test.true in
    let there = slice_get_read c.args.saved.now (length c.args.saved.now) c.loop-s.s c.index-saved-s.result refl inside c.index-saved-s.is in
    let here = slice_get_read c.args.streams.now (length c.args.streams.now) c.loop-s.s c.index-streams-s.result refl c.loop-s-test.true c.index-streams-s.is in
    c.requires.keyed c.loop-s.s c.index-saved-s.result c.index-streams-s.result there here

pub returns-in-Some-clause-err : goal.returns-in-Some-clause-err
returns-in-Some-clause-err c =
    let inside : c.loop-s.s < length c.args.saved.now = subst (λ n. c.loop-s.s < n) (sym c.requires.count) c.loop-s-test.true in
    let there = slice_get_read c.args.saved.now (length c.args.saved.now) c.loop-s.s c.index-saved-s.result refl inside c.index-saved-s.is in
    let here = slice_get_read c.args.streams.now (length c.args.streams.now) c.loop-s.s c.index-streams-s.result refl c.loop-s-test.true c.index-streams-s.is in
    differs_first (λ a b. (c.keys_tie_where_they_are_equal.ensures a b).0) c.args.saved.now c.args.streams.now c.loop-s.s c.index-saved-s.result c.index-streams-s.result c.in-Some.key there here (rw c.in-Some.is at c.in_ok-difference.ensures) c.loop-s.invariant

pub loop-s-preserved : goal.loop-s-preserved
loop-s-preserved c =
    let inside : c.loop-s.s < length c.args.saved.now = subst (λ n. c.loop-s.s < n) (sym c.requires.count) c.loop-s-test.true in
    let there = slice_get_read c.args.saved.now (length c.args.saved.now) c.loop-s.s c.index-saved-s.result refl inside c.index-saved-s.is in
    let here = slice_get_read c.args.streams.now (length c.args.streams.now) c.loop-s.s c.index-streams-s.result refl c.loop-s-test.true c.index-streams-s.is in
    agree_more c.args.saved.now c.args.streams.now c.loop-s.s c.index-saved-s.result c.index-streams-s.result there here (rw c.in-None.is at c.in_ok-difference.ensures) c.loop-s.invariant

pub returns-clause-ok : goal.returns-clause-ok
returns-clause-ok c = all_agree c.args.saved.now c.args.streams.now c.loop-s.s c.loop-s-test.false c.loop-s.invariant
