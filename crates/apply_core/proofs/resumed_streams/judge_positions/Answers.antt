use Rattle.std.proofs.Common.{◌<◌, ◌∙◌, length, refl, sym, subst, arith}
use Rattle.std.proofs.lemmas.Bool.{true≢false}
use Rattle.std.proofs.lemmas.Option.{slice_get_read, slice_get_within}
use Rattle.apply_core.proofs.ResumeLaws.{known_more, unknown_there}
use Rattle.apply_core.proofs.resumed_streams.judge_positions.Goals as goal

pub returns-then-not-is_known-clause-err : goal.returns-then-not-is_known-clause-err
returns-then-not-is_known-clause-err c =
    let inside : c.loop-s.s < length c.args.saved.now = subst (λ n. c.loop-s.s < n) (sym c.requires.count) c.loop-s-test.true in
    let here = slice_get_read c.args.feeds.now (length c.args.feeds.now) c.loop-s.s c.index-feeds-s.result refl c.loop-s-test.true c.index-feeds-s.is in
    let there = slice_get_read c.args.saved.now (length c.args.saved.now) c.loop-s.s c.index-saved-s.result refl inside c.index-saved-s.is in
    unknown_there c.args.feeds.now c.args.saved.now c.loop-s.s c.index-feeds-s.result c.index-saved-s.result here there (λ known. true≢false (sym (c.is_known.ensures.1 known) ∙ c.if-not-is_known.true)) c.loop-s.invariant

pub loop-s-preserved : goal.loop-s-preserved
loop-s-preserved c =
    let inside : c.loop-s.s < length c.args.saved.now = subst (λ n. c.loop-s.s < n) (sym c.requires.count) c.loop-s-test.true in
    let here = slice_get_read c.args.feeds.now (length c.args.feeds.now) c.loop-s.s c.index-feeds-s.result refl c.loop-s-test.true c.index-feeds-s.is in
    let there = slice_get_read c.args.saved.now (length c.args.saved.now) c.loop-s.s c.index-saved-s.result refl inside c.index-saved-s.is in
    known_more c.args.feeds.now c.args.saved.now c.loop-s.s c.index-feeds-s.result c.index-saved-s.result here there (c.is_known.ensures.0 c.if-not-is_known.false) c.loop-s.invariant

pub returns-clause-ok : goal.returns-clause-ok
returns-clause-ok c = λ s feed one p q.
    let inside : s < length c.args.feeds.now = slice_get_within c.args.feeds.now s feed p in
    c.loop-s.invariant s feed one (omega (arith, inside, c.loop-s-test.false)) p q
