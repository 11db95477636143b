use Rattle.std.proofs.Common.{◌<◌, length, refl, sym, subst}
use Rattle.std.proofs.lemmas.Option.{slice_get_read}
use Rattle.std.proofs.lemmas.Result.{err_from_is_err_and}
use Rattle.board_laws.specs.declared.add_fault.AddFault.TheVariants.{Memory}
use Rattle.apply_core.specs.Private.Adding.{AreStopped}
use Rattle.apply_core.proofs.AddLaws.{wanted_behind, extended_none, extended_more, stops_here}
use Rattle.apply_core.proofs.added_streams.extended_streams.Goals as goal

pub loop-s-init : goal.loop-s-init
loop-s-init c = extended_none c.args.feeds.now c.args.streams.now c.new-extended.result.items c.new-extended.ensures.items

pub extended_stream-requires : goal.extended_stream-requires
extended_stream-requires c =
    let inside : c.loop-s.s < length c.args.feeds.now = subst (λ n. c.loop-s.s < n) (sym c.requires.count) c.loop-s-test.true in
    let fed = slice_get_read c.args.feeds.now (length c.args.feeds.now) c.loop-s.s c.index-feeds-s.result refl inside c.index-feeds-s.is in
    let here = slice_get_read c.args.streams.now (length c.args.streams.now) c.loop-s.s c.index-streams-s.result refl c.loop-s-test.true c.index-streams-s.is in
    c.requires.extend c.loop-s.s c.index-feeds-s.result c.index-streams-s.result fed here

pub returns-in_err-stream-clause-err : goal.returns-in_err-stream-clause-err
returns-in_err-stream-clause-err c =
    let p = err_from_is_err_and c.from_residual.result c.from_residual.ensures.1 in
    let inside : c.loop-s.s < length c.args.feeds.now = subst (λ n. c.loop-s.s < n) (sym c.requires.count) c.loop-s-test.true in
    let fed = slice_get_read c.args.feeds.now (length c.args.feeds.now) c.loop-s.s c.index-feeds-s.result refl inside c.index-feeds-s.is in
    let here = slice_get_read c.args.streams.now (length c.args.streams.now) c.loop-s.s c.index-streams-s.result refl c.loop-s-test.true c.index-streams-s.is in
    rw (p.1, p.2) (stops_here c.args.feeds.now c.args.streams.now c.loop-s.s c.index-feeds-s.result c.index-streams-s.result fed here c.loop-s.extended.items c.loop-s.invariant c.in_err-stream.field-0.0 c.in_err-stream.ensures.err)

pub loop-s-preserved : goal.loop-s-preserved
loop-s-preserved c =
    let inside : c.loop-s.s < length c.args.feeds.now = subst (λ n. c.loop-s.s < n) (sym c.requires.count) c.loop-s-test.true in
    let fed = slice_get_read c.args.feeds.now (length c.args.feeds.now) c.loop-s.s c.index-feeds-s.result refl inside c.index-feeds-s.is in
    let here = slice_get_read c.args.streams.now (length c.args.streams.now) c.loop-s.s c.index-streams-s.result refl c.loop-s-test.true c.index-streams-s.is in
    extended_more c.args.feeds.now c.args.streams.now c.loop-s.s c.index-feeds-s.result c.index-streams-s.result fed here c.loop-s.extended.items c.loop-s.invariant c.in_ok-stream.stream c.push_stream.new.streams.items c.in_ok-stream.ensures.ok
    c.in_ok-push_stream.ensures.ok

pub returns-in_err-push_stream-clause-err : goal.returns-in_err-push_stream-clause-err
returns-in_err-push_stream-clause-err c =
    let p = err_from_is_err_and c.from_residual-in_err-push_stream.result c.from_residual-in_err-push_stream.ensures.1 in
    let inside : c.loop-s.s < length c.args.feeds.now = subst (λ n. c.loop-s.s < n) (sym c.requires.count) c.loop-s-test.true in
    let fed = slice_get_read c.args.feeds.now (length c.args.feeds.now) c.loop-s.s c.index-feeds-s.result refl inside c.index-feeds-s.is in
    let here = slice_get_read c.args.streams.now (length c.args.streams.now) c.loop-s.s c.index-streams-s.result refl c.loop-s-test.true c.index-streams-s.is in
    rw (p.1, p.2) (subst (AreStopped c.args.feeds.now c.args.streams.now) (sym c.in_err-push_stream.ensures.err)
    (stops_here c.args.feeds.now c.args.streams.now c.loop-s.s c.index-feeds-s.result c.index-streams-s.result fed here c.loop-s.extended.items c.loop-s.invariant Memory
    (wanted_behind c.index-feeds-s.result c.index-streams-s.result c.in_ok-stream.ensures.ok.goes_on)))
