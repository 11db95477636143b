use Rattle.std.proofs.Common.{◌<◌, length, refl, sym, subst}
use Rattle.std.proofs.lemmas.Option.{slice_get_read}
use Rattle.std.proofs.lemmas.Result.{err_from_is_err_and}
use Rattle.checkpoint_laws.specs.Refused.{IsRefusedSaved}
use Rattle.apply_core.proofs.ResumeLaws.{said_of, said_long, stops_at, stream_more}
use Rattle.apply_core.proofs.resumed_streams.streams_at.Goals as goal

pub stream_at-requires-clause-sound : goal.stream_at-requires-clause-sound
stream_at-requires-clause-sound c =
    let inside : c.loop-s.s < length c.args.saved.now = subst (λ n. c.loop-s.s < n) (sym (said_long c.args.feeds.now c.args.saved.now c.requires.said)) c.loop-s-test.true in
    let here = slice_get_read c.args.feeds.now (length c.args.feeds.now) c.loop-s.s c.index-feeds-s.result refl c.loop-s-test.true c.index-feeds-s.is in
    let there = slice_get_read c.args.saved.now (length c.args.saved.now) c.loop-s.s c.index-saved-s.result refl inside c.index-saved-s.is in
    said_of c.args.feeds.now c.args.saved.now c.requires.said c.loop-s.s c.index-feeds-s.result c.index-saved-s.result here there

pub stream_at-requires-clause-known : goal.stream_at-requires-clause-known
stream_at-requires-clause-known c =
    let inside : c.loop-s.s < length c.args.saved.now = subst (λ n. c.loop-s.s < n) (sym (said_long c.args.feeds.now c.args.saved.now c.requires.said)) c.loop-s-test.true in
    let here = slice_get_read c.args.feeds.now (length c.args.feeds.now) c.loop-s.s c.index-feeds-s.result refl c.loop-s-test.true c.index-feeds-s.is in
    let there = slice_get_read c.args.saved.now (length c.args.saved.now) c.loop-s.s c.index-saved-s.result refl inside c.index-saved-s.is in
    c.requires.known c.loop-s.s c.index-feeds-s.result c.index-saved-s.result here there

pub returns-in_err-stream-clause-err : goal.returns-in_err-stream-clause-err
returns-in_err-stream-clause-err c =
    let p = err_from_is_err_and c.from_residual.result c.from_residual.ensures.1 in
    let inside : c.loop-s.s < length c.args.saved.now = subst (λ n. c.loop-s.s < n) (sym (said_long c.args.feeds.now c.args.saved.now c.requires.said)) c.loop-s-test.true in
    let here = slice_get_read c.args.feeds.now (length c.args.feeds.now) c.loop-s.s c.index-feeds-s.result refl c.loop-s-test.true c.index-feeds-s.is in
    let there = slice_get_read c.args.saved.now (length c.args.saved.now) c.loop-s.s c.index-saved-s.result refl inside c.index-saved-s.is in
    rw (p.1, p.2) (stops_at c.args.feeds.now c.args.saved.now c.loop-s.s c.loop-s.streams.items c.index-feeds-s.result c.index-saved-s.result c.requires.whole c.requires.known here there c.loop-s.invariant c.in_err-stream.field-0.0
    c.in_err-stream.ensures.err)

pub loop-s-preserved : goal.loop-s-preserved
loop-s-preserved c =
    let inside : c.loop-s.s < length c.args.saved.now = subst (λ n. c.loop-s.s < n) (sym (said_long c.args.feeds.now c.args.saved.now c.requires.said)) c.loop-s-test.true in
    let here = slice_get_read c.args.feeds.now (length c.args.feeds.now) c.loop-s.s c.index-feeds-s.result refl c.loop-s-test.true c.index-feeds-s.is in
    let there = slice_get_read c.args.saved.now (length c.args.saved.now) c.loop-s.s c.index-saved-s.result refl inside c.index-saved-s.is in
    stream_more c.args.feeds.now c.args.saved.now c.loop-s.s c.loop-s.streams.items c.push_stream.new.streams.items c.index-feeds-s.result c.index-saved-s.result c.in_ok-stream.stream here there c.in_ok-stream.ensures.ok c.in_ok-push_stream.ensures.ok
    c.loop-s.invariant

pub returns-in_err-push_stream-clause-err : goal.returns-in_err-push_stream-clause-err
returns-in_err-push_stream-clause-err c =
    let p = err_from_is_err_and c.from_residual-in_err-push_stream.result c.from_residual-in_err-push_stream.ensures.1 in
    rw (p.1, p.2) (subst (IsRefusedSaved c.args.feeds.now c.args.saved.now) (sym c.in_err-push_stream.ensures.err) c.requires.known)
