use Rattle.std.proofs.Common.{◌<◌, length, refl, arith}
use Rattle.std.proofs.lemmas.Option.{slice_get_within}
use Rattle.apply_core.proofs.StreamsThatStandSo.{named-more, unnamed-more}
use Rattle.apply_core.proofs.alone.run_named.Goals as goal

pub loop-i-init : goal.loop-i-init
loop-i-init c = (c.requires.fed, (λ k s feed state less at_n at_f at_s. absurd (omega (arith, less))), λ s other. refl)

pub run_stream-requires-clause-there : goal.run_stream-requires-clause-there
run_stream-requires-clause-there c = c.requires.there c.stream_at.result (c.loop-i.i, c.stream_at.ensures)

pub loop-i-preserved : goal.loop-i-preserved
loop-i-preserved c = (
  c.run_stream.ensures.fed,
  named-more c.args.feeds.now c.args.streams.now c.loop-i.board c.run_stream.new.board c.loop-i.i c.stream_at.result c.stream_at.ensures c.loop-i.invariant.1 c.run_stream.ensures.others c.in-Ok.ensures.ended,
  unnamed-more c.args.streams.now c.args.board.now c.loop-i.board c.run_stream.new.board c.loop-i.i c.stream_at.result c.stream_at.ensures c.loop-i.invariant.2 c.run_stream.ensures.others,
)

pub returns-clause-ended : goal.returns-clause-ended
returns-clause-ended c s feed state named at_f at_s =
    c.loop-i.invariant.1 named.0 s feed state
    (let within : named.0 < length c.args.streams.now = slice_get_within c.args.streams.now named.0 s named.1 in omega (arith, within, c.loop-i-test.false)) named.1 at_f at_s
