use Rattle.std.proofs.Common.{◌<◌, length, arith}
use Rattle.std.proofs.lemmas.Option.{slice_get_within}
use Rattle.apply_core.proofs.SoundEnds.{lowest-of, lower-ended}
use Rattle.apply_core.proofs.StreamsThatStandSo.{ended-more}
use Rattle.apply_core.proofs.alone.run_all.Goals as goal

pub loop-s-init : goal.loop-s-init
loop-s-init c = (c.requires, λ t feed state less at_f at_s. absurd (omega (arith, less)))

pub loop-s-preserved : goal.loop-s-preserved
loop-s-preserved c =
    (c.run_stream.ensures.fed, ended-more c.args.feeds.now c.loop-s.board c.run_stream.new.board c.loop-s.s c.loop-s.invariant.1 c.run_stream.ensures.others c.in-Ok.ensures.ended)

pub returns-clause-ended : goal.returns-clause-ended
returns-clause-ended c s feed state at_f at_s =
    c.loop-s.invariant.1 s feed state (let within : s < length c.args.feeds.now = slice_get_within c.args.feeds.now s feed at_f in omega (arith, within, c.loop-s-test.false)) at_f at_s

pub returns-in-Err-clause-lowest : goal.returns-in-Err-clause-lowest
returns-in-Err-clause-lowest c =
    lowest-of c.args.feeds.now c.loop-s.board c.loop-s.s c.loop-s.invariant.0 c.loop-s.invariant.1 c.in-Err.refusal c.in-Err.ensures.of

pub returns-in-Err-clause-lower : goal.returns-in-Err-clause-lower
returns-in-Err-clause-lower c =
    lower-ended c.args.feeds.now c.loop-s.board c.run_stream.new.board c.loop-s.s c.loop-s.invariant.1 c.run_stream.ensures.others c.in-Err.refusal c.in-Err.ensures.of
