use Rattle.apply_core.proofs.ResumeLaws.{AreFirstResumed}
use Rattle.apply_core.proofs.resumed_streams.streams_at.Given as goal

-- the streams so far stand where the checkpoint says
abbrev pub invariant-loop-s : goal.invariant-loop-s
invariant-loop-s l = AreFirstResumed l.feeds l.saved l.s l.streams.items
