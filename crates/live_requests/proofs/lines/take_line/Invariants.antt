use Rattle.live_requests.proofs.InputLaws.{AreOff}
use Rattle.live_requests.proofs.lines.take_line.Given as goal

-- the bytes that were taken off so far
abbrev pub invariant-loop-count : goal.invariant-loop-count
invariant-loop-count g l = AreOff (g.I.Read.remaining l.fn.input) (g.I.Read.remaining l.input) l.count l.line.items
