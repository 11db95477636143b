use Rattle.std.specs.Io.KnownBytes.{Keeps}
use Rattle.live_requests.proofs.lines.next_byte.Given as goal

-- nothing is taken off yet
abbrev pub invariant-loop-try : goal.invariant-loop-try
invariant-loop-try g l = Keeps (g.I.Read.remaining l.fn.input) (g.I.Read.remaining l.input)
