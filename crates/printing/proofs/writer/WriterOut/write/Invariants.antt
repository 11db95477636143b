use Rattle.std.proofs.Common.{◌≡◌}
use Rattle.std.specs.Io.KnownBytes.{Keeps}
use Rattle.printing.proofs.writer.WriterOut.write.Given as goal

-- nothing was taken yet
abbrev pub invariant-loop-try : goal.invariant-loop-try
invariant-loop-try g l = Keeps l.fn.self.bytes (g.W.Write.contents l.self-inside.out) × (l.self-inside.failures ≡ l.fn.self.failures)
