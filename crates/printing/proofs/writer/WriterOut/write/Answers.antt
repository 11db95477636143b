use Rattle.std.proofs.Common.{rules}
use Rattle.printing.proofs.writer.WriterOut.write.Goals as goal

pub returns-in-Ok : goal.returns-in-Ok
returns-in-Ok c o = record {
  within = search rules;
  some = search rules;
  written = record { appended = search rules; sound = o.loop-try.invariant.1 };
}
