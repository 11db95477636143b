use Rattle.vrepl_transcribe.proofs.EndLaws.{line_printed}
use Rattle.vrepl_transcribe.proofs.transcribing.transcribe.Goals as goal

pub returns-in-Err-Line : goal.returns-in-Err-Line
returns-in-Err-Line g c =
    record {
      ends = line_printed c.args.inputs (g.L.LogFiles.gives c.args.files.now) (g.L.LogFiles.many c.args.files.now) c.in-Err-Line.line.items c.print_line.result (g.W.Out.written c.args.out.now) (g.E.Out.written c.args.err.now) (g.E.Out.written c.print_line.new.err)
          (rw c.in-Err-Line.field-0-is at c.in-Err-Line.ensures) c.print_line.ensures.told (rw c.deref-in-Err-Line.ensures.value at c.print_line.ensures.line);
    }
