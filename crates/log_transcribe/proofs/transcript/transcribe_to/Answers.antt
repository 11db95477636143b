use Rattle.std.proofs.Common.{arith}
use Rattle.log_transcribe.specs.Transcript.{source_value}
use Rattle.log_transcribe.proofs.WholeLaws.{feed_written, feed_too_long, feed_stopped}
use Rattle.log_transcribe.proofs.transcript.transcribe_to.Goals as goal

pub returns-in-Err : goal.returns-in-Err
returns-in-Err g c = feed_stopped (source_value c.args.source) (g.L.LogFiles.gives c.args.files.now) (g.L.LogFiles.many c.args.files.now) c.in-Err.error (g.W.Out.written c.args.out.now) (g.W.Out.written c.told_of.new.out) c.in-Err.ensures

pub returns-then-size-lt-LIMIT : goal.returns-then-size-lt-LIMIT
returns-then-size-lt-LIMIT g c =
    feed_written (source_value c.args.source) (g.L.LogFiles.gives c.args.files.now) (g.L.LogFiles.many c.args.files.now) (record {
      told = c.transactions_are_told.ensures;
      reach = c.transactions_reach.ensures;
      ends = c.ends_are_told.ensures;
      rise = c.courses_rise.ensures;
      read = c.messages_are_read.ensures;
      has = c.feeds_have_their_groups.ensures;
      courses = record { spelled = c.courses_are_read.ensures.spelled; only = c.courses_are_read.ensures.only };
    }) c.in-Ok.size (g.W.Out.written c.args.out.now) (g.W.Out.written c.told_of.new.out) c.in-Ok.ensures (omega (arith, c.if-size-lt-LIMIT.true))

pub returns : goal.returns
returns g c =
    rw c.count.ensures
    (feed_too_long (source_value c.args.source) (g.L.LogFiles.gives c.args.files.now) (g.L.LogFiles.many c.args.files.now) c.in-Ok.size (g.W.Out.written c.args.out.now) (g.W.Out.written c.told_of.new.out) c.in-Ok.ensures (omega (arith, c.if-size-lt-LIMIT.false)))
