use Rattle.log_groups.specs.Transaction.{done_value}
use Rattle.log_transcribe.specs.Transcript.{source_value}
use Rattle.log_transcribe.proofs.SeenLaws.{had-on, had-refused, had-done}
use Rattle.log_transcribe.proofs.behind.changes_had.Goals as goal

pub returns-in-Err : goal.returns-in-Err
returns-in-Err c = had-refused done_value (source_value c.args.source) c.args.had.now c.args.changes.now c.loop-done.done-index _ _ c.in-Err.error c.loop-done-test.true c.in-Err.ensures c.loop-done.invariant

pub loop-done-preserved : goal.loop-done-preserved
loop-done-preserved c = had-on done_value (source_value c.args.source) c.args.had.now c.args.changes.now c.loop-done.done-index _ _ c.loop-done-test.true c.in_default.ensures c.loop-done.invariant

pub returns : goal.returns
returns c = had-done done_value (source_value c.args.source) c.args.had.now c.args.changes.now c.loop-done.done-index _ c.loop-done-test.false c.loop-done.invariant
