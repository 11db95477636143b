use Rattle.std.proofs.Common.{◌∙◌}
use Rattle.log_transcribe.specs.Transcript.{source_value}
use Rattle.log_transcribe.specs.Private.Opens.{logs_from}
use Rattle.log_transcribe.proofs.GoingLaws.{end-refused, begin-refused, said-refused}
use Rattle.log_transcribe.proofs.WholeLaws.{begun_refused, begun_same, feed_stops, logs_stop}
use Rattle.log_transcribe.proofs.further.opened_behind.Goals as goal

pub returns-in-Err : goal.returns-in-Err
returns-in-Err c = rw c.of_feed.ensures (feed_stops (source_value c.args.source) c.args.feed.now c.args.log.now c.in-Err.fault (λ others. end-refused (source_value c.args.source) c.args.feed.now (logs_from c.args.log.now others) c.in-Err.fault c.in-Err.ensures))

pub returns-in-Err-begun : goal.returns-in-Err-begun
returns-in-Err-begun c =
    logs_stop (source_value c.args.source) c.args.feed.now c.args.log.now c.in-Ok.reached c.in-Err-begun.error c.of_first.result c.in-Ok.ensures c.in-Err-begun.ensures c.of_first.ensures.error c.of_first.ensures.byte
    (λ others. begin-refused (source_value c.args.source) c.args.feed.now (logs_from c.args.log.now others) c.in-Ok.reached c.in-Err-begun.error c.in-Ok.ensures (begun_refused c.in-Ok.reached c.args.log.now others c.in-Err-begun.error c.in-Err-begun.ensures))

pub returns-in-Err-stages_of : goal.returns-in-Err-stages_of
returns-in-Err-stages_of c =
    rw c.of_feed-in-Err-stages_of.ensures
    (feed_stops (source_value c.args.source) c.args.feed.now c.args.log.now c.in-Err-stages_of.fault
    (λ others. said-refused (source_value c.args.source) c.args.feed.now (logs_from c.args.log.now others) c.in-Ok.reached c.in-Ok-begun.first c.in-Err-stages_of.fault c.in-Ok.ensures (begun_same c.in-Ok.reached c.args.log.now others ∙ c.in-Ok-begun.ensures)
    (rw c.unsaid.ensures at c.in-Err-stages_of.ensures)))

pub returns : goal.returns
returns c = record {
  reached = c.in-Ok.reached;
  end = c.in-Ok.ensures;
  canonical = rw c.intervals.ensures.value at c.intervals.ensures.canonical;
  first = c.in-Ok-begun.first;
  begins = λ others. begun_same c.in-Ok.reached c.args.log.now others ∙ c.in-Ok-begun.ensures;
  first_canonical = rw c.intervals-2.ensures.value at c.intervals-2.ensures.canonical;
  had = c.in-Ok-stages_of.had.items;
  said = rw c.unsaid.ensures at c.in-Ok-stages_of.ensures;
  is = c.in_ok-sequel.ensures;
}
