use Rattle.std.proofs.Common.{◌≡◌, List, ℕ, length, map, sym, Bor}
use Rattle.std.proofs.lemmas.List.{length-map}
use Rattle.log_laws.specs.Source.{IsSource}
use Rattle.log_transcribe.specs.Fault.{of_logs}
use Rattle.log_transcribe.specs.Feed.{IsFeedOfLogs}
use Rattle.log_transcribe.specs.Standing.{IsByteIn}
use Rattle.log_transcribe.specs.Transcript.{source_value, feed_of_logs}
use Rattle.log_transcribe.proofs.SpoolLaws.{feed_is_kept, logs_ended, logs_given}
use Rattle.log_transcribe.proofs.transcript.transcribe.Goals as goal

abbrev bytes_of : List (Bor (List ℕ)) → List (List ℕ)
bytes_of logs = map (λ log. log.now) logs

many_of : (logs : List (Bor (List ℕ))) → length logs ≡ length (bytes_of logs)
many_of logs = sym (length-map logs (λ log. log.now))

pub returns-in-Ok-clause-exact : goal.returns-in-Ok-clause-exact
returns-in-Ok-clause-exact c =
    logs_given (feed_of_logs (source_value c.args.source) (bytes_of c.args.logs.now)) c.into_bytes.result.items
    (feed_is_kept (λ logs. of_logs (feed_of_logs (source_value c.args.source) logs)) (λ logs feed. IsSource (source_value c.args.source) → IsFeedOfLogs (source_value c.args.source) logs feed) (bytes_of c.args.logs.now) (length c.args.logs.now)
    c.new-spool.result c.transcribe_to.new.out c.into_bytes.result.items (many_of c.args.logs.now) c.new-spool.ensures c.into_bytes.ensures c.in-Ok.ensures).0

pub returns-in-Ok-clause-right : goal.returns-in-Ok-clause-right
returns-in-Ok-clause-right c =
    (feed_is_kept (λ logs. of_logs (feed_of_logs (source_value c.args.source) logs)) (λ logs feed. IsSource (source_value c.args.source) → IsFeedOfLogs (source_value c.args.source) logs feed) (bytes_of c.args.logs.now) (length c.args.logs.now)
    c.new-spool.result c.transcribe_to.new.out c.into_bytes.result.items (many_of c.args.logs.now) c.new-spool.ensures c.into_bytes.ensures c.in-Ok.ensures).1

pub returns-in-Err-clause-exact : goal.returns-in-Err-clause-exact
returns-in-Err-clause-exact c =
    rw c.of_stream.ensures
    (logs_ended (source_value c.args.source) (λ logs fault byte. IsByteIn (source_value c.args.source) logs fault byte) (λ logs feed. IsSource (source_value c.args.source) → IsFeedOfLogs (source_value c.args.source) logs feed) (bytes_of c.args.logs.now) (length c.args.logs.now) c.in-Err.error
    c.new-spool.result c.transcribe_to.new.out (many_of c.args.logs.now) c.in-Err.ensures)
