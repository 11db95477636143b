use Rattle.std.proofs.Common.{◌≡◌, List, ℕ, length, map, subst, sym, Err, Bor}
use Rattle.std.proofs.lemmas.List.{length-map}
use Rattle.log_laws.specs.Source.{IsSource}
use Rattle.log_transcribe.specs.Behind.{behind_of_logs}
use Rattle.log_transcribe.specs.Further.{IsFeedBehind}
use Rattle.log_transcribe.specs.Standing.{IsByteInBehind}
use Rattle.log_transcribe.specs.Streamed.{EndsSo}
use Rattle.log_transcribe.specs.Transcript.{source_value}
use Rattle.log_transcribe.proofs.SpoolLaws.{ItemsOf, behind_ended, feed_is_kept}
use Rattle.log_transcribe.proofs.further.transcribe_behind.Goals as goal

abbrev bytes_of : List (Bor (List ℕ)) → List (List ℕ)
bytes_of logs = map (λ log. log.now) logs

many_of : (logs : List (Bor (List ℕ))) → length logs ≡ length (bytes_of logs)
many_of logs = sym (length-map logs (λ log. log.now))

pub returns-in-Ok-clause-exact : goal.returns-in-Ok-clause-exact
returns-in-Ok-clause-exact c =
    (feed_is_kept (λ logs. behind_of_logs (source_value c.args.source) c.args.feed.now logs) (λ logs more. IsSource (source_value c.args.source) → IsFeedBehind (source_value c.args.source) c.args.feed.now logs more) (bytes_of c.args.logs.now) (length c.args.logs.now)
    c.new-spool.result c.transcribe_behind_to.new.out c.into_bytes.result.items (many_of c.args.logs.now) c.new-spool.ensures c.into_bytes.ensures (rw c.in_ok-feed.ensures at c.in-Ok.ensures)).0

pub returns-in-Ok-clause-right : goal.returns-in-Ok-clause-right
returns-in-Ok-clause-right c =
    (feed_is_kept (λ logs. behind_of_logs (source_value c.args.source) c.args.feed.now logs) (λ logs more. IsSource (source_value c.args.source) → IsFeedBehind (source_value c.args.source) c.args.feed.now logs more) (bytes_of c.args.logs.now) (length c.args.logs.now)
    c.new-spool.result c.transcribe_behind_to.new.out c.into_bytes.result.items (many_of c.args.logs.now) c.new-spool.ensures c.into_bytes.ensures (rw c.in_ok-feed.ensures at c.in-Ok.ensures)).1

pub returns-in-Err-clause-exact : goal.returns-in-Err-clause-exact
returns-in-Err-clause-exact c =
    rw c.of_stream.ensures
    (behind_ended (λ logs. behind_of_logs (source_value c.args.source) c.args.feed.now logs) (λ logs fault byte. IsByteInBehind (source_value c.args.source) c.args.feed.now logs fault byte) (λ logs more. IsSource (source_value c.args.source) → IsFeedBehind (source_value c.args.source) c.args.feed.now logs more) (bytes_of c.args.logs.now) (length c.args.logs.now) c.in-Err.error
    c.new-spool.result c.transcribe_behind_to.new.out (many_of c.args.logs.now)
    (subst (λ (feed : List ℕ). EndsSo (λ logs. behind_of_logs (source_value c.args.source) feed logs) (λ logs fault byte. IsByteInBehind (source_value c.args.source) feed logs fault byte) (λ logs more. IsSource (source_value c.args.source) → IsFeedBehind (source_value c.args.source) feed logs more) (ItemsOf (bytes_of c.args.logs.now)) (length c.args.logs.now) (Err c.in-Err.error) c.new-spool.result c.transcribe_behind_to.new.out)
    c.in_ok-feed.ensures c.in-Err.ensures))
