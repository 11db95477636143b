-- What the steps of `transcribe` answer, put together.
use Rattle.std.proofs.Common.{◌≡◌, ◌⊎◌, ℕ, List, [], ◌++◌, option_map, Option, Some, None, Result, Ok, Err, refl, sym, ap, subst, ◌∙◌}
use Rattle.filter_rule.specs.Faults as plans
use Rattle.filter_rule.specs.declared.fault.PlanFault.{PlanFault}
use Rattle.filter_rule.specs.declared.fault.PlanFault.TheVariants as plan_fault
use Rattle.filter_rule.specs.PlanTable.{name_of_table}
use Rattle.filter_rule.specs.PlanValue.{PlanValue}
use Rattle.filter_rule.specs.Reading.{plans_of}
use Rattle.log_laws.specs.Source.{SourceTables, IsSource}
use Rattle.log_transcribe.specs.declared.fault.BehindFault.{BehindFault}
use Rattle.log_transcribe.specs.declared.fault.BehindFault.TheVariants as behind_fault
use Rattle.log_transcribe.specs.declared.fault.LogsFault.{LogsFault}
use Rattle.log_transcribe.specs.declared.fault.StreamError.{StreamError}
use Rattle.log_transcribe.specs.declared.fault.StreamError.TheVariants as stop
use Rattle.log_transcribe.specs.Fault.{of_logs}
use Rattle.log_transcribe.specs.Streamed as stream
use Rattle.log_transcribe.specs.Transcript.{feed_of_logs}
use Rattle.printing.specs.Printing.{Written, IsWritten, BreaksOff}
use Rattle.vrepl_transcribe.specs.Source.{first_unplain, plan_of_shard, source_in}
use Rattle.vrepl_transcribe.specs.Transcribed as why
use Rattle.vrepl_transcribe.specs.Transcribed.{AskedValue, WhyNot, unread_workflow, no_stream, unplain_name, unread_feed, unread_logs, of_behind, feed_from, feed_under, feed_asked, asked_of, names_of, IsByteOf, SaysWhy, IsMade, IsMadeOf, IsNotMade, IsWhy, WritesAll, MakesAll, EndsSo}
use Rattle.vrepl_transcribe.specs.Private.Steps.{AnswersNames, EndsUnder, IsNotUnder, IsWhyOf, PrintsAll, made_from}
use Rattle.log_transcribe.proofs.SpoolLaws.{spooled}
use Rattle.vrepl_transcribe.specs.declared.transcribing.TranscribeEnd.{TranscribeEnd}
use Rattle.vrepl_transcribe.specs.declared.transcribing.TranscribeEnd.TheVariants as end
use Rattle.vrepl_transcribe.specs.declared.inputs.TranscribeInputs.{TranscribeInputs}
use Rattle.vrepl_transcribe.specs.declared.transcribing.Untranscribed.{Untranscribed}
use Rattle.vrepl_transcribe.specs.declared.transcribing.Untranscribed.TheVariants.{Memory, Unwritten, Unread, Workflow, NoStream, Feed, Line}

under_unplain : (a : AskedValue) (plan : PlanValue) (t : ℕ) → first_unplain plan.tables ≡ Some t → feed_under a plan ≡ Err (unplain_name (name_of_table plan.tables t))
under_unplain a plan t is = rw is refl

under_logs : (a : AskedValue) (plan : PlanValue) (r : Result (List ℕ) WhyNot) → first_unplain plan.tables ≡ None → feed_from (source_in plan a.schema) a.after a.logs ≡ r → feed_under a plan ≡ r
under_logs a plan r plain is = rw (plain, is) refl

-- what is wrong with either, as the command's reason
from_made : (s : SourceTables) (after : Option (List ℕ)) (logs : List (List ℕ)) → feed_from s after logs ≡ of_behind s (made_from s after logs)
from_made s None logs = by (feed_of_logs s logs)
  where
    by : (r : Result (List ℕ) LogsFault) → why.of_logs s r ≡ of_behind s (of_logs r)
    by (Ok feed) = refl
    by (Err fault) = refl
from_made s (Some feed) logs = refl

module _ (inputs : TranscribeInputs) (plan : PlanValue) (Gives : ℕ → List ℕ → Type 0) (many : ℕ) where
  abbrev after : Option (List ℕ)
  after = option_map (λ feed. feed.items) inputs.after

  abbrev s : SourceTables
  s = source_in plan (option_map (λ name. name.now) inputs.schema)

  abbrev Streams : Result (Unit {0}) StreamError → Written → Written → Type 0
  Streams result old new = stream.EndsSo (λ logs. made_from s after logs) (λ logs fault byte. IsByteOf s after logs fault byte) (λ logs feed. IsSource s → IsMade s after logs feed) Gives many result old new

  so : (logs : List (List ℕ)) (r : Result (List ℕ) BehindFault) → first_unplain plan.tables ≡ None → made_from s after logs ≡ r → feed_under (asked_of inputs logs) plan ≡ of_behind s r
  so logs r plain is = under_logs (asked_of inputs logs) plan (of_behind s r) plain (from_made s after logs ∙ ap (of_behind s) is)

  -- a line of a name
  pub names_under : (why : Untranscribed) (old new : Written) → AnswersNames plan.tables (Err why) → EndsUnder inputs plan Gives many (Err why) old new
  names_under Memory old new is = tt
  names_under Unwritten old new is = absurd is
  names_under (Unread file) old new is = absurd is
  names_under (Workflow fault) old new is = absurd is
  names_under NoStream old new is = absurd is
  names_under (Feed fault) old new is = absurd is
  names_under (Line line) old new is = (
    unplain_name (name_of_table plan.tables is.0),
    record { logs = []; gave = tt; is = λ others both. under_unplain (asked_of inputs others) plan is.0 is.1 },
    is.2,
  )

  -- the feed
  pub written_under : (old new : Written) → first_unplain plan.tables ≡ None → IsSource s → Streams (Ok tt) old new → EndsUnder inputs plan Gives many (Ok tt) old new
  written_under old new plain right w = record {
    logs = w.logs;
    gave = w.gave;
    all = w.all;
    feed = w.feed;
    made = so w.logs (Ok w.feed) plain w.is;
    right = w.right right;
    written = w.written;
  }

  -- or why there is none
  pub why_under : (error : StreamError) (why : Untranscribed) (old new : Written) → first_unplain plan.tables ≡ None → Streams (Err error) old new → IsWhyOf (names_of inputs) s.tables error why → EndsUnder inputs plan Gives many (Err why) old new
  why_under stop.Memory why old new plain w is = rw is tt
  why_under stop.Unwritten why old new plain w is = rw is w
  why_under (stop.Unread file) why old new plain w is = rw is w
  why_under (stop.Feed fault) why old new plain w is = rw is (record { logs = w.logs; gave = w.gave; is = λ others both. so (w.logs ++ others) (Err (behind_fault.Feed fault)) plain (w.is others both) })
  why_under (stop.Fault fault byte) Memory old new plain w is = tt
  why_under (stop.Fault fault byte) Unwritten old new plain w is = absurd is
  why_under (stop.Fault fault byte) (Unread file) old new plain w is = absurd is
  why_under (stop.Fault fault byte) (Workflow other) old new plain w is = absurd is
  why_under (stop.Fault fault byte) NoStream old new plain w is = absurd is
  why_under (stop.Fault fault byte) (Feed other) old new plain w is = absurd is
  why_under (stop.Fault fault byte) (Line line) old new plain w is = (
    unread_logs s fault,
    record { logs = w.refused.logs; gave = w.refused.gave; is = λ others both. so (w.refused.logs ++ others) (Err (behind_fault.Logs fault)) plain (w.refused.is others both) },
    (byte, is, w.there),
  )

  -- the same of a source that is this one
  abbrev StreamsOf : SourceTables → Result (Unit {0}) StreamError → Written → Written → Type 0
  StreamsOf x result old new = stream.EndsSo (λ logs. made_from x after logs) (λ logs fault byte. IsByteOf x after logs fault byte) (λ logs feed. IsSource x → IsMade x after logs feed) Gives many result old new

  pub written_from : (x : SourceTables) (old new : Written) → x ≡ s → first_unplain plan.tables ≡ None → IsSource s → StreamsOf x (Ok tt) old new → EndsUnder inputs plan Gives many (Ok tt) old new
  written_from x old new same plain right w = written_under old new plain right (subst (λ (x : SourceTables). StreamsOf x (Ok tt) old new) same w)

  pub why_from : (x : SourceTables) (error : StreamError) (why : Untranscribed) (old new : Written) → x ≡ s → first_unplain plan.tables ≡ None → StreamsOf x (Err error) old new → IsWhyOf (names_of inputs) x.tables error why → EndsUnder inputs plan Gives many (Err why) old new
  why_from x error why old new same plain w is =
      why_under error why old new plain (subst (λ (x : SourceTables). StreamsOf x (Err error) old new) same w) (subst (λ (x : SourceTables). IsWhyOf (names_of inputs) x.tables error why) same is)

-- ---- the whole

module _ (inputs : TranscribeInputs) (Gives : ℕ → List ℕ → Type 0) (many : ℕ) where
  under_plan : (logs : List (List ℕ)) (all : List PlanValue) (plan : PlanValue) → plans_of inputs.workflow.items ≡ Ok all → plan_of_shard all inputs.shard.now ≡ Some plan → feed_asked (asked_of inputs logs) ≡ feed_under (asked_of inputs logs) plan
  under_plan logs all plan read of = rw (read, of) refl

  not_read : (fault : plans.Fault) → plans_of inputs.workflow.items ≡ Err fault → IsNotMade inputs Gives many (unread_workflow fault)
  not_read fault e = record { logs = []; gave = tt; is = λ others both. rw e refl }

  pub workflow_fails : (fault : PlanFault) → plans.Fails fault (plans_of inputs.workflow.items) → IsWhy inputs Gives many (Workflow fault)
  workflow_fails plan_fault.Memory e = tt
  workflow_fails plan_fault.Json e = not_read _ e
  workflow_fails plan_fault.Shape e = not_read _ e
  workflow_fails plan_fault.Limit e = not_read _ e
  workflow_fails (plan_fault.NoSuchColumn table column) e = not_read _ e
  workflow_fails (plan_fault.KeyType table column) e = not_read _ e
  workflow_fails (plan_fault.BadRule stream rule) e = not_read _ e
  workflow_fails (plan_fault.ColumnsDiffer table) e = not_read _ e

  pub stream_stops : (all : List PlanValue) → plans_of inputs.workflow.items ≡ Ok all → plan_of_shard all inputs.shard.now ≡ None → IsNotMade inputs Gives many no_stream
  stream_stops all read of = record { logs = []; gave = tt; is = λ others both. rw (read, of) refl }

  module _ (all : List PlanValue) (plan : PlanValue) (read : plans_of inputs.workflow.items ≡ Ok all) (of : plan_of_shard all inputs.shard.now ≡ Some plan) where
    not_made : (why : WhyNot) → IsNotUnder inputs plan Gives many why → IsNotMade inputs Gives many why
    not_made why n = record { logs = n.logs; gave = n.gave; is = λ others both. under_plan (n.logs ++ others) all plan read of ∙ n.is others both }

    pub under_asked : (result : Result (Unit {0}) Untranscribed) (old new : Written) → EndsUnder inputs plan Gives many result old new → WritesAll inputs Gives many result old new
    under_asked (Ok x) old new w = record {
      logs = w.logs;
      gave = w.gave;
      all = w.all;
      feed = w.feed;
      made = under_plan w.logs all plan read of ∙ w.made;
      right = record { plans = all; said = read; plan = plan; of = of; is = w.right };
      done = w.written;
    }
    under_asked (Err Memory) old new w = tt
    under_asked (Err Unwritten) old new w = w
    under_asked (Err (Unread file)) old new w = w
    under_asked (Err (Workflow fault)) old new w = absurd w
    under_asked (Err NoStream) old new w = absurd w
    under_asked (Err (Feed fault)) old new w = not_made (unread_feed fault) w
    under_asked (Err (Line line)) old new w = (w.0, record { logs = w.1.logs; gave = w.1.gave; is = λ others both. under_plan (w.1.logs ++ others) all plan read of ∙ w.1.is others both }, w.2)

  -- what is written to a writer that keeps it
  pub made_of : (bytes : List ℕ) (old new : Written) → old ≡ record { bytes = Some []; failures = 0 } → new.bytes ≡ Some bytes → WritesAll inputs Gives many (Ok tt) old new → MakesAll inputs Gives many (Ok bytes)
  made_of bytes old new fresh kept w = record { logs = w.logs; gave = w.gave; all = w.all; feed = w.feed; made = w.made; right = w.right; done = spooled old new w.feed bytes fresh kept w.done }

  pub unmade_of : (why : Untranscribed) (old new : Written) → (why ≡ Unwritten → ⊥) → WritesAll inputs Gives many (Err why) old new → MakesAll inputs Gives many (Err why)
  unmade_of Unwritten old new other w = absurd (other refl)
  unmade_of Memory old new other w = tt
  unmade_of (Unread file) old new other w = w
  unmade_of (Workflow fault) old new other w = w
  unmade_of NoStream old new other w = w
  unmade_of (Feed fault) old new other w = w
  unmade_of (Line line) old new other w = w

  -- ---- how it is printed

  done_so : (IsDone : List ℕ → Type 0) (feed : List ℕ) → IsDone feed → MakesAll inputs Gives many (Ok feed) → IsMadeOf inputs Gives many IsDone
  done_so IsDone feed done w = record { logs = w.logs; gave = w.gave; all = w.all; feed = w.feed; made = w.made; right = w.right; done = subst IsDone (sym w.done) done }

  pub feed_printed : (feed : List ℕ) (ended : TranscribeEnd) (old new err : Written) → MakesAll inputs Gives many (Ok feed) → PrintsAll feed ended old new → EndsSo inputs Gives many ended old new err err
  feed_printed feed end.Written old new err w p = (done_so (IsWritten old new) feed p w, refl)
  feed_printed feed end.Unwritten old new err w p = (done_so (BreaksOff old new) feed p w, refl)
  feed_printed feed end.Told old new err w p = absurd p
  feed_printed feed (end.Refused why) old new err w p = absurd p

  -- its line
  pub line_printed : (line : List ℕ) (ended : TranscribeEnd) (out old new : Written) → (why : WhyNot) × (none : IsNotMade inputs Gives many why) × SaysWhy (asked_of inputs none.logs) why line → ended ≡ end.Told → IsWritten old new line ⊎ BreaksOff old new line → EndsSo inputs Gives many ended out out old new
  line_printed line ended out old new w told printed = rw told (refl, (w.0, line, w.1, w.2, printed))
