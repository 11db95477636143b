-- The feed that `transcribe` makes of logs, or why there is none; and how the command ends (this profile).
use Rattle.std.specs.Prelude.{◌≡◌, ◌⊎◌, ℕ, ◌+◌, List, [], ◌∷◌, ◌++◌, length, codes, decimal, map, option_map, Option, None, Some, IfSome, Result, Ok, Err, slice_get}
use Rattle.std.specs.Option.{option_map_or}
use Rattle.list_laws.specs.Outcome.{◌>>=◌}
use Rattle.filter_rule.specs.Faults as plans
use Rattle.filter_rule.specs.PlanTable.{TableValue, name_of_table}
use Rattle.filter_rule.specs.PlanValue.{PlanValue}
use Rattle.filter_rule.specs.Reading.{plans_of}
use Rattle.log_feed.specs.Table as feed
use Rattle.log_laws.specs.Source.{SourceTables}
use Rattle.log_laws.specs.declared.fault.TellFault.TheVariants.{Change}
use Rattle.log_transcribe.specs.Standing.{IsByteIn, IsByteInBehind}
use Rattle.log_transcribe.specs.Fault.{number_of, file_of}
use Rattle.log_transcribe.specs.Feed.{IsFeedOfLogs}
use Rattle.log_transcribe.specs.Files.{GaveFrom}
use Rattle.log_transcribe.specs.Streamed.{IsUnreadAt}
use Rattle.log_transcribe.specs.Transcript.{feed_of_logs}
use Rattle.log_transcribe.specs.Behind.{behind_of_logs}
use Rattle.log_transcribe.specs.Further.{IsFeedBehind}
use Rattle.log_transcribe.specs.declared.fault.BehindFault.{BehindFault}
use Rattle.log_transcribe.specs.declared.fault.BehindFault.TheVariants.{Feed, Logs}
use Rattle.source_feed.specs.declared.fault.FeedFault.{FeedFault}
use Rattle.log_transcribe.specs.declared.fault.LogsFault.{LogsFault}
use Rattle.log_transcribe.specs.declared.fault.LogsFault.TheVariants.{Tell}
use Rattle.printing.specs.Printing.{Written, IsWritten, BreaksOff}
use Rattle.vrepl_transcribe.specs.Source.{plan_of_shard, first_unplain, source_in}
use Rattle.vrepl_transcribe.specs.declared.inputs.TranscribeInputs.{TranscribeInputs}
use Rattle.vrepl_transcribe.specs.declared.transcribing.Untranscribed.{Untranscribed}
use Rattle.vrepl_transcribe.specs.declared.transcribing.Untranscribed.TheVariants as unmade
use Rattle.vrepl_transcribe.specs.declared.transcribing.TranscribeEnd.{TranscribeEnd}
use Rattle.vrepl_transcribe.specs.declared.transcribing.TranscribeEnd.TheVariants as end

-- ---- what is asked for

-- the inputs: the shard of a stream, and the schema of its tables if it is given; the feed behind which to go on, if there is
-- one; the workflow's file; the logs in order, and their names
pub record AskedValue : Type 0 where
  pub shard : List ℕ
  pub schema : Option (List ℕ)
  pub after : Option (List ℕ)
  pub workflow : List ℕ
  pub names : List (List ℕ)
  pub logs : List (List ℕ)

-- the names of the program's inputs
abbrev pub names_of : TranscribeInputs → List (List ℕ)
names_of inputs = map (λ name. name.now) inputs.names.now

-- those of the program, where the files of the logs gave these bytes
abbrev pub asked_of : TranscribeInputs → List (List ℕ) → AskedValue
asked_of inputs logs = record { shard = inputs.shard.now; schema = option_map (λ name. name.now) inputs.schema; after = option_map (λ feed. feed.items) inputs.after; workflow = inputs.workflow.items; names = names_of inputs; logs = logs }

-- ---- the feed, as a function

-- why there is no feed: the workflow isn't read; it has no stream of the shard; a table has a name that isn't plain; or what
-- is wrong with the feed that is there, or with the logs, for the feed of a source
pub data WhyNot : Type 0 where
  unread_workflow : plans.Fault → WhyNot
  no_stream : WhyNot
  unplain_name : List ℕ → WhyNot
  unread_feed : FeedFault → WhyNot
  unread_logs : SourceTables → LogsFault → WhyNot

abbrev pub of_workflow : Result (List PlanValue) plans.Fault → Result (List PlanValue) WhyNot
of_workflow (Ok plans) = Ok plans
of_workflow (Err fault) = Err (unread_workflow fault)

abbrev pub of_stream : Option PlanValue → Result PlanValue WhyNot
of_stream None = Err no_stream
of_stream (Some plan) = Ok plan

-- all names of tables are plain, or the one at this place isn't
abbrev pub of_names : List TableValue → Option ℕ → Result (Unit {0}) WhyNot
of_names tables None = Ok tt
of_names tables (Some t) = Err (unplain_name (name_of_table tables t))

abbrev pub of_logs : SourceTables → Result (List ℕ) LogsFault → Result (List ℕ) WhyNot
of_logs s (Ok feed) = Ok feed
of_logs s (Err fault) = Err (unread_logs s fault)

abbrev pub of_behind : SourceTables → Result (List ℕ) BehindFault → Result (List ℕ) WhyNot
of_behind s (Ok more) = Ok more
of_behind s (Err (Feed fault)) = Err (unread_feed fault)
of_behind s (Err (Logs fault)) = Err (unread_logs s fault)

-- the feed of the logs, or what they have behind one that is there
abbrev pub feed_from : SourceTables → Option (List ℕ) → List (List ℕ) → Result (List ℕ) WhyNot
feed_from s None logs = of_logs s (feed_of_logs s logs)
feed_from s (Some feed) logs = of_behind s (behind_of_logs s feed logs)

-- under a plan
abbrev pub feed_under : AskedValue → PlanValue → Result (List ℕ) WhyNot
feed_under a plan = of_names plan.tables (first_unplain plan.tables) >>= λ _. feed_from (source_in plan a.schema) a.after a.logs

-- and under that of the stream of the shard
abbrev pub feed_asked : AskedValue → Result (List ℕ) WhyNot
feed_asked a = of_workflow (plans_of a.workflow) >>= λ plans. of_stream (plan_of_shard plans a.shard) >>= λ plan. feed_under a plan

-- ---- the feed, as what it means

-- the feed of logs, or what they have behind one that is there
abbrev pub IsMade : SourceTables → Option (List ℕ) → List (List ℕ) → List ℕ → Type 0
IsMade s None logs feed = IsFeedOfLogs s logs feed
IsMade s (Some old) logs more = IsFeedBehind s old logs more

-- The bytes are a feed whose groups are just the transactions that the logs commit of the workflow's tables, for the stream of
-- the shard; or messages with which a feed has just those of them more that it didn't have.
pub record IsTranscribed (a : AskedValue) (feed : List ℕ) : Type 0 where
  pub plans : List PlanValue
  pub said : plans_of a.workflow ≡ Ok plans
  pub plan : PlanValue
  pub of : plan_of_shard plans a.shard ≡ Some plan
  pub is : IsMade (source_in plan a.schema) a.after a.logs feed

-- ---- the line of a refusal

-- the name of the file at fault; behind all files none is
abbrev pub file_text : List (List ℕ) → ℕ → List ℕ
file_text names file = option_map_or (λ name. codes " file " ++ name) (slice_get names file) []

-- the byte in it
abbrev pub byte_text : Option ℕ → List ℕ
byte_text None = []
byte_text (Some byte) = codes " byte " ++ decimal byte

-- the table at fault, where it is one's
abbrev pub table_text : List feed.TableValue → LogsFault → List ℕ
table_text tables (Tell file (Change fault)) = option_map_or (λ table. codes " table " ++ table.name) (slice_get tables fault.table) []
table_text tables fault = []

-- `refused`, a number, and what stands behind it, with its LF
abbrev pub line_of : ℕ → List ℕ → List ℕ
line_of number details = codes "refused " ++ decimal number ++ details ++ 10 ∷ []

abbrev pub logs_line : List (List ℕ) → List feed.TableValue → LogsFault → Option ℕ → List ℕ
logs_line names tables fault byte = line_of (number_of fault) (file_text names (file_of fault) ++ byte_text byte ++ table_text tables fault)

-- the byte of the first fault of logs, or of what they have behind a feed that is there
abbrev pub IsByteOf : SourceTables → Option (List ℕ) → List (List ℕ) → LogsFault → Option ℕ → Type 0
IsByteOf s None logs fault byte = IsByteIn s logs fault byte
IsByteOf s (Some feed) logs fault byte = IsByteInBehind s feed logs fault byte

-- The line that says why not, where it is of a table's name or of the logs. If it names a byte, the first fault of these logs
-- stands there.
abbrev pub SaysWhy : AskedValue → WhyNot → List ℕ → Type 0
SaysWhy a (unplain_name name) line = line ≡ line_of 148 (codes " table " ++ name)
SaysWhy a (unread_logs s fault) line = (byte : Option ℕ) × (line ≡ logs_line a.names s.tables fault byte) × IsByteOf s a.after a.logs fault byte
SaysWhy a why line = ⊥

-- ---- what is answered, of files that are read one at a time

-- All so many files gave bytes, and this is done with the feed of these, which is right.
pub record IsMadeOf (inputs : TranscribeInputs) (Gives : ℕ → List ℕ → Type 0) (many : ℕ) (IsDone : List ℕ → Type 0) : Type 0 where
  pub logs : List (List ℕ)
  pub gave : GaveFrom Gives 0 logs
  pub all : length logs ≡ many
  pub feed : List ℕ
  pub made : feed_asked (asked_of inputs logs) ≡ Ok feed
  pub right : IsTranscribed (asked_of inputs logs) feed
  pub done : IsDone feed

-- By the bytes that the first of so many files gave there is no feed, for this reason, whatever the others have.
pub record IsNotMade (inputs : TranscribeInputs) (Gives : ℕ → List ℕ → Type 0) (many : ℕ) (why : WhyNot) : Type 0 where
  pub logs : List (List ℕ)
  pub gave : GaveFrom Gives 0 logs
  pub is : (others : List (List ℕ)) → length logs + length others ≡ many → feed_asked (asked_of inputs (logs ++ others)) ≡ Err why

-- why there is no feed, which is the definition's reason, or that a file can't be read; unless it is want of memory
abbrev pub IsWhy : TranscribeInputs → (ℕ → List ℕ → Type 0) → ℕ → Untranscribed → Type 0
IsWhy inputs Gives many unmade.Memory = Unit {0}
IsWhy inputs Gives many unmade.Unwritten = ⊥
IsWhy inputs Gives many (unmade.Unread file) = IsUnreadAt Gives many file
IsWhy inputs Gives many (unmade.Workflow fault) = IfSome (plans.definition_fault_of fault) (λ f. IsNotMade inputs Gives many (unread_workflow f))
IsWhy inputs Gives many unmade.NoStream = IsNotMade inputs Gives many no_stream
IsWhy inputs Gives many (unmade.Feed fault) = IsNotMade inputs Gives many (unread_feed fault)
IsWhy inputs Gives many (unmade.Line line) = (why : WhyNot) × (none : IsNotMade inputs Gives many why) × SaysWhy (asked_of inputs none.logs) why line.items

-- the feed was written; or a write failed; or there is none
abbrev pub WritesAll : TranscribeInputs → (ℕ → List ℕ → Type 0) → ℕ → Result (Unit {0}) Untranscribed → Written → Written → Type 0
WritesAll inputs Gives many (Ok x) old new = IsMadeOf inputs Gives many (IsWritten old new)
WritesAll inputs Gives many (Err unmade.Unwritten) old new = (text : List ℕ) × BreaksOff old new text
WritesAll inputs Gives many (Err why) old new = IsWhy inputs Gives many why

-- this is the feed, or there is none
abbrev pub MakesAll : TranscribeInputs → (ℕ → List ℕ → Type 0) → ℕ → Result (List ℕ) Untranscribed → Type 0
MakesAll inputs Gives many (Ok feed) = IsMadeOf inputs Gives many (λ made. made ≡ feed)
MakesAll inputs Gives many (Err why) = IsWhy inputs Gives many why

-- ---- how the command ends

-- the line was printed whole, or a beginning of it and then a write failed
abbrev pub PrintsLine : TranscribeInputs → (ℕ → List ℕ → Type 0) → ℕ → Written → Written → Type 0
PrintsLine inputs Gives many old new = (why : WhyNot) × (line : List ℕ) × (none : IsNotMade inputs Gives many why) × SaysWhy (asked_of inputs none.logs) why line × (IsWritten old new line ⊎ BreaksOff old new line)

-- how it ends: the feed was printed whole; or a beginning of it, and then a write failed; or nothing was, since a line says
-- why not; or since there is another reason, which isn't told yet
abbrev pub EndsSo : TranscribeInputs → (ℕ → List ℕ → Type 0) → ℕ → TranscribeEnd → Written → Written → Written → Written → Type 0
EndsSo inputs Gives many end.Written old new err_old err_new = IsMadeOf inputs Gives many (IsWritten old new) × (err_new ≡ err_old)
EndsSo inputs Gives many end.Unwritten old new err_old err_new = IsMadeOf inputs Gives many (BreaksOff old new) × (err_new ≡ err_old)
EndsSo inputs Gives many end.Told old new err_old err_new = (new ≡ old) × PrintsLine inputs Gives many err_old err_new
EndsSo inputs Gives many (end.Refused why) old new err_old err_new = (new ≡ old) × (err_new ≡ err_old) × IsWhy inputs Gives many why
