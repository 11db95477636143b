-- What the steps of `transcribe` answer.
use Rattle.std.specs.Prelude.{◌≡◌, ℕ, ◌+◌, Bool, List, ◌++◌, length, codes, Option, None, Some, Result, Ok, Err}
use Rattle.filter_rule.specs.PlanTable.{TableValue, name_of_table}
use Rattle.filter_rule.specs.PlanValue.{PlanValue}
use Rattle.log_feed.specs.Table as feed
use Rattle.log_laws.specs.Source.{SourceTables}
use Rattle.log_transcribe.specs.declared.fault.LogsFault.{LogsFault}
use Rattle.log_transcribe.specs.declared.fault.BehindFault.{BehindFault}
use Rattle.log_transcribe.specs.declared.fault.StreamError.{StreamError}
use Rattle.log_transcribe.specs.declared.fault.StreamError.TheVariants as stop
use Rattle.log_transcribe.specs.Behind.{behind_of_logs}
use Rattle.log_transcribe.specs.Fault.{of_logs}
use Rattle.log_transcribe.specs.Files.{GaveFrom}
use Rattle.log_transcribe.specs.Streamed.{IsUnreadAt}
use Rattle.log_transcribe.specs.Transcript.{feed_of_logs}
use Rattle.printing.specs.Printing.{Written, IsWritten, BreaksOff}
use Rattle.vrepl_transcribe.specs.Source.{first_unplain, source_in}
use Rattle.vrepl_transcribe.specs.Transcribed.{WhyNot, unread_feed, SaysWhy, IsMade, asked_of, feed_under, line_of, logs_line}
use Rattle.vrepl_transcribe.specs.declared.inputs.TranscribeInputs.{TranscribeInputs}
use Rattle.vrepl_transcribe.specs.declared.transcribing.Untranscribed.{Untranscribed}
use Rattle.vrepl_transcribe.specs.declared.transcribing.Untranscribed.TheVariants.{Memory, Unwritten, Unread, Feed, Line}
use Rattle.vrepl_transcribe.specs.declared.transcribing.TranscribeEnd.{TranscribeEnd}
use Rattle.vrepl_transcribe.specs.declared.transcribing.TranscribeEnd.TheVariants as end
use Rattle.std.specs.Arc.{arc_value}
use Rattle.std.specs.Str.{bytes_eq}
use Rattle.std.specs.declared.sync.Arc.{Arc}
use Rattle.std.specs.declared.alloc.Global.{Global}

-- a plan, as it is shared, is of the stream of a shard
abbrev pub is_of_shard : List ℕ → Arc PlanValue Global → Bool
is_of_shard shard plan = bytes_eq (arc_value plan).shard shard

-- all names of tables are plain, or the line is of the first that isn't
abbrev pub AnswersNames : List TableValue → Result (Unit {0}) Untranscribed → Type 0
AnswersNames tables (Ok x) = first_unplain tables ≡ None
AnswersNames tables (Err Memory) = Unit {0}
AnswersNames tables (Err (Line line)) = (t : ℕ) × (first_unplain tables ≡ Some t) × (line.items ≡ line_of 148 (codes " table " ++ name_of_table tables t))
AnswersNames tables (Err why) = ⊥

-- the feed of logs, or what they have behind one that is there, with what is wrong with either
abbrev pub made_from : SourceTables → Option (List ℕ) → List (List ℕ) → Result (List ℕ) BehindFault
made_from s None logs = of_logs (feed_of_logs s logs)
made_from s (Some feed) logs = behind_of_logs s feed logs

-- the line is of a fault with its byte, unless memory was wanting
abbrev pub IsLineOf : List (List ℕ) → List feed.TableValue → LogsFault → Option ℕ → Untranscribed → Type 0
IsLineOf names tables fault byte Memory = Unit {0}
IsLineOf names tables fault byte (Line line) = line.items ≡ logs_line names tables fault byte
IsLineOf names tables fault byte why = ⊥

-- the same of any error
abbrev pub IsWhyOf : List (List ℕ) → List feed.TableValue → StreamError → Untranscribed → Type 0
IsWhyOf names tables stop.Memory why = why ≡ Memory
IsWhyOf names tables stop.Unwritten why = why ≡ Unwritten
IsWhyOf names tables (stop.Unread file) why = why ≡ Unread file
IsWhyOf names tables (stop.Feed fault) why = why ≡ Feed fault
IsWhyOf names tables (stop.Fault fault byte) why = IsLineOf names tables fault byte why

-- ---- under a plan

-- all files gave bytes, and the feed of these was written
pub record IsWrittenUnder (inputs : TranscribeInputs) (plan : PlanValue) (Gives : ℕ → List ℕ → Type 0) (many : ℕ) (old new : Written) : Type 0 where
  pub logs : List (List ℕ)
  pub gave : GaveFrom Gives 0 logs
  pub all : length logs ≡ many
  pub feed : List ℕ
  pub made : feed_under (asked_of inputs logs) plan ≡ Ok feed
  pub right : IsMade (source_in plan (asked_of inputs logs).schema) (asked_of inputs logs).after logs feed
  pub written : IsWritten old new feed

-- there is none for this reason
pub record IsNotUnder (inputs : TranscribeInputs) (plan : PlanValue) (Gives : ℕ → List ℕ → Type 0) (many : ℕ) (why : WhyNot) : Type 0 where
  pub logs : List (List ℕ)
  pub gave : GaveFrom Gives 0 logs
  pub is : (others : List (List ℕ)) → length logs + length others ≡ many → feed_under (asked_of inputs (logs ++ others)) plan ≡ Err why

abbrev pub EndsUnder : TranscribeInputs → PlanValue → (ℕ → List ℕ → Type 0) → ℕ → Result (Unit {0}) Untranscribed → Written → Written → Type 0
EndsUnder inputs plan Gives many (Ok x) old new = IsWrittenUnder inputs plan Gives many old new
EndsUnder inputs plan Gives many (Err Memory) old new = Unit {0}
EndsUnder inputs plan Gives many (Err Unwritten) old new = (text : List ℕ) × BreaksOff old new text
EndsUnder inputs plan Gives many (Err (Unread file)) old new = IsUnreadAt Gives many file
EndsUnder inputs plan Gives many (Err (Feed fault)) old new = IsNotUnder inputs plan Gives many (unread_feed fault)
EndsUnder inputs plan Gives many (Err (Line line)) old new = (why : WhyNot) × (none : IsNotUnder inputs plan Gives many why) × SaysWhy (asked_of inputs none.logs) why line.items
EndsUnder inputs plan Gives many (Err why) old new = ⊥

-- the bytes were printed whole, or a beginning of them
abbrev pub PrintsAll : List ℕ → TranscribeEnd → Written → Written → Type 0
PrintsAll bytes end.Written old new = IsWritten old new bytes
PrintsAll bytes end.Unwritten old new = BreaksOff old new bytes
PrintsAll bytes other old new = ⊥
