-- What the lines of a script reply over a workflow with its feeds, and what they leave (this profile).
use Rattle.std.specs.Prelude.{◌≡◌, ℕ, nat_lt, if◌then◌else◌, Bool, true, false, List, [], ◌∷◌, length, Option, Some, None, Result, Ok, Err, slice_get, flat_map}
use Rattle.std.specs.List.{filter}
use Rattle.std.specs.Option.{option_and_then}
use Rattle.list_laws.specs.Outcome.{◌>>=◌}
use Rattle.filter_rule.specs.PlanValue.{PlanValue}
use Rattle.source_feed.specs.GroupValue.{Position}
use Rattle.source_feed.specs.Planned.{FeedValue}
use Rattle.stream_core.specs.Standing.{Standing}
use Rattle.stream_core.specs.declared.step.Step.{Step}
use Rattle.dump.specs.Dump.{dump_of}
use Rattle.dump.specs.DumpRowsValue.{DumpRowsValue}
use Rattle.board_laws.specs.Lawful.{standing_of}
use Rattle.board_laws.specs.Meaning.{State, Meaning}
use Rattle.board_laws.specs.Schedule.{Reply, IsReply}
use Rattle.board_laws.specs.declared.refusal.Refusal.TheVariants.{NoStream, Memory}
use Rattle.board_laws.specs.declared.step_refusal.StepRefusal.TheVariants.{Refused}
use Rattle.apply_core.specs.Fresh.{fresh_board}
use Rattle.board_laws.specs.Sources.{applied_position, ShowAll}
use Rattle.apply_core.specs.Shown.{all_rows}
use Rattle.step_script.specs.declared.script.ScriptStep.{ScriptStep}
use Rattle.step_script.specs.declared.script.ScriptStep.TheVariants as script
use Rattle.vrepl_choices.specs.declared.feed_form.FeedForm.{FeedForm}
use Rattle.vrepl_main.specs.Reasons.{Reason, bad_script}
use Rattle.vrepl_main.specs.Opening.{OpenedValue, opened, opened_bytes}
use Rattle.step_script.specs.ScriptLines.{script_steps}
use Rattle.vrepl_main.specs.AnswerText.{answer_text, state_text}
use Rattle.vrepl_main.specs.RefusedText.{refused_text}
use Rattle.vrepl_main.specs.InputList.{bytes_of}
use Rattle.vrepl_main.specs.declared.named_inputs.Inputs.{Inputs}

-- ---- one line

-- what a line replies: a step its answer or its refusal, `state` where a stream stands, `dump` the rows
pub data ScriptReply : Type 0 where
  answers : Reply → ScriptReply
  stands : ℕ → State → ScriptReply
  shows : DumpRowsValue → ScriptReply

-- the number of a stream, if it is at most 255
abbrev pub byte_of : ℕ → Option ℕ
byte_of stream = if nat_lt 255 stream then None else Some stream

-- the stream of a number on a board, if there is one
abbrev pub standing_in : Meaning → ℕ → Option State
standing_in board stream = option_and_then (slice_get board.streams) (byte_of stream)

-- where a stream stands; where there is none it is refused 115
abbrev pub standing_reply : ℕ → Option State → ScriptReply
standing_reply stream None = answers (Err (Refused NoStream))
standing_reply stream (Some state) = stands stream state

-- a step on the stream of a number, where there is such a number; else it is refused 115
abbrev pub AnswersStep : List FeedValue → Meaning → Option ℕ → Step → Reply → Meaning → Type 0
AnswersStep feeds old None step reply new = (reply ≡ Err (Refused NoStream)) × (new ≡ old)
AnswersStep feeds old (Some s) step reply new = IsReply feeds old (s, step) reply new

-- what a line replies and leaves; the rows of a dump are of a board that shows all its sources
abbrev pub IsScriptStep : List FeedValue → Meaning → ScriptStep → ScriptReply → Meaning → Type 0
IsScriptStep feeds old (script.Take stream step) reply new = (answer : Reply) × AnswersStep feeds old (byte_of stream) step answer new × (reply ≡ answers answer)
IsScriptStep feeds old (script.State stream) reply new = (new ≡ old) × (reply ≡ standing_reply stream (standing_in old stream))
IsScriptStep feeds old script.Dump reply new = (new ≡ old) × (reply ≡ shows (all_rows old.rows)) × ShowAll feeds old

-- ---- a script

-- the lines have these replies, one each, and a board between each two; a refusal doesn't end them
abbrev pub IsScriptRun : List FeedValue → Meaning → List ScriptStep → List ScriptReply → Meaning → Type 0
IsScriptRun feeds old [] [] new = new ≡ old
IsScriptRun feeds old [] (reply ∷ replies) new = ⊥
IsScriptRun feeds old (step ∷ steps) [] new = ⊥
IsScriptRun feeds old (step ∷ steps) (reply ∷ replies) new =
    (between : Meaning) × IsScriptStep feeds old step reply between × IsScriptRun feeds between steps replies new

-- the reply isn't want of memory
abbrev pub IsTold : ScriptReply → Type 0
IsTold (answers (Err (Refused Memory))) = ⊥
IsTold reply = Unit {0}

-- it is the refusal of a step
abbrev pub is_refused : ScriptReply → Bool
is_refused (answers (Err refusal)) = true
is_refused reply = false

-- how many of the replies are refusals
abbrev pub refused_count : List ScriptReply → ℕ
refused_count replies = length (filter is_refused replies)

-- ---- text

-- where a stream stands, by its numbers and its position
abbrev pub where_of : State → Standing × Position
where_of state = (standing_of state, applied_position state)

-- a reply as text, by the tables of a plan
abbrev pub reply_text : PlanValue → ScriptReply → List ℕ
reply_text plan (answers (Ok answer)) = answer_text answer
reply_text plan (answers (Err refusal)) = refused_text plan.tables refusal
reply_text plan (stands stream state) = state_text stream (standing_of state) (applied_position state)
reply_text plan (shows rows) = dump_of plan rows

abbrev pub replies_text : PlanValue → List ScriptReply → List ℕ
replies_text plan replies = flat_map (reply_text plan) replies

-- ---- a workflow, its feeds and a script

pub record ScriptGiven : Type 0 where
  pub opened : OpenedValue
  pub steps : List ScriptStep

abbrev pub said_steps : Result (List ScriptStep) ℕ → Result (List ScriptStep) Reason
said_steps (Ok steps) = Ok steps
said_steps (Err line) = Err (bad_script line)

-- the script is read behind the feeds
abbrev pub given_with : List ℕ → OpenedValue → Result ScriptGiven Reason
given_with script found = said_steps (script_steps script) >>= λ steps. Ok (record { opened = found; steps = steps })

abbrev pub given_bytes : List ℕ → List (Option (List ℕ)) → List ℕ → Result ScriptGiven Reason
given_bytes workflow feeds script = opened_bytes workflow feeds >>= given_with script

abbrev pub script_given : FeedForm → List ℕ → List (List ℕ) → List ℕ → Result ScriptGiven Reason
script_given form workflow feeds script = opened form workflow feeds >>= given_with script

-- what the inputs of `step` and of `save` give, or why they are refused
abbrev pub script_asked : Inputs → Result ScriptGiven Reason
script_asked inputs = script_given inputs.feed_form inputs.workflow.items (bytes_of inputs.feeds.items) inputs.script.items

-- the text is that of the replies to these steps, on a board over the plans of which nothing is read
pub record IsRepliedTo (given : OpenedValue) (steps : List ScriptStep) (text : List ℕ) : Type 0 where
  pub plan : PlanValue
  pub first : slice_get given.plans 0 ≡ Some plan
  pub replies : List ScriptReply
  pub board : Meaning
  pub run : IsScriptRun given.feeds (fresh_board given.plans) steps replies board
  pub is_text : text ≡ replies_text plan replies
