-- What printing the replies to a script leaves on its writer (this profile).
use Rattle.std.specs.Prelude.{ℕ, List, take, Result, Ok, Err}
use Rattle.filter_rule.specs.PlanValue.{PlanValue}
use Rattle.source_feed.specs.Planned.{FeedValue}
use Rattle.board_laws.specs.Meaning.{Meaning}
use Rattle.printing.specs.Printing.{Written, IsWritten, BreaksOff}
use Rattle.step_script.specs.declared.script.ScriptStep.{ScriptStep}
use Rattle.vrepl_main.specs.Adding.{WriterPlace, IsTextPut, AddsText}
use Rattle.vrepl_main.specs.ScriptRun.{ScriptReply, IsScriptStep, IsScriptRun, reply_text, replies_text}

-- a line's reply was added
abbrev pub Replies : {X E : Type 0} → Result X E → List FeedValue → PlanValue → Meaning → ScriptStep → Meaning → WriterPlace → WriterPlace → Type 0
Replies result feeds plan old step new before after = (reply : ScriptReply) × IsScriptStep feeds old step reply new × AddsText result before after (reply_text plan reply)

-- the replies to steps were added
pub record RepliesOf {X E : Type 0} (result : Result X E) (feeds : List FeedValue) (plan : PlanValue) (old : Meaning) (steps : List ScriptStep) (new : Meaning) (before after : WriterPlace) : Type 0 where
  pub replies : List ScriptReply
  pub run : IsScriptRun feeds old steps replies new
  pub added : AddsText result before after (replies_text plan replies)

-- the replies to the steps so far were added
pub record HasReplied (feeds : List FeedValue) (plan : PlanValue) (old : Meaning) (steps : List ScriptStep) (new : Meaning) (before after : WriterPlace) : Type 0 where
  pub replies : List ScriptReply
  pub run : IsScriptRun feeds old steps replies new
  pub put : IsTextPut before after (replies_text plan replies)

-- the replies to all steps were added, or at a fault a beginning of those to the first steps
abbrev pub RepliesTo : {X E : Type 0} → Result X E → List FeedValue → PlanValue → Meaning → List ScriptStep → WriterPlace → WriterPlace → Type 0
RepliesTo {X} {E} (Ok x) feeds plan old steps before after = (new : Meaning) × RepliesOf {X = X} {E = E} (Ok x) feeds plan old steps new before after
RepliesTo {X} {E} (Err fault) feeds plan old steps before after = (n : ℕ) × (new : Meaning) × RepliesOf {X = X} {E = E} (Err fault) feeds plan old (take n steps) new before after

-- the same, printed to its end
abbrev pub PrintsRun : {X E : Type 0} → Result X E → List FeedValue → PlanValue → Meaning → List ScriptStep → Written → Written → Type 0
PrintsRun (Ok x) feeds plan old steps before after =
    (new : Meaning) × (replies : List ScriptReply) × IsScriptRun feeds old steps replies new × IsWritten before after (replies_text plan replies)
PrintsRun (Err fault) feeds plan old steps before after =
    (n : ℕ) × (new : Meaning) × (replies : List ScriptReply) × IsScriptRun feeds old (take n steps) replies new × BreaksOff before after (replies_text plan replies)
