-- What the command `resume` prints, and why it is refused, by what its inputs say.
use Rattle.std.proofs.Common.{◌≡◌, sym, subst, ℕ, List, take, refl, Some, Result}
use Rattle.std.specs.Prelude.{slice_get}
use Rattle.filter_rule.specs.PlanValue.{PlanValue}
use Rattle.source_feed.specs.Planned.{FeedValue}
use Rattle.board_laws.specs.FedBoards.{Fed}
use Rattle.board_laws.specs.Meaning.{Meaning}
use Rattle.printing.specs.Printing.{Written, IsWritten, BreaksOff}
use Rattle.apply_core.specs.Resuming.{IsResumed}
use Rattle.vrepl_main.specs.declared.resuming.ResumeRefusal.{ResumeRefusal}
use Rattle.step_script.specs.declared.script.ScriptStep.{ScriptStep}
use Rattle.vrepl_main.specs.Reasons.{Reason}
use Rattle.vrepl_main.specs.Replied.{all_given}
use Rattle.vrepl_main.specs.ResumedRun.{IsRepliedBehind, AreFirstBehind, PrintsResumed, LeavesResumed}
use Rattle.vrepl_main.specs.ScriptRun.{ScriptReply, ScriptGiven, IsScriptRun, replies_text}

-- ---- other words for what is given

pub left_as : {Y : Type 0} (checkpoint : List ℕ) (one other : Result ScriptGiven Reason) (result : Result Y ResumeRefusal) (old new : Written) → one ≡ other → LeavesResumed result other checkpoint old new → LeavesResumed result one checkpoint old new
left_as checkpoint one other result old new is left = subst (λ (r : Result ScriptGiven Reason). LeavesResumed result r checkpoint old new) (sym is) left

-- ---- what is printed

module _ (plans : List PlanValue) (feeds : List FeedValue) (steps : List ScriptStep) (checkpoint : List ℕ) (plan : PlanValue) (start : Fed) (old new : Written)
    (first : slice_get plans 0 ≡ Some plan) (resumed : IsResumed feeds checkpoint start.board) (same : start.feeds ≡ feeds) where
  replied : (lines : List ScriptStep) (replies : List ScriptReply) (board : Meaning) → IsScriptRun start.feeds start.board lines replies board
      → IsRepliedBehind (record { plans = plans; feeds = feeds }) checkpoint lines (replies_text plan replies)
  replied lines replies board run = record {
    plan = plan;
    first = first;
    start = start.board;
    resumed = resumed;
    replies = replies;
    board = board;
    run = subst (λ (fs : List FeedValue). IsScriptRun fs start.board lines replies board) same run;
    is_text = refl;
  }

  -- all replies
  pub prints_all : (board : Meaning) × (replies : List ScriptReply) × IsScriptRun start.feeds start.board steps replies board × IsWritten old new (replies_text plan replies)
      → PrintsResumed (all_given plans feeds steps) checkpoint old new
  prints_all (board, replies, run, appended) = (replies_text plan replies, replied steps replies board run, appended)

  -- a beginning of the replies to the first steps, behind which a write failed
  pub prints_first : (n : ℕ) × (board : Meaning) × (replies : List ScriptReply) × IsScriptRun start.feeds start.board (take n steps) replies board × BreaksOff old new (replies_text plan replies)
      → (text : List ℕ) × AreFirstBehind checkpoint (record { opened = record { plans = plans; feeds = feeds }; steps = steps }) text × BreaksOff old new text
  prints_first (n, board, replies, run, broken) = (replies_text plan replies, (n, replied (take n steps) replies board run), broken)
