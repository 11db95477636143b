-- What the command `save` prints, and why it is refused, by what its inputs say.
use Rattle.std.proofs.Common.{◌≡◌, ◌∙◌, refl, sym, ap, subst, ℕ, ◌+◌, ◌<◌, ◌≤◌, Bool, true, false, List, [], ◌∷◌, ◌++◌, length, take, get_or, Result, Ok, Err, arith}
use Rattle.std.proofs.lemmas.Bool.{ltb-false}
use Rattle.std.proofs.lemmas.List.{length-append, take_all}
use Rattle.std.proofs.lemmas.List.Elements.{filter-append}
use Rattle.std.specs.List.{filter}
use Rattle.std.specs.Prelude.{◌&&◌, if◌then◌else◌, nat_lt}
use Rattle.filter_rule.specs.PlanValue.{PlanValue}
use Rattle.source_feed.specs.Planned.{FeedValue}
use Rattle.board_laws.specs.FedBoards.{IsFedBoard}
use Rattle.board_laws.specs.Meaning.{Meaning}
use Rattle.board_laws.specs.Sources.{ShowAll}
use Rattle.checkpoint_laws.specs.Written.{checkpoint_of}
use Rattle.apply_core.specs.Fresh.{fresh_board}
use Rattle.step_script.specs.declared.script.ScriptStep.{ScriptStep}
use Rattle.printing.specs.Printing.{BreaksOff, IsWritten, Written}
use Rattle.vrepl_main.specs.Command.{IsUnwritten, RefusesCommand}
use Rattle.vrepl_main.specs.Reasons.{Reason}
use Rattle.vrepl_main.specs.SavedBoard.{IsBehind, IsSavedBoard, IsSavedBehind, IsSavedText, PrintsSaved, TellsRefused, saved_status}
use Rattle.vrepl_main.specs.ScriptRun.{ScriptGiven, ScriptReply, IsScriptRun, IsScriptStep, IsTold, is_refused, refused_count}
use Rattle.vrepl_main.specs.declared.refusal.CommandRefusal.{CommandRefusal}
use Rattle.vrepl_main.specs.declared.saving.Saved.{Saved}
use Rattle.vrepl_main.proofs.CommandLaws.{refuses_unwritten}
use Rattle.vrepl_main.proofs.ScriptRunLaws.{run_on}
use Rattle.vrepl_main.proofs.ToldLaws.{all_told}

-- other words for what is given
pub saved_as : (one other : Result ScriptGiven Reason) (saved : Saved) → one ≡ other → IsSavedBoard other saved → IsSavedBoard one saved
saved_as one other saved is it = subst (λ (r : Result ScriptGiven Reason). IsSavedBoard r saved) (sym is) it

-- the checkpoint can't be written
pub unwritten_save : (reading : Result ScriptGiven Reason) (refusal : CommandRefusal) (saved : Saved) (old new : Written) → IsSavedBoard reading saved → BreaksOff old new saved.checkpoint.items → IsUnwritten refusal
    → RefusesCommand IsSavedText refusal reading old new
unwritten_save (Ok given) refusal saved old new is broken unwritten = refuses_unwritten IsSavedText refusal (Ok given) given saved.checkpoint.items old new refl (saved.refused, is.0) broken unwritten
unwritten_save (Err reason) refusal saved old new is broken unwritten = absurd is

-- the board behind the steps, which took each of them
pub saved_by : (plans : List PlanValue) (feeds : List FeedValue) (steps : List ScriptStep) (refused : ℕ) (board : Meaning) (bytes : List ℕ)
    → IsBehind feeds (fresh_board plans) steps refused board → IsFedBoard feeds board → ShowAll feeds board → bytes ≡ checkpoint_of board
    → IsSavedBehind (record { opened = record { plans = plans; feeds = feeds }; steps = steps }) refused bytes
saved_by plans feeds steps refused board bytes (replies, run, told, counted) fed sources saved =
    record { replies = replies; board = board; run = run; told = told; counted = counted; fed = fed; sources = sources; checkpoint = saved }

-- ---- how many are refused

-- one reply more
pub count_more : (replies : List ScriptReply) (reply : ScriptReply) → refused_count (replies ++ reply ∷ []) ≡ refused_count replies + refused_count (reply ∷ [])
count_more replies reply = ap (λ (l : List ScriptReply). length l) (filter-append is_refused replies (reply ∷ [])) ∙ length-append (filter is_refused replies) (filter is_refused (reply ∷ []))

-- a reply is at most one
pub count_one : (reply : ScriptReply) → refused_count (reply ∷ []) ≤ 1
count_one reply = by (is_refused reply) refl
  where
    by : (b : Bool) → is_refused reply ≡ b → refused_count (reply ∷ []) ≤ 1
    by true is = rw is (omega arith)
    by false is = rw is (omega arith)

-- no step is taken yet
pub none_taken : (feeds : List FeedValue) (old : Meaning) → IsBehind feeds old [] 0 old
none_taken feeds old = ([], refl, tt, refl)

-- one line more
pub one_taken : (feeds : List FeedValue) (old now new : Meaning) (steps : List ScriptStep) (i : ℕ) (d : ScriptStep) (refused more : ℕ) → i < length steps → IsBehind feeds old (take i steps) refused now
    → (reply : ScriptReply) × IsScriptStep feeds now (get_or steps i d) reply new × IsTold reply × (more ≡ refused_count (reply ∷ []))
    → IsBehind feeds old (take (i + 1) steps) (refused + more) new
one_taken feeds old now new steps i d refused more lt (replies, run, told, counted) (reply, last, one, is) = (
  replies ++ reply ∷ [],
  run_on feeds old now new steps i d replies reply lt run last,
  all_told replies reply told one,
  ap (λ n. n + more) counted ∙ ap (λ n. refused_count replies + n) is ∙ sym (count_more replies reply),
)

-- all lines are taken
pub all_taken : (feeds : List FeedValue) (old now : Meaning) (steps : List ScriptStep) (i refused : ℕ) → length steps ≤ i → IsBehind feeds old (take i steps) refused now → IsBehind feeds old steps refused now
all_taken feeds old now steps i refused most (replies, run, told, counted) =
    (replies, subst (λ (lines : List ScriptStep). IsScriptRun feeds old lines replies now) (take_all i steps most) run, told, counted)

-- ---- how it ends

-- where the status of a strict one is 0 none are refused
pub none_refused : (strict : Bool) (refused : ℕ) → strict ≡ true → saved_status strict refused ≡ 0 → refused ≡ 0
none_refused strict refused is zero = by (nat_lt 0 refused) refl
  where
    by : (b : Bool) → nat_lt 0 refused ≡ b → refused ≡ 0
    by true some =
        let one : saved_status strict refused ≡ 1 = ap (λ (s : Bool). if s && nat_lt 0 refused then 1 else 0) is ∙ ap (λ (b : Bool). if b then 1 else 0) some in
        absurd (omega (arith, one, zero))
    by false none = let most : refused ≤ 0 = ltb-false 0 refused none in omega (arith, most)

-- the checkpoint was printed, and it was told how many are refused
pub prints_saved : (strict : Bool) (reading : Result ScriptGiven Reason) (saved : Saved) (status : ℕ) (old new err_old err_new : Written)
    → IsSavedBoard reading saved → IsWritten old new saved.checkpoint.items → TellsRefused saved.refused saved.steps err_old err_new → status ≡ saved_status strict saved.refused
    → PrintsSaved strict reading status old new err_old err_new
prints_saved strict (Ok given) saved status old new err_old err_new (is, steps) printed told status_is = record {
  given = given;
  is_given = refl;
  refused = saved.refused;
  bytes = saved.checkpoint.items;
  saved = is;
  printed = printed;
  told = subst (λ n. TellsRefused saved.refused n err_old err_new) steps told;
  status_is = status_is;
}
prints_saved strict (Err reason) saved status old new err_old err_new is printed told status_is = absurd is
