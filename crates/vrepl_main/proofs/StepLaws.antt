-- What the command `step` prints, and why it is refused, by what its inputs say.
use Rattle.std.proofs.Common.{◌≡◌, ◌∙◌, ap, sym, subst, ℕ, List, [], ◌∷◌, take, map, refl, Option, Some, Result, Ok}
use Rattle.std.specs.Prelude.{slice_get, option_map}
use Rattle.std.proofs.lemmas.Option.{slice_get-map}
use Rattle.list_laws.specs.Outcome.{◌>>=◌}
use Rattle.filter_rule.specs.PlanValue.{PlanValue}
use Rattle.source_feed.specs.Planned.{FeedValue}
use Rattle.board_laws.specs.FedBoards.{Fed}
use Rattle.board_laws.specs.Meaning.{Meaning}
use Rattle.apply_core.specs.Fresh.{fresh_board}
use Rattle.step_script.specs.declared.script.ScriptStep.{ScriptStep}
use Rattle.vrepl_main.specs.declared.refusal.CommandRefusal.{CommandRefusal}
use Rattle.vrepl_choices.specs.declared.feed_form.FeedForm.{FeedForm}
use Rattle.vrepl_main.specs.HexText.{feed_bytes}
use Rattle.vrepl_main.specs.Reasons.{Reason, RefusesInputs}
use Rattle.vrepl_main.specs.Command.{RefusesCommand, IsUnwritten}
use Rattle.printing.specs.Printing.{Written, IsWritten, BreaksOff}
use Rattle.vrepl_main.specs.Opening.{OpenedValue}
use Rattle.step_script.specs.ScriptLines.{script_steps}
use Rattle.vrepl_main.specs.ScriptRun.{ScriptReply, ScriptGiven, IsScriptRun, IsRepliedTo, said_steps, given_with, given_bytes, script_given, replies_text}
use Rattle.vrepl_main.specs.Replied.{AreFirstReplies, PrintsReplies, all_given, LeavesReplies}
use Rattle.vrepl_main.proofs.CommandLaws.{refuses_unwritten}
use Rattle.vrepl_main.proofs.OpenLaws.{RefusesInputs-whole}

-- ---- refusals

-- a refusal of the workflow and its feeds
pub refuses_opened : (refusal : CommandRefusal) (opening : Result OpenedValue Reason) (script : List ℕ) → RefusesInputs refusal opening → RefusesInputs {X = ScriptGiven} refusal (opening >>= given_with script)
refuses_opened refusal opening script is =
    RefusesInputs-whole {X = OpenedValue} {Y = ScriptGiven} refusal opening (opening >>= given_with script) (λ reason e. ap (λ (r : Result OpenedValue Reason). r >>= given_with script) e) is

-- steps behind an opened workflow
abbrev with_steps : OpenedValue → Result (List ScriptStep) Reason → Result ScriptGiven Reason
with_steps found said = said >>= λ steps. Ok (record { opened = found; steps = steps })

-- a refusal of the script behind them
pub refuses_script : (refusal : CommandRefusal) (opening : Result OpenedValue Reason) (found : OpenedValue) (script : List ℕ) → opening ≡ Ok found → RefusesInputs refusal (said_steps (script_steps script))
    → RefusesInputs {X = ScriptGiven} refusal (opening >>= given_with script)
refuses_script refusal opening found script is bad =
    RefusesInputs-whole {X = List ScriptStep} {Y = ScriptGiven} refusal (said_steps (script_steps script)) (opening >>= given_with script)
    (λ reason e. ap (λ (r : Result OpenedValue Reason). r >>= given_with script) is ∙ ap (with_steps found) e) bad

-- ---- what is given

pub given_is : (opening : Result OpenedValue Reason) (found : OpenedValue) (script : List ℕ) (steps : List ScriptStep) → opening ≡ Ok found → said_steps (script_steps script) ≡ Ok steps
    → (opening >>= given_with script) ≡ Ok (record { opened = found; steps = steps })
given_is opening found script steps is said = ap (λ (r : Result OpenedValue Reason). r >>= given_with script) is ∙ ap (with_steps found) said

pub map-map : {A B C : Type 0} (f : B → C) (g : A → B) (xs : List A) → map f (map g xs) ≡ map (λ x. f (g x)) xs
map-map f g [] = refl
map-map {A} {B} {C} f g (x ∷ xs) = ap (λ (l : List C). f (g x) ∷ l) (map-map f g xs)

-- the bytes of the feeds, decoded where they are given as hexadecimal text
pub given_as : {A : Type 0} (feeds : List A) (view : A → List ℕ) (form : FeedForm) (workflow script : List ℕ) (given : List (Option (List ℕ))) → given ≡ map (λ feed. feed_bytes form (view feed)) feeds
    → given_bytes workflow given script ≡ script_given form workflow (map view feeds) script
given_as feeds view form workflow script given is =
    ap (λ (bytes : List (Option (List ℕ))). given_bytes workflow bytes script) (is ∙ sym (map-map (feed_bytes form) view feeds))

-- the first plan
pub front_at : {A : Type 0} (f : A → PlanValue) (plans : List A) (plan : A) (value : PlanValue) → slice_get plans 0 ≡ Some plan → value ≡ f plan → slice_get (map f plans) 0 ≡ Some value
front_at f plans plan value is seen = slice_get-map f plans 0 ∙ ap (option_map f) is ∙ ap Some (sym seen)

-- ---- other words for what is given

pub left_as : {Y : Type 0} (result : Result Y CommandRefusal) (one other : Result ScriptGiven Reason) (old new : Written) → one ≡ other → LeavesReplies result other old new → LeavesReplies result one old new
left_as result one other old new is left = subst (λ (r : Result ScriptGiven Reason). LeavesReplies result r old new) (sym is) left

-- ---- what is printed

module _ (plans : List PlanValue) (feeds : List FeedValue) (steps : List ScriptStep) (plan : PlanValue) (start : Fed) (old new : Written)
    (first : slice_get plans 0 ≡ Some plan) (fresh : start ≡ record { board = fresh_board plans; feeds = feeds }) where
  replied : (lines : List ScriptStep) (replies : List ScriptReply) (board : Meaning) → IsScriptRun start.feeds start.board lines replies board
      → IsRepliedTo (record { plans = plans; feeds = feeds }) lines (replies_text plan replies)
  replied lines replies board run = record {
    plan = plan;
    first = first;
    replies = replies;
    board = board;
    run = subst (λ (f : Fed). IsScriptRun f.feeds f.board lines replies board) fresh run;
    is_text = refl;
  }

  -- all replies
  pub prints_all : (board : Meaning) × (replies : List ScriptReply) × IsScriptRun start.feeds start.board steps replies board × IsWritten old new (replies_text plan replies)
      → PrintsReplies (all_given plans feeds steps) old new
  prints_all (board, replies, run, appended) = (replies_text plan replies, replied steps replies board run, appended)

  -- a beginning of the replies to the first steps, which can't be written
  pub prints_first : (refusal : CommandRefusal) → IsUnwritten refusal
      → (n : ℕ) × (board : Meaning) × (replies : List ScriptReply) × IsScriptRun start.feeds start.board (take n steps) replies board × BreaksOff old new (replies_text plan replies)
      → RefusesCommand AreFirstReplies refusal (all_given plans feeds steps) old new
  prints_first refusal unwritten (n, board, replies, run, broken) =
      refuses_unwritten AreFirstReplies refusal (all_given plans feeds steps) _ (replies_text plan replies) old new refl (n, replied (take n steps) replies board run) broken unwritten
