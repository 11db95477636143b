-- The lines of a script taken one after another, and what is printed of their replies.
use Rattle.std.proofs.Common.{◌≡◌, ◌∙◌, ap, sym, subst, ℕ, ◌+◌, ◌<◌, ◌≤◌, List, [], ◌∷◌, ◌++◌, length, take, get_or, refl, append-nil, arith, Result, Ok, Err}
use Rattle.std.proofs.lemmas.List.{take_more, take_all}
use Rattle.std.proofs.lemmas.Grind.{flat_map-append}
use Rattle.std.proofs.lemmas.List.Concat.{flat_map-cons}
use Rattle.filter_rule.specs.PlanValue.{PlanValue}
use Rattle.source_feed.specs.Planned.{FeedValue}
use Rattle.board_laws.specs.Meaning.{Meaning}
use Rattle.printing.proofs.PrintLaws.{adds_none}
use Rattle.printing.specs.Printing.{Written, Prints}
use Rattle.vrepl_main.specs.Adding.{WriterPlace, at, IsTextPut, IsBegun}
use Rattle.step_script.specs.declared.script.ScriptStep.{ScriptStep}
use Rattle.vrepl_main.specs.ScriptRun.{ScriptReply, IsScriptStep, IsScriptRun, reply_text, replies_text}
use Rattle.vrepl_main.specs.ScriptPrinting.{RepliesTo, HasReplied, PrintsRun}
use Rattle.vrepl_main.proofs.AddLaws.{then_put, then_stops, then_finishes}

-- ---- where a stream stands

-- ---- runs

-- a run and one line more
pub run_more : (feeds : List FeedValue) (old now new : Meaning) (steps : List ScriptStep) (step : ScriptStep) (replies : List ScriptReply) (reply : ScriptReply)
    → IsScriptRun feeds old steps replies now → IsScriptStep feeds now step reply new → IsScriptRun feeds old (steps ++ step ∷ []) (replies ++ reply ∷ []) new
run_more feeds old now new [] step [] reply run last = (new, subst (λ (board : Meaning). IsScriptStep feeds board step reply new) run last, refl)
run_more feeds old now new [] step (r ∷ replies) reply run last = absurd run
run_more feeds old now new (s ∷ steps) step [] reply run last = absurd run
run_more feeds old now new (s ∷ steps) step (r ∷ replies) reply (between, first, rest) last = (between, first, run_more feeds between now new steps step replies reply rest last)

pub run_on : (feeds : List FeedValue) (old now new : Meaning) (steps : List ScriptStep) (i : ℕ) (d : ScriptStep) (replies : List ScriptReply) (reply : ScriptReply) → i < length steps
    → IsScriptRun feeds old (take i steps) replies now → IsScriptStep feeds now (get_or steps i d) reply new → IsScriptRun feeds old (take (i + 1) steps) (replies ++ reply ∷ []) new
run_on feeds old now new steps i d replies reply lt run last =
    subst (λ (lines : List ScriptStep). IsScriptRun feeds old lines (replies ++ reply ∷ []) new) (sym (take_more steps i d lt))
    (run_more feeds old now new (take i steps) (get_or steps i d) replies reply run last)

text_more : (plan : PlanValue) (replies : List ScriptReply) (reply : ScriptReply) → replies_text plan (replies ++ reply ∷ []) ≡ replies_text plan replies ++ reply_text plan reply
text_more plan replies reply =
    flat_map-append (reply_text plan) replies (reply ∷ [])
    ∙ ap (λ (l : List ℕ). replies_text plan replies ++ l) (flat_map-cons (reply_text plan) reply [] ∙ append-nil (reply_text plan reply))

-- ---- replies

pub starts : (feeds : List FeedValue) (plan : PlanValue) (old : Meaning) (now : WriterPlace) → HasReplied feeds plan old [] old now now
starts feeds plan old now = record { replies = []; run = refl; put = adds_none now.written now.waiting }

pub moves : (feeds : List FeedValue) (plan : PlanValue) (old now new : Meaning) (steps : List ScriptStep) (i : ℕ) (d : ScriptStep) (before mid after : WriterPlace) → i < length steps
    → HasReplied feeds plan old (take i steps) now before mid → (reply : ScriptReply) × IsScriptStep feeds now (get_or steps i d) reply new × IsTextPut mid after (reply_text plan reply)
    → HasReplied feeds plan old (take (i + 1) steps) new before after
moves feeds plan old now new steps i d before mid after lt had (reply, last, put) = record {
  replies = had.replies ++ reply ∷ [];
  run = run_on feeds old now new steps i d had.replies reply lt had.run last;
  put = subst (IsTextPut before after) (sym (text_more plan had.replies reply)) (then_put before mid after (replies_text plan had.replies) (reply_text plan reply) had.put put);
}

pub stops : {E : Type 0} (fault : E) (feeds : List FeedValue) (plan : PlanValue) (old now new : Meaning) (steps : List ScriptStep) (i : ℕ) (d : ScriptStep) (before mid after : WriterPlace) → i < length steps
    → HasReplied feeds plan old (take i steps) now before mid → (reply : ScriptReply) × IsScriptStep feeds now (get_or steps i d) reply new × IsBegun mid after (reply_text plan reply)
    → RepliesTo {X = Unit {0}} (Err fault) feeds plan old steps before after
stops fault feeds plan old now new steps i d before mid after lt had (reply, last, begun) = (
  i + 1,
  new,
  record {
    replies = had.replies ++ reply ∷ [];
    run = run_on feeds old now new steps i d had.replies reply lt had.run last;
    added = subst (IsBegun before after) (sym (text_more plan had.replies reply)) (then_stops before mid after (replies_text plan had.replies) (reply_text plan reply) had.put begun);
  },
)

pub ends : {E : Type 0} (feeds : List FeedValue) (plan : PlanValue) (old now : Meaning) (steps : List ScriptStep) (i : ℕ) (before after : WriterPlace) → length steps ≤ i
    → HasReplied feeds plan old (take i steps) now before after → RepliesTo {X = Unit {0}} {E = E} (Ok tt) feeds plan old steps before after
ends feeds plan old now steps i before after le had = (
  now,
  record {
    replies = had.replies;
    run = subst (λ (lines : List ScriptStep). IsScriptRun feeds old lines had.replies now) (take_all i steps le) had.run;
    added = had.put;
  },
)

-- ---- what is printed of them

-- the replies that wait are written, or a beginning of them
pub run_finishes : {E : Type 0} (result : Result (Unit {0}) E) (feeds : List FeedValue) (plan : PlanValue) (old : Meaning) (steps : List ScriptStep) (before : Written) (now : WriterPlace) (new : Written)
    → RepliesTo {X = Unit {0}} {E = E} (Ok tt) feeds plan old steps (at before []) now → Prints result now.written new now.waiting → PrintsRun result feeds plan old steps before new
run_finishes {E} (Ok x) feeds plan old steps before now new (board, of) printed =
    (board, of.replies, of.run, then_finishes {X = Unit {0}} {E = E} (Ok x) (at before []) now new (replies_text plan of.replies) of.added printed)
run_finishes {E} (Err fault) feeds plan old steps before now new (board, of) printed = (
  length steps,
  board,
  of.replies,
  subst (λ (lines : List ScriptStep). IsScriptRun feeds old lines of.replies board) (sym (take_all (length steps) steps (omega arith))) of.run,
  then_finishes {X = Unit {0}} {E = E} (Err fault) (at before []) now new (replies_text plan of.replies) of.added printed,
)

-- printing breaks off before that
pub run_breaks : {E : Type 0} (fault : E) (feeds : List FeedValue) (plan : PlanValue) (old : Meaning) (steps : List ScriptStep) (before : Written) (now : WriterPlace)
    → RepliesTo {X = Unit {0}} (Err fault) feeds plan old steps (at before []) now → PrintsRun {X = Unit {0}} (Err fault) feeds plan old steps before now.written
run_breaks fault feeds plan old steps before now (n, board, of) = (n, board, of.replies, of.run, of.added.begun)
