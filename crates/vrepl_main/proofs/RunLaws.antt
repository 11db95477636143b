-- What the command `run` prints, and why it is refused, by what its inputs say.
use Rattle.std.proofs.Common.{◌≡◌, ◌∙◌, ap, sym, subst, ℕ, List, map, refl, Option, Some, Result, Ok, Err}
use Rattle.std.specs.Prelude.{slice_get}
use Rattle.filter_rule.specs.PlanValue.{PlanValue}
use Rattle.dump.specs.Dump.{dump_of}
use Rattle.printing.specs.Printing.{Written, BreaksOff}
use Rattle.board_laws.specs.Meaning.{Meaning}
use Rattle.apply_core.specs.Shown.{all_rows}
use Rattle.apply_core.specs.RunRefused.{IsRefusedRun}
use Rattle.apply_core.specs.declared.run_refusal.RunRefusal.{RunRefusal}
use Rattle.vrepl_main.specs.declared.refusal.CommandRefusal.{CommandRefusal}
use Rattle.vrepl_main.specs.Command.{RefusesCommand, IsUnwritten}
use Rattle.vrepl_choices.specs.declared.feed_form.FeedForm.{FeedForm}
use Rattle.vrepl_choices.specs.UntilValue.{UntilValue}
use Rattle.vrepl_main.specs.Ending.{opened_until}
use Rattle.vrepl_main.specs.HexText.{feed_bytes}
use Rattle.vrepl_main.specs.Opening.{OpenedValue, opened, opened_bytes}
use Rattle.vrepl_main.specs.Reasons.{Reason}
use Rattle.vrepl_main.specs.Running.{Filled, IsAtFeedsEnds, IsFilled, IsFilledDump, IsUnfilled, RefusesRun, RefusesStream}
use Rattle.vrepl_main.specs.declared.running.RunFault.{RunFault}
use Rattle.vrepl_main.specs.declared.running.RunFault.TheVariants.{Given, Stream}
use Rattle.vrepl_main.proofs.CommandLaws.{refuses, refuses_unwritten}
use Rattle.vrepl_main.proofs.StepLaws.{map-map}

-- the bytes of the feeds, decoded where they are given as hexadecimal text
pub given_as : {A : Type 0} (feeds : List A) (view : A → List ℕ) (form : FeedForm) (workflow : List ℕ) (given : List (Option (List ℕ))) → given ≡ map (λ feed. feed_bytes form (view feed)) feeds
    → opened_bytes workflow given ≡ opened form workflow (map view feeds)
given_as feeds view form workflow given is = ap (opened_bytes workflow) (is ∙ sym (map-map (feed_bytes form) view feeds))

-- the same up to positions
pub opened_as : {A : Type 0} (untils : List UntilValue) (feeds : List A) (view : A → List ℕ) (form : FeedForm) (workflow : List ℕ) (given : List (Option (List ℕ))) → given ≡ map (λ feed. feed_bytes form (view feed)) feeds
    → opened_until untils (opened_bytes workflow given) ≡ opened_until untils (opened form workflow (map view feeds))
opened_as untils feeds view form workflow given is = ap (opened_until untils) (given_as feeds view form workflow given is)

module _ (reading : Result OpenedValue Reason) (found : OpenedValue) (plan : PlanValue) (is : reading ≡ Ok found) (first : slice_get found.plans 0 ≡ Some plan) where
  -- a run over what is opened is refused
  pub refused_run : (refusal : RunRefusal) → IsRefusedRun found.plans found.feeds refusal → RefusesStream plan refusal reading
  refused_run refusal refused = subst (RefusesStream plan refusal) (sym is) (record { first = first; refused = refused })

  -- it has filled the target
  pub filled_run : (board : Meaning) → IsAtFeedsEnds found.feeds board → IsFilled reading (record { plan = plan; rows = all_rows board.rows })
  filled_run board ends = subst (λ (r : Result OpenedValue Reason). IsFilled r (record { plan = plan; rows = all_rows board.rows })) (sym is) (record { first = first; board = board; ends = ends; rows = refl })

-- what is found before anything is printed leaves nothing
pub refuses_run : (fault : RunFault) (reading : Result OpenedValue Reason) (now : Written) → IsUnfilled fault reading → RefusesRun fault reading now now
refuses_run (Given refusal) reading now is = refuses IsFilledDump refusal reading now is
refuses_run (Stream plan refusal) reading now is = (is, refl)

-- the dump can't be written
pub unwritten_run : (refusal : CommandRefusal) (reading : Result OpenedValue Reason) (filled : Filled) (old new : Written) → IsFilled reading filled → BreaksOff old new (dump_of filled.plan filled.rows) → IsUnwritten refusal
    → RefusesCommand IsFilledDump refusal reading old new
unwritten_run refusal (Ok given) filled old new is broken unwritten = refuses_unwritten IsFilledDump refusal (Ok given) given (dump_of filled.plan filled.rows) old new refl (filled, is, refl) broken unwritten
unwritten_run refusal (Err reason) filled old new is broken unwritten = absurd is
