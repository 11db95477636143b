-- A command's refusal in the form that is asked for, and how a command that prints a text then ends (this profile).
use Rattle.std.specs.Prelude.{◌≡◌, ℕ, List, Option, None, Result}
use Rattle.refusal_json.specs.Refusal.{refusal_json, refusal_plain}
use Rattle.printing.specs.Printing.{Written}
use Rattle.vrepl_choices.specs.declared.report_form.ReportForm.{ReportForm}
use Rattle.vrepl_choices.specs.declared.report_form.ReportForm.TheVariants.{Lines, Json}
use Rattle.vrepl_main.specs.Command.{Ends, IsGivenText, PrintsWhole, RefusesCommand}
use Rattle.vrepl_main.specs.Printing.{PrintsOrBreaks}
use Rattle.vrepl_main.specs.Reasons.{Reason}
use Rattle.vrepl_main.specs.Refusals.{number_of, refusal_line}
use Rattle.vrepl_main.specs.declared.refusal.CommandRefusal.{CommandRefusal}
use Rattle.vrepl_refusal.specs.Told.{told_of}

-- ---- the line

-- the line, as JSON with the place, where one is told
abbrev pub line_as : ReportForm → Option (List ℕ) → CommandRefusal → List ℕ
line_as Lines place refusal = refusal_line refusal
line_as Json place refusal = refusal_json (number_of refusal) (told_of refusal) place

-- Both forms tell the same of a refusal: its number and what stands behind that, as text or by its words. What the number
-- means is by the number alone.
abbrev pub FormsTellTheSame : Type 0
FormsTellTheSame = (refusal : CommandRefusal) → refusal_line refusal ≡ refusal_plain (number_of refusal) (told_of refusal)

-- ---- a command

-- a refusal's line was printed whole on standard error in this form, without a place, unless a write of it failed
abbrev pub PrintsRefusalAs : {X : Type 0} → ReportForm → (X → List ℕ → Type 0) → Result X Reason → Written → Written → Written → Written → Type 0
PrintsRefusalAs form IsText reading old new err_old err_new =
    (refusal : CommandRefusal) × RefusesCommand IsText refusal reading old new × PrintsOrBreaks err_old err_new (line_as form None refusal)

-- the same with the place of its fault, where one is told
abbrev pub PrintsPlacedAs : {X : Type 0} → ReportForm → (X → List ℕ → Type 0) → Result X Reason → Written → Written → Written → Written → Type 0
PrintsPlacedAs form IsText reading old new err_old err_new =
    (refusal : CommandRefusal) × (place : Option (List ℕ)) × RefusesCommand IsText refusal reading old new × PrintsOrBreaks err_old err_new (line_as form place refusal)

-- how a command ends that prints a text, in this form or in the other one
abbrev pub TextEndsAs : ReportForm → Result (List ℕ) Reason → ℕ → Written → Written → Written → Written → Type 0
TextEndsAs form reading status old new err_old err_new = Ends status (PrintsWhole reading old new) ⊥ (PrintsRefusalAs form IsGivenText reading old new err_old err_new)
