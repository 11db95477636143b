-- What is shown of two sets of rows.
use Rattle.std.proofs.Common.{◌≡◌, sym, subst, List, ℕ, Err}
use Rattle.std.specs.Prelude.{unwrap_or}
use Rattle.printing.specs.Printing.{Written, BreaksOff}
use Rattle.vdiff.specs.Reports.{NamedReport}
use Rattle.vrepl_choices.specs.declared.report_form.ReportForm.{ReportForm}
use Rattle.vrepl_choices.specs.declared.report_form.ReportForm.TheVariants.{Lines, Json}
use Rattle.vrepl_main.specs.Command.{IsUnwritten}
use Rattle.vrepl_main.specs.declared.refusal.CommandRefusal.{CommandRefusal}
use Rattle.vrepl_main.specs.declared.refusal.CommandRefusal.TheVariants.{Memory, Workflow, NoStream, FeedCount, NotReached, Feed, BadHex, BadScript, BadDump, Changed, CannotRead, CannotWrite}
use Rattle.vrepl_main.specs.Comparison.{Compared}
use Rattle.vrepl_vdiff.specs.Shown.{IsJsonOf, IsTextOf, PrintsSome, by_form, reports_asked}
use Rattle.vrepl_vdiff.specs.declared.options.Options.{Options}

-- ---- by the options

pub shown_json : (options : Options) (compared : Compared) (n : ℕ) (text : List ℕ) → options.report_form ≡ Json → n ≡ unwrap_or options.first 1 → IsJsonOf compared n text → by_form options.report_form options compared text
shown_json options compared n text is count shown = subst (λ (form : ReportForm). by_form form options compared text) (sym is) (subst (λ (m : ℕ). IsJsonOf compared m text) count shown)

pub shown_text : (options : Options) (compared : Compared) (reports : List NamedReport) (n : ℕ) (text : List ℕ) → options.report_form ≡ Lines → reports ≡ reports_asked options.tables compared → n ≡ unwrap_or options.first 0 → IsTextOf compared reports n text → by_form options.report_form options compared text
shown_text options compared reports n text is asked count shown =
    subst (λ (form : ReportForm). by_form form options compared text) (sym is)
    (subst (λ (m : ℕ). IsTextOf compared (reports_asked options.tables compared) m text) count (subst (λ (r : List NamedReport). IsTextOf compared r n text) asked shown))

-- it was printed, or it can't be written
pub unwritten : (Shows : List ℕ → Type 0) (refusal : CommandRefusal) (old new : Written) (text : List ℕ) → Shows text → BreaksOff old new text → IsUnwritten refusal → PrintsSome {X = ℕ} Shows (Err refusal) old new
unwritten Shows (CannotWrite file) old new text shown broken is = (is, text, shown, broken)
unwritten Shows Memory old new text shown broken is = absurd is
unwritten Shows (Workflow fault) old new text shown broken is = absurd is
unwritten Shows NoStream old new text shown broken is = absurd is
unwritten Shows (Changed file) old new text shown broken is = absurd is
unwritten Shows FeedCount old new text shown broken is = absurd is
unwritten Shows (NotReached stream) old new text shown broken is = absurd is
unwritten Shows (Feed fault) old new text shown broken is = absurd is
unwritten Shows BadHex old new text shown broken is = absurd is
unwritten Shows (BadScript line) old new text shown broken is = absurd is
unwritten Shows (BadDump line) old new text shown broken is = absurd is
unwritten Shows (CannotRead file) old new text shown broken is = absurd is
