-- What `vdiff` shows of two dumps by its options (this profile, after Vitess's VDiff).
use Rattle.std.specs.Prelude.{◌≡◌, ◌≢◌, ℕ, Bool, true, false, List, [], ◌++◌, unwrap_or, Result, Ok, Err}
use Rattle.printing.specs.Printing.{Written, IsWritten, BreaksOff}
use Rattle.vdiff.specs.Report.{report_of}
use Rattle.dump.specs.DumpRowsValue.{DumpRowsValue}
use Rattle.vdiff.specs.Json.{comparison_data, json_line}
use Rattle.vdiff_patch.specs.Patch.{patch_of}
use Rattle.vdiff_patch.specs.Repair.{IsRepair}
use Rattle.vdiff_sql.specs.Statements.{sql_text}
use Rattle.vdiff_text.specs.ShownDifferences.{shown_differences}
use Rattle.vdiff.specs.Differences.{AreFirstDifferences, Difference}
use Rattle.vdiff.specs.Reports.{NamedReport, reports_from}
use Rattle.vdiff.specs.Texts.{differences_text, tables_text}
use Rattle.vrepl_choices.specs.declared.report_form.ReportForm.{ReportForm}
use Rattle.vrepl_choices.specs.declared.report_form.ReportForm.TheVariants.{Lines, Json}
use Rattle.vrepl_main.specs.Command.{IsUnwritten}
use Rattle.vrepl_main.specs.Comparison.{AreDumps, Compared, IsComparison}
use Rattle.vrepl_main.specs.declared.refusal.CommandRefusal.{CommandRefusal}
use Rattle.vrepl_main.specs.declared.refusal.CommandRefusal.TheVariants.{Memory}
use Rattle.vrepl_vdiff.specs.declared.options.Detail.{Detail}
use Rattle.vrepl_vdiff.specs.declared.options.Detail.TheVariants.{Comparison, Text, Sql}
use Rattle.vrepl_vdiff.specs.declared.options.Options.{Options}
use Rattle.vrepl_main.specs.declared.comparing.Verdict.{Verdict}
use Rattle.vrepl_main.specs.declared.comparing.Verdict.TheVariants.{Same, Differ}
use Rattle.vrepl_vdiff.specs.declared.inputs.VdiffInputs.{VdiffInputs}

-- ---- text

-- the counts of each table, in the workflow's order
abbrev pub reports_by_table : Compared → List NamedReport
reports_by_table compared = reports_from 0 compared.plan.tables compared.source compared.target

-- the same where they are asked for
abbrev pub reports_asked : Bool → Compared → List NamedReport
reports_asked true compared = reports_by_table compared
reports_asked false compared = []

-- the lines of some tables, the comparison as it is without options, and behind it the first n differences
pub record IsTextOf (compared : Compared) (reports : List NamedReport) (n : ℕ) (text : List ℕ) : Type 0 where
  pub comparison : List ℕ
  pub is_comparison : IsComparison compared comparison
  pub found : List Difference
  pub are_first : AreFirstDifferences n compared.source compared.target found
  pub is_text : text ≡ tables_text reports ++ comparison ++ differences_text compared.plan.tables found

-- one line of JSON, with the counts of each table and the first n differences
pub record IsJsonOf (compared : Compared) (n : ℕ) (text : List ℕ) : Type 0 where
  pub found : List Difference
  pub are_first : AreFirstDifferences n compared.source compared.target found
  pub is_text : text ≡ json_line (comparison_data compared.plan.tables (report_of compared.source compared.target) (reports_by_table compared) found)

-- JSON has the first difference where no number is given, lines have none
abbrev pub by_form : ReportForm → Options → Compared → List ℕ → Type 0
by_form Json options compared text = IsJsonOf compared (unwrap_or options.first 1) text
by_form Lines options compared text = IsTextOf compared (reports_asked options.tables compared) (unwrap_or options.first 0) text

-- ---- differences

-- the first n differences as a person reads them
abbrev pub IsDifferencesText : ℕ → Compared → List ℕ → Type 0
IsDifferencesText n compared text = text ≡ shown_differences compared.plan.tables n compared.source compared.target

-- the statements of a patch that makes the target's rows the source's
pub record IsRepairText (schema : List ℕ) (compared : Compared) (text : List ℕ) : Type 0 where
  pub is_text : text ≡ sql_text schema compared.plan.tables (patch_of compared.source compared.target)
  pub repair : IsRepair compared.source compared.target (patch_of compared.source compared.target)

-- ---- by the options

-- as many differences as are asked for, and all of them where no number is given
abbrev pub by_detail : Detail → Options → Compared → List ℕ → Type 0
by_detail Comparison options compared text = by_form options.report_form options compared text
by_detail Text options compared text = IsDifferencesText (unwrap_or options.first 4294967295) compared text
by_detail (Sql schema) options compared text = IsRepairText schema.now compared text

-- what the options show of rows
abbrev pub IsShown : Options → Compared → List ℕ → Type 0
IsShown options compared text = by_detail options.detail options compared text

-- ---- what is left on the writers

-- whether the rows are the same
abbrev pub IsVerdict : Verdict → DumpRowsValue → DumpRowsValue → Type 0
IsVerdict Same source target = source ≡ target
IsVerdict Differ source target = source ≢ target

-- such a text was printed; or want of memory, and then nothing was; or a write of it failed
abbrev pub PrintsSome : {X : Type 0} → (List ℕ → Type 0) → Result X CommandRefusal → Written → Written → Type 0
PrintsSome Shows (Ok x) old new = (text : List ℕ) × Shows text × IsWritten old new text
PrintsSome Shows (Err Memory) old new = new ≡ old
PrintsSome Shows (Err refusal) old new = IsUnwritten refusal × (text : List ℕ) × Shows text × BreaksOff old new text

-- so was what the options show
abbrev pub PrintsShown : {X : Type 0} → Options → Result X CommandRefusal → Compared → Written → Written → Type 0
PrintsShown options result compared old new = PrintsSome (IsShown options compared) result old new

-- two dumps were read, this is the verdict on them, and what the options show of them was printed
pub record IsShownAs (inputs : VdiffInputs) (verdict : Verdict) (old new : Written) : Type 0 where
  pub compared : Compared
  pub dumps : AreDumps inputs.workflow.items inputs.source.text inputs.target.text compared
  pub is_verdict : IsVerdict verdict compared.source compared.target
  pub text : List ℕ
  pub shown : IsShown inputs.options compared text
  pub printed : IsWritten old new text
