-- What `vdiff` tells of a refusal by its options (this profile).
use Rattle.std.specs.Prelude.{◌≡◌, ◌⊎◌, ℕ, List, ◌∷◌, ◌++◌, Option, None, Some, Result, Ok, Err, codes}
use Rattle.filter_rule.specs.PlanValue.{PlanValue}
use Rattle.filter_rule.specs.Reading.{plans_of}
use Rattle.dump.specs.DumpReading.{IsDumpReading}
use Rattle.printing.specs.Printing.{Written}
use Rattle.dump.specs.DumpRowsValue.{DumpRowsValue}
use Rattle.vrepl_choices.specs.declared.report_form.ReportForm.{ReportForm}
use Rattle.vrepl_choices.specs.declared.report_form.ReportForm.TheVariants.{Json}
use Rattle.vrepl_main.specs.Command.{RefusesCommand, Ends}
use Rattle.vrepl_main.specs.Comparison.{AreRead, Compared}
use Rattle.vrepl_main.specs.Printing.{PrintsOrBreaks}
use Rattle.vrepl_main.specs.Reasons.{Reason}
use Rattle.vrepl_main.specs.declared.refusal.CommandRefusal.{CommandRefusal}
use Rattle.vrepl_main.specs.declared.refusal.CommandRefusal.TheVariants.{Memory, BadDump}
use Rattle.vrepl_refusal.specs.Form.{line_as}
use Rattle.vrepl_vdiff.specs.Shown.{IsShown, IsShownAs}
use Rattle.vrepl_vdiff.specs.declared.inputs.VdiffInputs.{VdiffInputs}
use Rattle.vrepl_main.specs.declared.comparing.Verdict.TheVariants.{Same, Differ}

-- this line is bad in the dump of this name: the source's, or behind a dump of the source the target's
pub record IsBadIn (inputs : VdiffInputs) (line : ℕ) (name : List ℕ) : Type 0 where
  pub plan : PlanValue
  pub others : List PlanValue
  pub plans : plans_of inputs.workflow.items ≡ Ok (plan ∷ others)
  pub bad : ((name ≡ inputs.source.name) × IsDumpReading plan inputs.source.text (Err line)) ⊎ ((name ≡ inputs.target.name) × ((rows : DumpRowsValue) × IsDumpReading plan inputs.source.text (Ok rows) × IsDumpReading plan inputs.target.text (Err line)))

-- the place that is told: with JSON a bad dump is named
abbrev pub place_of : ReportForm → CommandRefusal → List ℕ → Option (List ℕ)
place_of Json (BadDump bad) name = Some (codes "file " ++ name)
place_of form refusal name = None

-- the name is that of the bad dump, where there is one
abbrev pub NamesBad : VdiffInputs → CommandRefusal → List ℕ → Type 0
NamesBad inputs (BadDump bad) name = IsBadIn inputs bad name
NamesBad inputs refusal name = Unit {0}

-- a refusal says what the files are read as, unless memory ran out, and leaves nothing on standard output; or it is that
-- this can't be written, and then a write of it failed
abbrev pub RefusesShown : VdiffInputs → CommandRefusal → Written → Written → Type 0
RefusesShown inputs Memory old new = new ≡ old
RefusesShown inputs refusal old new = (reading : Result Compared Reason) × AreRead inputs.workflow.items inputs.source.text inputs.target.text reading × RefusesCommand (IsShown inputs.options) refusal reading old new

-- such a refusal, and the place of its fault
pub record IsTold (inputs : VdiffInputs) (refusal : CommandRefusal) (place : Option (List ℕ)) (old new : Written) : Type 0 where
  pub refuses : RefusesShown inputs refusal old new
  pub name : List ℕ
  pub names : NamesBad inputs refusal name
  pub is_place : place ≡ place_of inputs.options.report_form refusal name

-- its line was printed whole on standard error in the form that is asked for, unless a write of it failed
pub record PrintsTold (inputs : VdiffInputs) (old new err_old err_new : Written) : Type 0 where
  pub refusal : CommandRefusal
  pub place : Option (List ℕ)
  pub told : IsTold inputs refusal place old new
  pub line : PrintsOrBreaks err_old err_new (line_as inputs.options.report_form place refusal)

-- how `vdiff` with options ends: with 3 where the dumps differ
abbrev pub ShownEnds : VdiffInputs → ℕ → Written → Written → Written → Written → Type 0
ShownEnds inputs status old new err_old err_new = Ends status (IsShownAs inputs Same old new) (IsShownAs inputs Differ old new) (PrintsTold inputs old new err_old err_new)
