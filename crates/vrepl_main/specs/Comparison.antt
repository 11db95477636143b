-- What `vdiff` prints of two dumps, and why it refuses them (this profile, after Vitess's VDiff).
use Rattle.std.specs.Prelude.{◌≡◌, ◌≢◌, ◌⊎◌, ℕ, List, [], ◌∷◌, ◌++◌, Option, MatchOption, Result, Ok, Err, codes, decimal}
use Rattle.std.specs.Option.{option_map_or}
use Rattle.filter_rule.specs.PlanTable.{TableValue, name_of_table}
use Rattle.filter_rule.specs.PlanValue.{PlanValue}
use Rattle.filter_rule.specs.Reading.{plans_of}
use Rattle.pk_copy.specs.KeyValue.{KeyValue}
use Rattle.dump.specs.DumpReading.{IsDumpReading}
use Rattle.printing.specs.Printing.{Written, IsWritten, BreaksOff}
use Rattle.vdiff.specs.Report.{report_of, IsFirstDifference}
use Rattle.dump.specs.DumpRowsValue.{DumpRowsValue}
use Rattle.vdiff.specs.declared.report.Report.{Report}
use Rattle.vrepl_main.specs.Command.{RefusesCommand, Ends}
use Rattle.vrepl_main.specs.Printing.{PrintsOrBreaks}
use Rattle.vrepl_main.specs.Reasons.{Reason, bad_workflow, bad_dump}
use Rattle.vrepl_main.specs.Refusals.{refusal_line}
use Rattle.printing.specs.declared.writer.OutFailed.{OutFailed}
use Rattle.dump.specs.KeyText.{key_text}
use Rattle.vrepl_main.specs.declared.comparing.Verdict.{Verdict}
use Rattle.vrepl_main.specs.declared.comparing.Verdict.TheVariants.{Same, Differ}
use Rattle.vrepl_main.specs.declared.refusal.CommandRefusal.{CommandRefusal}
use Rattle.vrepl_main.specs.declared.refusal.CommandRefusal.TheVariants.{Memory}

-- ---- text

-- a count behind its name
abbrev pub count_line : List ℕ → ℕ → List ℕ
count_line name count = name ++ decimal count ++ 10 ∷ []

-- the five counts, in this order
abbrev pub report_text : Report → List ℕ
report_text report =
    count_line (codes "processed ") report.processed ++ count_line (codes "matching ") report.matching ++ count_line (codes "mismatched ") report.mismatched ++ count_line (codes "extra source ") report.extra_source ++ count_line (codes "extra target ") report.extra_target

-- the table and the key of the first difference
abbrev pub first_line : List TableValue → KeyValue → List ℕ
first_line tables key = codes "first table " ++ name_of_table tables key.table ++ codes " key " ++ key_text key ++ 10 ∷ []

-- the same where there is one
abbrev pub first_text : List TableValue → Option KeyValue → List ℕ
first_text tables first = option_map_or (first_line tables) first []

-- ---- two dumps

-- rows of a source and of a target, under a plan
pub record Compared : Type 0 where
  pub plan : PlanValue
  pub source : DumpRowsValue
  pub target : DumpRowsValue

-- the counts, and behind them the least key at which the two differ, if there is one
pub record IsComparison (compared : Compared) (text : List ℕ) : Type 0 where
  pub first : Option KeyValue
  pub least : MatchOption first (compared.source ≡ compared.target) (IsFirstDifference compared.source compared.target)
  pub is_text : text ≡ report_text (report_of compared.source compared.target) ++ first_text compared.plan.tables first

-- two texts are dumps of these rows, under the first of a workflow's plans: they all have its tables
pub record AreDumps (workflow source target : List ℕ) (compared : Compared) : Type 0 where
  pub others : List PlanValue
  pub plans : plans_of workflow ≡ Ok (compared.plan ∷ others)
  pub source_read : IsDumpReading compared.plan source (Ok compared.source)
  pub target_read : IsDumpReading compared.plan target (Ok compared.target)

-- this is the first line that can't stand, in the source's text or, behind a dump of the source, in the target's
pub record IsBadLine (workflow source target : List ℕ) (line : ℕ) : Type 0 where
  pub plan : PlanValue
  pub others : List PlanValue
  pub plans : plans_of workflow ≡ Ok (plan ∷ others)
  pub bad : IsDumpReading plan source (Err line) ⊎ ((rows : DumpRowsValue) × IsDumpReading plan source (Ok rows) × IsDumpReading plan target (Err line))

-- what a workflow file and two texts are read as: rows to compare, or why there are none, the workflow's fault
-- before the source's and that before the target's
abbrev pub AreRead : List ℕ → List ℕ → List ℕ → Result Compared Reason → Type 0
AreRead workflow source target (Ok compared) = AreDumps workflow source target compared
AreRead workflow source target (Err (bad_workflow fault)) = plans_of workflow ≡ Err fault
AreRead workflow source target (Err (bad_dump line)) = IsBadLine workflow source target line
AreRead workflow source target (Err reason) = ⊥

-- they are read as one thing alone
abbrev pub AreTextsReadOnce : List ℕ → List ℕ → List ℕ → Type 0
AreTextsReadOnce workflow source target = (one other : Result Compared Reason) → AreRead workflow source target one → AreRead workflow source target other → one ≡ other

-- ---- what is left on the writers

-- whether the rows are the same
abbrev pub IsVerdict : Verdict → Compared → Type 0
IsVerdict Same compared = compared.source ≡ compared.target
IsVerdict Differ compared = compared.source ≢ compared.target

-- the comparison of rows was printed, and this is the verdict; or at a fault a beginning of it was
abbrev pub PrintsComparison : Result Verdict OutFailed → Compared → Written → Written → Type 0
PrintsComparison (Ok verdict) compared old new = IsVerdict verdict compared × (text : List ℕ) × IsComparison compared text × IsWritten old new text
PrintsComparison (Err fault) compared old new = (text : List ℕ) × IsComparison compared text × BreaksOff old new text

-- two dumps were read, this is the verdict on them, and their comparison was printed
abbrev pub IsComparedAs : Verdict → List ℕ → List ℕ → List ℕ → Written → Written → Type 0
IsComparedAs verdict workflow source target old new =
    (compared : Compared) × AreDumps workflow source target compared × PrintsComparison (Ok verdict) compared old new

-- a refusal says what the files are read as, unless memory ran out, and leaves nothing on standard output; or it is that
-- this can't be written, and then a write of it failed
abbrev pub RefusesDumps : List ℕ → List ℕ → List ℕ → CommandRefusal → Written → Written → Type 0
RefusesDumps workflow source target Memory old new = new ≡ old
RefusesDumps workflow source target refusal old new = (reading : Result Compared Reason) × AreRead workflow source target reading × RefusesCommand IsComparison refusal reading old new

-- such a refusal's line was printed whole on standard error, unless a write of it failed
abbrev pub PrintsDumpRefusal : List ℕ → List ℕ → List ℕ → Written → Written → Written → Written → Type 0
PrintsDumpRefusal workflow source target old new err_old err_new =
    (refusal : CommandRefusal) × RefusesDumps workflow source target refusal old new × PrintsOrBreaks err_old err_new (refusal_line refusal)

-- how `vdiff` ends: with 3 where the dumps differ
abbrev pub ComparisonEnds : List ℕ → List ℕ → List ℕ → ℕ → Written → Written → Written → Written → Type 0
ComparisonEnds workflow source target status old new err_old err_new =
    Ends status (IsComparedAs Same workflow source target old new) (IsComparedAs Differ workflow source target old new) (PrintsDumpRefusal workflow source target old new err_old err_new)
