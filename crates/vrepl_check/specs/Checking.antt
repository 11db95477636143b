-- What the command `check` prints of a workflow and its feeds, and its verdict (this profile).
use Rattle.std.specs.Prelude.{◌≡◌, ℕ, ◌||◌, ◌&&◌, Bool, List, [], map, Option, None, Some, Result, Ok, Err, true, false}
use Rattle.list_laws.specs.Outcome.{◌>>=◌}
use Rattle.source_feed.specs.declared.fault.FeedFault.{FeedFault}
use Rattle.feed_check.specs.Checked.{CheckedValue, checked_feeds}
use Rattle.feed_check.specs.Report.{ReportValue}
use Rattle.check_said.specs.Said.{said_of}
use Rattle.vrepl_choices.specs.declared.report_form.ReportForm.{ReportForm}
use Rattle.vrepl_main.specs.HexText.{feed_bytes}
use Rattle.vrepl_main.specs.InputList.{bytes_of}
use Rattle.vrepl_main.specs.Opening.{OpenedValue, opened_bytes}
use Rattle.vrepl_main.specs.Reasons.{Reason, bad_feed}
use Rattle.vrepl_check.specs.declared.inputs.CheckInputs.{CheckInputs}
use Rattle.printing.specs.Printing.{Written}
use Rattle.vrepl_main.specs.Command.{Ends, IsGivenText, PrintsWhole}
use Rattle.vrepl_refusal.specs.Form.{PrintsPlacedAs}

-- the bytes of a feed; a workflow isn't opened over what has none
abbrev pub bytes_or_none : Option (List ℕ) → List ℕ
bytes_or_none None = []
bytes_or_none (Some bytes) = bytes

-- a feed is refused by its own number
abbrev pub said_checks : Result (List CheckedValue) FeedFault → Result (List CheckedValue) Reason
said_checks (Ok checks) = Ok checks
said_checks (Err fault) = Err (bad_feed fault)

-- the report on feeds that were opened of these bytes: refused by the first group that isn't sound
abbrev pub report_with : ReportForm → List (List ℕ) → List ℕ → List (Option (List ℕ)) → OpenedValue → Result ReportValue Reason
report_with form files workflow given opened = said_checks (checked_feeds (map bytes_or_none given) opened.feeds) >>= λ checks. Ok (said_of form workflow files checks)

-- the names of the feeds' files
abbrev pub names_of : CheckInputs → List (List ℕ)
names_of inputs = map (λ file. file.now) inputs.files.now

-- the report on a workflow with feeds of these bytes, in the form that is asked for; the faults of opening them come first
abbrev pub report_of_feeds : CheckInputs → List (Option (List ℕ)) → Result ReportValue Reason
report_of_feeds inputs given = opened_bytes inputs.workflow.items given >>= report_with inputs.report_form (names_of inputs) inputs.workflow.items given

-- the report on a workflow with its feeds, as these are given
abbrev pub report_asked : CheckInputs → Result ReportValue Reason
report_asked inputs = report_of_feeds inputs (map (feed_bytes inputs.feed_form) (bytes_of inputs.feeds.items))

-- the text of a report
abbrev pub text_of_report : Result ReportValue Reason → Result (List ℕ) Reason
text_of_report report = report >>= λ r. Ok r.text

-- a report finds something: it warns of it, or notes it where notes are as warnings
abbrev pub finds : Bool → ReportValue → Bool
finds strict report = report.warned || (strict && report.noted)

-- there is a report, and whether it finds anything is this
abbrev pub IsFound : Bool → Bool → Result ReportValue Reason → Type 0
IsFound strict found (Ok report) = finds strict report ≡ found
IsFound strict found (Err reason) = ⊥

-- there is a report, whether it finds anything is this, and it was printed whole
abbrev pub PrintsReport : Bool → CheckInputs → Written → Written → Type 0
PrintsReport found inputs old new = IsFound inputs.strict found (report_asked inputs) × PrintsWhole (text_of_report (report_asked inputs)) old new

-- how `check` ends: with 3 where the report finds something; which place is told of a refusal isn't said here
abbrev pub CheckEnds : CheckInputs → ℕ → Written → Written → Written → Written → Type 0
CheckEnds inputs status old new err_old err_new = Ends status (PrintsReport false inputs old new) (PrintsReport true inputs old new) (PrintsPlacedAs inputs.report_form IsGivenText (text_of_report (report_asked inputs)) old new err_old err_new)
