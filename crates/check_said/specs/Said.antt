-- What `check` says of a workflow and its feeds (this profile).
use Rattle.std.specs.Prelude.{Option, Some, None, ℕ, ◌||◌, Bool, not, List, [], ◌∷◌, ◌++◌}
use Rattle.std.specs.List.{list_any}
use Rattle.feed_check.specs.Checked.{CheckedValue}
use Rattle.feed_check.specs.Report.{ReportValue, check_report_of}
use Rattle.vrepl_choices.specs.declared.report_form.ReportForm.{ReportForm}
use Rattle.vrepl_choices.specs.declared.report_form.ReportForm.TheVariants.{Lines, Json}
use Rattle.workflow_check.specs.File.{notes_of, note_lines, rules_text}
use Rattle.workflow_check.specs.Notes.{NoteValue, may_stand}
use Rattle.check_said.specs.Json.{check_data, json_line}

-- something of a file is a fault; something may well be so
abbrev pub are_warned : List NoteValue → Bool
are_warned notes = list_any (λ note. not (may_stand note.flaw)) notes

abbrev pub are_noted : List NoteValue → Bool
are_noted notes = list_any (λ note. may_stand note.flaw) notes

-- what the workflow file says stands before a report, and what is told of the file behind it
abbrev pub with_file : List ℕ → ReportValue → ReportValue
with_file workflow report = record {
  text = rules_text workflow ++ (report.text ++ note_lines (notes_of workflow));
  warned = report.warned || are_warned (notes_of workflow);
  noted = report.noted || are_noted (notes_of workflow);
}

-- the same in this form
abbrev pub said_as : ReportForm → List ℕ → List (List ℕ) → List CheckedValue → ReportValue → ReportValue
said_as Lines workflow files checks lines = lines
said_as Json workflow files checks lines = record { text = json_line (check_data workflow files checks lines.noted lines.warned); warned = lines.warned; noted = lines.noted }

-- what is said of a workflow's file and of checks of its feeds
abbrev pub said_of : ReportForm → List ℕ → List (List ℕ) → List CheckedValue → ReportValue
said_of form workflow files checks = said_as form workflow files checks (with_file workflow (check_report_of files checks))

-- a line in place of a text, where there is one
abbrev pub line_or : Option (List ℕ) → List ℕ → List ℕ
line_or None text = text
line_or (Some line) text = line
