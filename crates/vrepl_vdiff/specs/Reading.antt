-- What is told of a dump that isn't read.
use Rattle.std.specs.Prelude.{◌≡◌, ℕ, List}
use Rattle.filter_rule.specs.PlanValue.{PlanValue}
use Rattle.dump.specs.DumpReading.{IsFirstBad}
use Rattle.vrepl_choices.specs.declared.report_form.ReportForm.{ReportForm}
use Rattle.vrepl_main.specs.declared.refusal.CommandRefusal.{CommandRefusal}
use Rattle.vrepl_main.specs.declared.refusal.CommandRefusal.TheVariants.{Memory, BadDump}
use Rattle.vrepl_vdiff.specs.NamedDump.{NamedDump}
use Rattle.vrepl_vdiff.specs.Told.{place_of}
use Rattle.vrepl_vdiff.specs.ToldValue.{place_value}
use Rattle.vrepl_vdiff.specs.declared.told.Told.{Told}

-- the refusal is of memory, or of the dump's first bad line
abbrev pub IsOfDump : PlanValue → List ℕ → CommandRefusal → Type 0
IsOfDump plan text Memory = Unit {0}
IsOfDump plan text (BadDump line) = IsFirstBad plan text line
IsOfDump plan text refusal = ⊥

-- and its place names the dump
abbrev pub IsNamedBad : ReportForm → PlanValue → NamedDump → Told → Type 0
IsNamedBad form plan dump told = IsOfDump plan dump.text told.refusal × (place_value told.place ≡ place_of form told.refusal dump.name)
