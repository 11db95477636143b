-- What a call that compares two dumps gives (this profile).
use Rattle.std.specs.Prelude.{◌≡◌, ◌⊎◌, ℕ, Bool, true, false, List}
use Rattle.filter_rule.specs.PlanValue.{PlanValue}
use Rattle.vdiff.specs.declared.report.Report.{Report}
use Rattle.vrepl_c.specs.Dumps.{AreCompared, IsBadLine}
use Rattle.vrepl_c.specs.Room.{IsPut}
use Rattle.vrepl_c.specs.declared.compare.Counts.{Counts}
use Rattle.vrepl_c.specs.declared.compare.Refused.{Refused}
use Rattle.vrepl_c.specs.declared.compare.Refused.TheVariants.{Source, Target, Memory}

-- the counts as C has them
abbrev pub counts_of : Report → Counts
counts_of report = record { processed = report.processed; matching = report.matching; mismatched = report.mismatched; extra_source = report.extra_source; extra_target = report.extra_target }

-- two dumps were compared and their first differences put into the room, or this is the first line that can't stand
abbrev pub Compares : PlanValue → List ℕ → List ℕ → ℕ → ℕ → Counts → ℕ → Bool → List ℕ → List ℕ → ℕ → Type 0
Compares plan source target most number counts line in_target old new said =
    ((number ≡ 0) × (report : Report) × (bytes : List ℕ) × AreCompared plan source target most report bytes × (counts ≡ counts_of report) × IsPut bytes old new said)
    ⊎ ((number ≡ 121) × IsBadLine plan source target line in_target)

-- why a step of the code compares nothing
abbrev pub IsRefusedFor : PlanValue → List ℕ → List ℕ → Refused → Type 0
IsRefusedFor plan source target (Source line) = IsBadLine plan source target line false
IsRefusedFor plan source target (Target line) = IsBadLine plan source target line true
IsRefusedFor plan source target Memory = Unit {0}
