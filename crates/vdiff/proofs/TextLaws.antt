-- Texts of many pieces, walked from the front.
use Rattle.std.proofs.Common.{◌≡◌, ◌∙◌, ap, ℕ, ◌+◌, ◌<◌, List, ◌++◌, length, drop, get_or, map, subst, Result}
use Rattle.std.proofs.lemmas.List.{drop_more}
use Rattle.std.specs.Prelude.{◌-◌}
use Rattle.std.proofs.lemmas.List.Concat.{flat_map-cons}
use Rattle.printing.specs.Printing.{Written, Adds, BreaksOff}
use Rattle.vdiff.specs.NamedReports.{named_report}
use Rattle.vdiff.specs.Texts.{table_text, tables_text}
use Rattle.vdiff.specs.declared.reports.TableReport.{TableReport}

-- ---- the parts of a key

-- ---- the lines of tables

pub first_table : (xs : List TableReport) (k : ℕ) (default : TableReport) → k < length xs
    → tables_text (map named_report (drop k xs)) ≡ table_text (named_report (get_or xs k default)) ++ tables_text (map named_report (drop (k + 1) xs))
first_table xs k default lt =
    ap (λ (ys : List TableReport). tables_text (map named_report ys)) (drop_more xs k default lt)
    ∙ flat_map-cons table_text (named_report (get_or xs k default)) (map named_report (drop (k + 1) xs))

-- ---- a text by another name

pub breaks_as : (old new : Written) (waited text whole : List ℕ) → text ≡ whole → BreaksOff old new (waited ++ text) → BreaksOff old new (waited ++ whole)
breaks_as old new waited text whole is broken = subst (λ (l : List ℕ). BreaksOff old new (waited ++ l)) is broken

pub adds_as : {X E : Type 0} (result : Result X E) (old : Written) (waited : List ℕ) (new : Written) (waits text whole : List ℕ) → text ≡ whole → Adds result old waited new waits text → Adds result old waited new waits whole
adds_as result old waited new waits text whole is added = subst (Adds result old waited new waits) is added
