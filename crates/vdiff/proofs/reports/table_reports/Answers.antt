use Rattle.std.proofs.Common.{rules, ◌≡◌, ◌∙◌, ◌++◌, ◌∷◌, [], ap, map, length, take}
use Rattle.std.specs.Option.{unwrap_or}
use Rattle.std.proofs.lemmas.List.{map-append}
use Rattle.vdiff.specs.Report.{report_of}
use Rattle.vdiff.specs.NamedReports.{named_report}
use Rattle.vdiff.specs.Reports.{NamedReport}
use Rattle.vdiff.specs.declared.reports.TableReport.{TableReport}
use Rattle.vdiff.proofs.TableLaws.{reports_start, reports_more, rising_front}
use Rattle.vdiff.proofs.reports.table_reports.Goals as goal

pub loop-t-init : goal.loop-t-init
loop-t-init c = rw (c.as_slice-left.ensures.rows, c.as_slice-right.ensures.rows) (reports_start _ _ _ _ (search rules) c.as_slice-left.ensures.rising c.as_slice-right.ensures.rising)

pub compare_rows-requires-clause-source : goal.compare_rows-requires-clause-source
compare_rows-requires-clause-source c = rw c.split_at.ensures.front (rising_front _ _ c.loop-t.invariant.left_rises)

pub compare_rows-requires-clause-target : goal.compare_rows-requires-clause-target
compare_rows-requires-clause-target c = rw c.split_at-in-loop-t.ensures.front (rising_front _ _ c.loop-t.invariant.right_rises)

pub loop-t-preserved : goal.loop-t-preserved
loop-t-preserved c =
    let table = c.index-tables-t.result in
    let left = c.loop-t.left.now in
    let right = c.loop-t.right.now in
    let n = c.unwrap_or.result in
    let m = c.unwrap_or-in-loop-t.result in
    let made : c.compare_rows.result ≡ report_of (take n left) (take m right) = rw (c.split_at.ensures.front, c.split_at-in-loop-t.ensures.front) at c.compare_rows.ensures in
    let table_report : TableReport = record { name = c.name.result; report = c.compare_rows.result } in
    let named : NamedReport = record { name = table.name; report = report_of (take n left) (take m right) } in
    let pushed : c.push.new.self.items ≡ c.loop-t.reports.items ++ table_report ∷ [] = search rules in
    let one : named_report table_report ≡ named = λ i. record { name = c.name.ensures i; report = made i } in
    let grown : map named_report c.push.new.self.items ≡ map named_report c.loop-t.reports.items ++ named ∷ [] =
    ap (map named_report) pushed ∙ map-append named_report c.loop-t.reports.items (table_report ∷ []) ∙ ap (λ (r : NamedReport). map named_report c.loop-t.reports.items ++ r ∷ []) one in
    rw (c.split_at.ensures.back, c.split_at-in-loop-t.ensures.back, grown)
    (reports_more _ _ _ c.loop-t.t table left right (map named_report c.loop-t.reports.items) n m c.loop-t-test.true c.index-tables-t.is
    (c.unwrap_or.ensures ∙ ap (λ place. unwrap_or place (length left)) c.place_of_other.ensures)
    (c.unwrap_or-in-loop-t.ensures ∙ ap (λ place. unwrap_or place (length right)) c.place_of_other-in-loop-t.ensures) c.loop-t.invariant)
