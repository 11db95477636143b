use Rattle.std.proofs.Common.{◌++◌}
use Rattle.std.proofs.lemmas.Result.{err_from_is_err_and}
use Rattle.std.specs.Prelude.{codes}
use Rattle.vrepl_main.specs.Comparison.{count_line}
use Rattle.vrepl_main.proofs.AddLaws.{first_stops, then_prints, then_put, then_stops}
use Rattle.vrepl_main.proofs.comparing.print_report.Goals as goal

pub returns-in_err-print_count : goal.returns-in_err-print_count
returns-in_err-print_count g c =
    let report = c.args.report.now in
    let t2 = (count_line (codes "processed ") report.processed) ++ (count_line (codes "matching ") report.matching) in
    let t3 = t2 ++ (count_line (codes "mismatched ") report.mismatched) in
    let t4 = t3 ++ (count_line (codes "extra source ") report.extra_source) in
    let p = err_from_is_err_and c.from_residual.result c.from_residual.ensures.1 in
    rw p.1 (first_stops _ _ t4 (count_line (codes "extra target ") report.extra_target) (first_stops _ _ t3 (count_line (codes "extra source ") report.extra_source) (first_stops _ _ t2 (count_line (codes "mismatched ") report.mismatched) (first_stops _ _ (count_line (codes "processed ") report.processed) (count_line (codes "matching ") report.matching) c.in_err-print_count.ensures))))

pub returns-in_err-print_count-2 : goal.returns-in_err-print_count-2
returns-in_err-print_count-2 g c =
    let report = c.args.report.now in
    let t2 = (count_line (codes "processed ") report.processed) ++ (count_line (codes "matching ") report.matching) in
    let t3 = t2 ++ (count_line (codes "mismatched ") report.mismatched) in
    let t4 = t3 ++ (count_line (codes "extra source ") report.extra_source) in
    let p = err_from_is_err_and c.from_residual-in_err-print_count-2.result c.from_residual-in_err-print_count-2.ensures.1 in
    rw p.1 (first_stops _ _ t4 (count_line (codes "extra target ") report.extra_target) (first_stops _ _ t3 (count_line (codes "extra source ") report.extra_source) (first_stops _ _ t2 (count_line (codes "mismatched ") report.mismatched) (then_stops _ _ _ (count_line (codes "processed ") report.processed) (count_line (codes "matching ") report.matching) c.in_ok-print_count.ensures c.in_err-print_count-2.ensures))))

pub returns-in_err-print_count-3 : goal.returns-in_err-print_count-3
returns-in_err-print_count-3 g c =
    let report = c.args.report.now in
    let t2 = (count_line (codes "processed ") report.processed) ++ (count_line (codes "matching ") report.matching) in
    let t3 = t2 ++ (count_line (codes "mismatched ") report.mismatched) in
    let t4 = t3 ++ (count_line (codes "extra source ") report.extra_source) in
    let p = err_from_is_err_and c.from_residual-in_err-print_count-3.result c.from_residual-in_err-print_count-3.ensures.1 in
    rw p.1 (first_stops _ _ t4 (count_line (codes "extra target ") report.extra_target) (first_stops _ _ t3 (count_line (codes "extra source ") report.extra_source) (then_stops _ _ _ t2 (count_line (codes "mismatched ") report.mismatched) (then_put _ _ _ (count_line (codes "processed ") report.processed) (count_line (codes "matching ") report.matching) c.in_ok-print_count.ensures c.in_ok-print_count-2.ensures) c.in_err-print_count-3.ensures)))

pub returns-in_err-print_count-4 : goal.returns-in_err-print_count-4
returns-in_err-print_count-4 g c =
    let report = c.args.report.now in
    let t2 = (count_line (codes "processed ") report.processed) ++ (count_line (codes "matching ") report.matching) in
    let t3 = t2 ++ (count_line (codes "mismatched ") report.mismatched) in
    let t4 = t3 ++ (count_line (codes "extra source ") report.extra_source) in
    let p = err_from_is_err_and c.from_residual-in_err-print_count-4.result c.from_residual-in_err-print_count-4.ensures.1 in
    rw p.1 (first_stops _ _ t4 (count_line (codes "extra target ") report.extra_target) (then_stops _ _ _ t3 (count_line (codes "extra source ") report.extra_source) (then_put _ _ _ t2 (count_line (codes "mismatched ") report.mismatched) (then_put _ _ _ (count_line (codes "processed ") report.processed) (count_line (codes "matching ") report.matching) c.in_ok-print_count.ensures c.in_ok-print_count-2.ensures) c.in_ok-print_count-3.ensures) c.in_err-print_count-4.ensures))

pub returns : goal.returns
returns g c =
    let report = c.args.report.now in
    let t2 = (count_line (codes "processed ") report.processed) ++ (count_line (codes "matching ") report.matching) in
    let t3 = t2 ++ (count_line (codes "mismatched ") report.mismatched) in
    let t4 = t3 ++ (count_line (codes "extra source ") report.extra_source) in
    then_prints c.print_count-5.result _ _ _ t4 (count_line (codes "extra target ") report.extra_target) (then_put _ _ _ t3 (count_line (codes "extra source ") report.extra_source) (then_put _ _ _ t2 (count_line (codes "mismatched ") report.mismatched) (then_put _ _ _ (count_line (codes "processed ") report.processed) (count_line (codes "matching ") report.matching) c.in_ok-print_count.ensures c.in_ok-print_count-2.ensures) c.in_ok-print_count-3.ensures) c.in_ok-print_count-4.ensures) c.print_count-5.ensures
