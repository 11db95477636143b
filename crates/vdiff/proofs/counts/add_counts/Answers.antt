use Rattle.std.proofs.Common.{◌++◌, [], ◌∷◌}
use Rattle.std.proofs.lemmas.Result.{err_from_is_err_and}
use Rattle.std.specs.Prelude.{codes}
use Rattle.vdiff.specs.Texts.{count_text}
use Rattle.printing.proofs.PrintLaws.{adding_breaks, added_breaks, added_more, then_adds}
use Rattle.vdiff.proofs.counts.add_counts.Goals as goal

pub returns-in_err-add_count : goal.returns-in_err-add_count
returns-in_err-add_count g c =
    let report = c.args.report.now in
    let between = c.args.between.now in
    let t2 = (count_text (codes "processed ") report.processed between) ++ (count_text (codes "matching ") report.matching between) in
    let t3 = t2 ++ (count_text (codes "mismatched ") report.mismatched between) in
    let t4 = t3 ++ (count_text (codes "extra source ") report.extra_source between) in
    let p = err_from_is_err_and c.from_residual.result c.from_residual.ensures.1 in
    rw p.1 (adding_breaks _ _ c.args.text.now t4 (count_text (codes "extra target ") report.extra_target (10 ∷ [])) (adding_breaks _ _ c.args.text.now t3 (count_text (codes "extra source ") report.extra_source between) (adding_breaks _ _ c.args.text.now t2 (count_text (codes "mismatched ") report.mismatched between) (adding_breaks _ _ c.args.text.now (count_text (codes "processed ") report.processed between) (count_text (codes "matching ") report.matching between) c.in_err-add_count.ensures))))

pub returns-in_err-add_count-2 : goal.returns-in_err-add_count-2
returns-in_err-add_count-2 g c =
    let report = c.args.report.now in
    let between = c.args.between.now in
    let t2 = (count_text (codes "processed ") report.processed between) ++ (count_text (codes "matching ") report.matching between) in
    let t3 = t2 ++ (count_text (codes "mismatched ") report.mismatched between) in
    let t4 = t3 ++ (count_text (codes "extra source ") report.extra_source between) in
    let p = err_from_is_err_and c.from_residual-in_err-add_count-2.result c.from_residual-in_err-add_count-2.ensures.1 in
    rw p.1 (adding_breaks _ _ c.args.text.now t4 (count_text (codes "extra target ") report.extra_target (10 ∷ [])) (adding_breaks _ _ c.args.text.now t3 (count_text (codes "extra source ") report.extra_source between) (adding_breaks _ _ c.args.text.now t2 (count_text (codes "mismatched ") report.mismatched between) (added_breaks _ _ _ _ _ (count_text (codes "processed ") report.processed between) (count_text (codes "matching ") report.matching between) c.in_ok-add_count.ensures c.in_err-add_count-2.ensures))))

pub returns-in_err-add_count-3 : goal.returns-in_err-add_count-3
returns-in_err-add_count-3 g c =
    let report = c.args.report.now in
    let between = c.args.between.now in
    let t2 = (count_text (codes "processed ") report.processed between) ++ (count_text (codes "matching ") report.matching between) in
    let t3 = t2 ++ (count_text (codes "mismatched ") report.mismatched between) in
    let t4 = t3 ++ (count_text (codes "extra source ") report.extra_source between) in
    let p = err_from_is_err_and c.from_residual-in_err-add_count-3.result c.from_residual-in_err-add_count-3.ensures.1 in
    rw p.1 (adding_breaks _ _ c.args.text.now t4 (count_text (codes "extra target ") report.extra_target (10 ∷ [])) (adding_breaks _ _ c.args.text.now t3 (count_text (codes "extra source ") report.extra_source between) (added_breaks _ _ _ _ _ t2 (count_text (codes "mismatched ") report.mismatched between) (added_more _ _ _ _ _ _ (count_text (codes "processed ") report.processed between) (count_text (codes "matching ") report.matching between) c.in_ok-add_count.ensures c.in_ok-add_count-2.ensures) c.in_err-add_count-3.ensures)))

pub returns-in_err-add_count-4 : goal.returns-in_err-add_count-4
returns-in_err-add_count-4 g c =
    let report = c.args.report.now in
    let between = c.args.between.now in
    let t2 = (count_text (codes "processed ") report.processed between) ++ (count_text (codes "matching ") report.matching between) in
    let t3 = t2 ++ (count_text (codes "mismatched ") report.mismatched between) in
    let t4 = t3 ++ (count_text (codes "extra source ") report.extra_source between) in
    let p = err_from_is_err_and c.from_residual-in_err-add_count-4.result c.from_residual-in_err-add_count-4.ensures.1 in
    rw p.1 (adding_breaks _ _ c.args.text.now t4 (count_text (codes "extra target ") report.extra_target (10 ∷ [])) (added_breaks _ _ _ _ _ t3 (count_text (codes "extra source ") report.extra_source between) (added_more _ _ _ _ _ _ t2 (count_text (codes "mismatched ") report.mismatched between) (added_more _ _ _ _ _ _ (count_text (codes "processed ") report.processed between) (count_text (codes "matching ") report.matching between) c.in_ok-add_count.ensures c.in_ok-add_count-2.ensures) c.in_ok-add_count-3.ensures) c.in_err-add_count-4.ensures))

pub returns : goal.returns
returns g c =
    let report = c.args.report.now in
    let between = c.args.between.now in
    let t2 = (count_text (codes "processed ") report.processed between) ++ (count_text (codes "matching ") report.matching between) in
    let t3 = t2 ++ (count_text (codes "mismatched ") report.mismatched between) in
    let t4 = t3 ++ (count_text (codes "extra source ") report.extra_source between) in
    then_adds c.add_count-5.result _ _ _ _ _ _ t4 (count_text (codes "extra target ") report.extra_target (10 ∷ [])) (added_more _ _ _ _ _ _ t3 (count_text (codes "extra source ") report.extra_source between) (added_more _ _ _ _ _ _ t2 (count_text (codes "mismatched ") report.mismatched between) (added_more _ _ _ _ _ _ (count_text (codes "processed ") report.processed between) (count_text (codes "matching ") report.matching between) c.in_ok-add_count.ensures c.in_ok-add_count-2.ensures) c.in_ok-add_count-3.ensures) c.in_ok-add_count-4.ensures) c.add_count-5.ensures
