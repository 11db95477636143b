use Rattle.std.proofs.Common.{◌∙◌, ap}
use Rattle.vdiff.proofs.TogetherLaws.{processed_keys}
use Rattle.vdiff.specs.declared.report.Report.{Report}
use Rattle.vdiff.proofs.report.compare.Goals as goal

pub returns-clause-report : goal.returns-clause-report
returns-clause-report c = rw (← c.as_slice.ensures.rows, ← c.as_slice-2.ensures.rows) c.compare_rows.ensures

pub returns-clause-keys : goal.returns-clause-keys
returns-clause-keys c =
    let all = processed_keys (λ a b. (c.keys_tie_where_they_are_equal.ensures a b).0) c.args.source.now c.args.target.now c.as_slice.ensures.rising c.as_slice-2.ensures.rising in
    (all.0, all.1, ap (λ (r : Report). r.processed) (returns-clause-report c) ∙ all.2)
