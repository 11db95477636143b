use Rattle.std.proofs.Common.{◌≡◌, ℕ, length}
use Rattle.filter_rule.specs.PlanValue.{kept_columns_of}
use Rattle.dump.specs.DumpReading.{FitsPlan}
use Rattle.dump.specs.DumpRowsValue.{RowValue}
use Rattle.pk_copy.specs.KeyValue.{KeyValue}
use Rattle.list_laws.proofs.Fronts.{each}
use Rattle.vdiff_patch.proofs.RepairLaws.{patch_repairs}
use Rattle.vdiff_patch.proofs.RisingLaws.{patch_rises}
use Rattle.vdiff_patch.proofs.laws.patches_repair.Goals as goal

pub returns : goal.returns
returns c =
    let plan = c.args.plan.now in
    let width = λ (t : ℕ). length (kept_columns_of plan t) in
    let tie = λ (a b : KeyValue). (c.keys_tie_where_they_are_equal.ensures a b).0 in
    let wide = λ (row : KeyValue × RowValue) (fits : FitsPlan plan row). fits.width in
    record {
      repairs = patch_repairs width tie c.args.source.now c.args.target.now c.as_slice-source.ensures.rising c.as_slice-target.ensures.rising
          (record { each_row = each (FitsPlan plan) (λ row. length row.1 ≡ width row.0.table) wide c.args.source.now c.requires.source })
          (record { each_row = each (FitsPlan plan) (λ row. length row.1 ≡ width row.0.table) wide c.args.target.now c.requires.target });
      rising = patch_rises tie c.args.source.now c.args.target.now c.as_slice-source.ensures.rising c.as_slice-target.ensures.rising;
    }
