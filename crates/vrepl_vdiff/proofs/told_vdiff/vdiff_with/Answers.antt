use Rattle.vrepl_main.proofs.CommandLaws.{ends_found, ends_printed, ends_refused}
use Rattle.vrepl_vdiff.specs.ToldValue.{place_value}
use Rattle.vrepl_vdiff.proofs.told_vdiff.vdiff_with.Goals as goal

pub returns-in-Ok-Same-clause-ends : goal.returns-in-Ok-Same-clause-ends
returns-in-Ok-Same-clause-ends g c = ends_printed _ _ _ (rw c.in-Ok-Same.field-0-is at c.in-Ok-Same.ensures.shown)

pub returns-in-Ok-Differ-clause-ends : goal.returns-in-Ok-Differ-clause-ends
returns-in-Ok-Differ-clause-ends g c = ends_found _ _ _ (rw c.in-Ok-Differ.field-0-is at c.in-Ok-Differ.ensures.shown)

pub returns-in-Err-clause-ends : goal.returns-in-Err-clause-ends
returns-in-Err-clause-ends g c = ends_refused _ _ _ _ c.refuse_told.ensures.status (record {
  refusal = c.in-Err.told.refusal;
  place = place_value c.in-Err.told.place;
  told = c.in-Err.ensures.refused;
  line = c.refuse_told.ensures.line;
})
