use Rattle.std.proofs.Common.{◌≡◌, ◌-◌, ◌∙◌, Some, sym, ap, length}
use Rattle.std.specs.Prelude.{slice_get}
use Rattle.std.specs.Ordering.{is_lt}
use Rattle.std.specs.Option.{option_copied}
use Rattle.dump.specs.DumpRowsValue.{DumpRowsValue}
use Rattle.dump.proofs.RowsLaws.{behind_last}
use Rattle.dump.proofs.rows.DumpRows.is_behind_all.Goals as goal

pub returns-in-Some : goal.returns-in-Some
returns-in-Some c =
    let rows : DumpRowsValue = c.self.inside.pairs.items in
    let last : Some c.in-Some.field-0.now ≡ slice_get rows (length rows - 1) =
    rw (← c.deref.ensures.value) (sym (ap option_copied c.in-Some.is) ∙ c.last.ensures.value) in
    let both = behind_last rows c.in-Some.field-0.now c.args.key.now c.self.invariant last in
    let told = c.is_lt.ensures ∙ ap is_lt c.cmp.ensures in
    rw (told, ← c.self.view_is) both
