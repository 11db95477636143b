use Rattle.std.proofs.Common.{ap, subst, sym, ◌∙◌}
use Rattle.pk_copy.specs.KeyOrder.{key_cmp}
use Rattle.target_tables.specs.Rising.{IsRising}
use Rattle.dump.specs.DumpRowsValue.{all_rows}
use Rattle.dump.proofs.TableLaws.{rising_unowned}
use Rattle.dump.proofs.dump.write_target_dump.Goals as goal

pub write_lent-requires : goal.write_lent-requires
write_lent-requires g c =
    subst (IsRising key_cmp) (sym (c.new-lent.ensures ∙ ap all_rows c.iter.ensures.entries)) (rising_unowned c.args.target.now.entries c.iter.ensures.rising)

pub returns : goal.returns
returns g c = rw (c.new-lent.ensures, c.iter.ensures.entries) at c.write_lent.ensures
