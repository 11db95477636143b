use Rattle.std.proofs.Common.{subst, sym, ◌∙◌}
use Rattle.pk_copy.specs.KeyOrder.{key_cmp}
use Rattle.target_tables.specs.Rising.{IsRising}
use Rattle.dump.proofs.dump.write_dump.Goals as goal

pub write_lent-requires : goal.write_lent-requires
write_lent-requires g c = subst (IsRising key_cmp) (sym (c.new-lent.ensures ∙ c.as_slice.ensures.rows)) c.as_slice.ensures.rising

pub returns : goal.returns
returns g c = rw (c.new-lent.ensures, c.as_slice.ensures.rows) at c.write_lent.ensures
