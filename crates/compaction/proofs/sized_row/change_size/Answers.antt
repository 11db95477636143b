use Rattle.std.proofs.Common.{◌∙◌, sym, ap}
use Rattle.compaction.specs.Private.Sized.{held_size}
use Rattle.compaction.proofs.SizedLaws.{change_long}
use Rattle.compaction.proofs.sized_row.change_size.Goals as goal

pub returns : goal.returns
returns c = c.held_size-2.ensures.size ∙ ap held_size (c.held_size.ensures.size ∙ ap held_size c.size.ensures.size) ∙ sym (change_long c.args.row.now)
