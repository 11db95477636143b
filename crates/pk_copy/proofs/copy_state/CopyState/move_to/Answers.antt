use Rattle.std.proofs.Common.{subst, sym, ap}
use Rattle.pk_copy.specs.Marks.{KeepsInside, moved_to}
use Rattle.pk_copy.proofs.MarkLaws.{moved_to-keeps}
use Rattle.pk_copy.proofs.copy_state.CopyState.move_to.Goals as goal

pub returns-clause-kept : goal.returns-clause-kept
returns-clause-kept c =
    subst (KeepsInside c.args.self.now) (sym (ap (moved_to c.args.key) c.self.view_is)) (moved_to-keeps c.args.self.now c.args.key c.requires)
