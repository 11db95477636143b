use Rattle.std.proofs.Common.{sym, subst}
use Rattle.std.specs.Prelude.{IsTrue}
use Rattle.pk_copy.specs.Marks.{Marks, is_past}
use Rattle.apply_core.proofs.CopyLaws.{key-past}
use Rattle.apply_core.proofs.stream.Stream.marks_behind.Goals as goal

pub move_to-requires : goal.move_to-requires
move_to-requires c =
    subst (λ (m : Marks). IsTrue (is_past m c.in-Some.key)) (sym c.in_ok-marks.ensures)
    (key-past _ _ c.self.view_is c.args._c c.args.step c.requires.moves c.in-Some.key c.in-Some.is (λ a b tie. (c.keys_tie_where_they_are_equal.ensures a b).0 tie))
