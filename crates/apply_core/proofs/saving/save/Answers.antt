use Rattle.std.proofs.Common.{◌++◌, List, ℕ, sym, ap, ◌∙◌}
use Rattle.board_laws.specs.Meaning.{State}
use Rattle.checkpoint_laws.specs.declared.version.Version.TheVariants.{Two}
use Rattle.checkpoint_laws.specs.Written.{opening, written_checkpoint, written_parts, checkpoint_of}
use Rattle.apply_core.specs.Private.Saving.{parts_from}
use Rattle.apply_core.proofs.SaveLaws.{parts_of_board}
use Rattle.apply_core.proofs.saving.save.Goals as goal

pub returns : goal.returns
returns c =
    c.in_ok-put_parts.ensures
    ∙ ap (λ (xs : List ℕ). xs ++ written_parts (parts_from 0 c.deref.result.now c.board.inside.rows.entries)) c.in_ok-out.ensures.items
    ∙ ap (λ (streams : List State). opening Two ++ written_parts (parts_from 0 streams c.board.inside.rows.entries)) c.deref.ensures.value
    ∙ ap (written_checkpoint Two) (sym (parts_of_board 0 c.board.inside.streams.items c.board.inside.rows.entries))
    ∙ ap checkpoint_of c.board.view_is
