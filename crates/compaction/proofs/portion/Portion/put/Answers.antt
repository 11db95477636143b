use Rattle.std.proofs.Common.{◌++◌, ap}
use Rattle.json_pieces.proofs.TellLaws.{same_text, then_tells}
use Rattle.compaction.specs.Private.Sized.{change_fields}
use Rattle.compaction.proofs.portion.Portion.put.Goals as goal

pub returns : goal.returns
returns g c =
    let head = c.self.inside.head.items in
    let changes = change_fields c.self.inside.rows.items in
    same_text _ _ (head ++ changes) c.args.self.now c.self.view_is
    (then_tells _ _ _ head changes (same_text _ _ _ head c.deref.ensures.value c.put.ensures) (same_text _ _ _ changes (ap change_fields c.deref-2.ensures.value) c.put_changes.ensures))
