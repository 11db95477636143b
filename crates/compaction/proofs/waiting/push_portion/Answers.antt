use Rattle.std.proofs.Common.{◌++◌, ap, ◌∙◌}
use Rattle.std.proofs.lemmas.Str.{is_utf8-from_IsUtf8}
use Rattle.compaction.specs.Private.Sized.{joined}
use Rattle.compaction.proofs.SizedLaws.{joined-push}
use Rattle.compaction.proofs.WritingLaws.{adds_portion}
use Rattle.compaction.proofs.waiting.push_portion.Goals as goal

pub returns-clause-adds : goal.returns-clause-adds
returns-clause-adds c =
    adds_portion c.events_are_read_again.ensures (joined c.args.portions.now.items) (joined c.push.new.self.items) c.in_ok-portion.portion c.args.name.now c.args.rows.items (is_utf8-from_IsUtf8 c.args.name.now c.utf8.name)
    c.requires.limits c.is_counted.ensures c.in_ok-portion.ensures (ap joined c.in_ok-push.ensures.items ∙ joined-push c.args.portions.now.items c.in_ok-portion.portion)

pub returns-clause-bytes : goal.returns-clause-bytes
returns-clause-bytes c =
    ap joined c.in_ok-push.ensures.items ∙ joined-push c.args.portions.now.items c.in_ok-portion.portion ∙ ap (λ bytes. joined c.args.portions.now.items ++ bytes) c.in_ok-portion.ensures
