use Rattle.std.proofs.Common.{◌∷◌, [], ◌++◌, ◌∙◌, ap}
use Rattle.event_laws.specs.WrittenMessages.{framed, written_response}
use Rattle.compaction.proofs.WritingLaws.{adds_end}
use Rattle.compaction.proofs.base.write_end.Goals as goal

pub returns-clause-adds : goal.returns-clause-adds
returns-clause-adds c =
    adds_end c.args.out.now.items c.write_message.new.out.items c.args.place.now c.in_ok-commit.commit.items (rw c.deref.ensures.value at c.in_ok-write_message.ensures.written) c.in_ok-commit.ensures.read

pub returns-clause-bytes : goal.returns-clause-bytes
returns-clause-bytes c =
    (rw c.deref.ensures.value at c.in_ok-write_message.ensures.written)
    ∙ ap (λ bytes. c.args.out.now.items ++ framed (written_response (c.args.place.now ∷ bytes ∷ []))) c.in_ok-commit.ensures.written
