use Rattle.std.proofs.Common.{◌∷◌, [], ◌++◌, ◌∙◌, ap, map}
use Rattle.event_laws.specs.WrittenMessages.{framed, written_response}
use Rattle.compaction.proofs.WritingLaws.{adds_fields}
use Rattle.compaction.proofs.base.write_fields.Goals as goal

pub returns-clause-adds : goal.returns-clause-adds
returns-clause-adds c =
    adds_fields c.args.out.now.items c.write_message.new.out.items (map (λ event. event.now) c.in_ok-events.events.items) c.args.fields.now c.in_ok-begin.begin.items
    (rw c.deref-2.ensures.value at c.in_ok-write_message.ensures.written) (rw c.deref.ensures.value at c.in_ok-events.ensures) c.in_ok-begin.ensures.read

pub returns-clause-bytes : goal.returns-clause-bytes
returns-clause-bytes c =
    (rw c.deref-2.ensures.value at c.in_ok-write_message.ensures.written)
    ∙ ap (λ events. c.args.out.now.items ++ framed (written_response events))
    ((rw c.deref.ensures.value at c.in_ok-events.ensures) ∙ ap (λ bytes. map (λ field. field.bytes) c.args.fields.now ++ bytes ∷ []) c.in_ok-begin.ensures.written)
