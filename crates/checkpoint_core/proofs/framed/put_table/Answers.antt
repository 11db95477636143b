use Rattle.std.proofs.Common.{[], ◌∷◌, ◌++◌, ℕ, List, length, sym, ap, ◌∙◌, append_assoc, append-nil, arith}
use Rattle.std.proofs.lemmas.List.{length-append}
use Rattle.proto_wire.specs.Writing.{written_field, written_fields, number_field, text_field, message_field}
use Rattle.vevent.specs.ContentView.{answer_content}
use Rattle.vevent.specs.CheckpointPart.{mark_number}
use Rattle.vevent.specs.WrittenPart.{written_answer}
use Rattle.vevent.proofs.WritingSteps.{written_more}
use Rattle.checkpoint_core.proofs.framed.put_table.Goals as goal

pub make_message-requires : goal.make_message-requires
make_message-requires c =
    omega (arith, c.len-start.ensures, c.put_number.new.out.ok.0, ap length c.in_ok-write_answer.ensures.written, length-append c.put_number.new.out.items (written_answer (answer_content c.args.content.now.answer)))

pub returns : goal.returns
returns c =
    let part = c.args.content.now in
    let old = c.args.out.now.items in
    let front = c.put_number.new.out.items in
    let answer = written_answer (answer_content part.answer) in
    let one = number_field 1 (mark_number part.mark) in
    let two = message_field 2 answer ∷ [] in
    let mark = rw c.number.ensures at c.in_ok-put_number.ensures.written in
    let made = c.in_ok-make_message.ensures front answer (omega (arith, c.len-start.ensures, c.put_number.new.out.ok.0)) c.in_ok-write_answer.ensures.written in
    let message = made ∙ ap (λ (bytes : List ℕ). front ++ bytes) (sym (append-nil (written_field (message_field 2 answer)))) in
    let both = written_more old front c.make_message.new.out.items one two mark message in
    let all = written_more old c.make_message.new.out.items c.put_text.new.out.items (one ++ two) (text_field 3 part.name.now) both c.in_ok-put_text.ensures.written in
    all ∙ ap (λ fields. old ++ written_fields fields) (append_assoc one two (text_field 3 part.name.now))
