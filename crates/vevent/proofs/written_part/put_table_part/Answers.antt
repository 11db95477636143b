use Rattle.std.proofs.Common.{[], ◌∷◌, ◌++◌, sym, ap, ◌∙◌, append_assoc}
use Rattle.proto_wire.specs.Writing.{written_fields, number_field, text_field, message_field}
use Rattle.vevent.specs.ContentView.{answer_content}
use Rattle.vevent.specs.CheckpointPart.{mark_number}
use Rattle.vevent.specs.WrittenPart.{written_answer}
use Rattle.vevent.proofs.WritingSteps.{written_more, message_written, begins_behind}
use Rattle.vevent.proofs.written_part.put_table_part.Goals as goal

pub returns-clause-written : goal.returns-clause-written
returns-clause-written c =
    let part = c.args.part.now in
    let old = c.args.out.now.items in
    let answer = written_answer (answer_content part.answer) in
    let one = number_field 1 (mark_number part.mark) in
    let two = message_field 2 answer ∷ [] in
    let mark = rw c.number.ensures at c.in_ok-put_number.ensures.written in
    let head = c.in_ok-put_bytes_head.ensures.written answer (sym c.in_ok-answer_size.ensures) in
    let message = message_written c.put_number.new.out.items c.put_bytes_head.new.out.items c.put_answer.new.out.items answer 2 head c.in_ok-put_answer.ensures.written in
    let both = written_more old c.put_number.new.out.items c.put_answer.new.out.items one two mark message in
    let all = written_more old c.put_answer.new.out.items c.put_text.new.out.items (one ++ two) (text_field 3 part.name.now) both c.in_ok-put_text.ensures.written in
    all ∙ ap (λ fields. old ++ written_fields fields) (append_assoc one two (text_field 3 part.name.now))

pub returns-clause-kept : goal.returns-clause-kept
returns-clause-kept c =
    let old = c.args.out.now.items in
    let head = begins_behind old c.put_number.new.out.items c.put_bytes_head.new.out.items c.put_number.ensures.kept c.put_bytes_head.ensures.kept in
    let answer = begins_behind old c.put_bytes_head.new.out.items c.put_answer.new.out.items head c.put_answer.ensures.kept in
    begins_behind old c.put_answer.new.out.items c.put_text.new.out.items answer c.put_text.ensures.kept

pub returns-in_err-put_bytes_head-clause-kept : goal.returns-in_err-put_bytes_head-clause-kept
returns-in_err-put_bytes_head-clause-kept c = begins_behind c.args.out.now.items c.put_number.new.out.items c.put_bytes_head.new.out.items c.put_number.ensures.kept c.put_bytes_head.ensures.kept

pub returns-in_err-put_answer-clause-kept : goal.returns-in_err-put_answer-clause-kept
returns-in_err-put_answer-clause-kept c =
    let old = c.args.out.now.items in
    let head = begins_behind old c.put_number.new.out.items c.put_bytes_head.new.out.items c.put_number.ensures.kept c.put_bytes_head.ensures.kept in
    begins_behind old c.put_bytes_head.new.out.items c.put_answer.new.out.items head c.put_answer.ensures.kept

pub returns-in_err-put_text-clause-kept : goal.returns-in_err-put_text-clause-kept
returns-in_err-put_text-clause-kept c =
    let old = c.args.out.now.items in
    let head = begins_behind old c.put_number.new.out.items c.put_bytes_head.new.out.items c.put_number.ensures.kept c.put_bytes_head.ensures.kept in
    let answer = begins_behind old c.put_bytes_head.new.out.items c.put_answer.new.out.items head c.put_answer.ensures.kept in
    begins_behind old c.put_answer.new.out.items c.put_text.new.out.items answer c.put_text.ensures.kept
