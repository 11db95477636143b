use Rattle.std.proofs.Common.{◌++◌, map, sym, ap, ◌∙◌}
use Rattle.proto_wire.specs.Writing.{written_fields}
use Rattle.vevent.specs.WrittenEvent.{message_fields, written_change}
use Rattle.vevent.proofs.WritingSteps.{message_then, nothing_then, begins_behind}
use Rattle.vevent.proofs.written_changes.put_changes.Goals as goal

pub loop-change-preserved : goal.loop-change-preserved
loop-change-preserved c =
    let out = c.loop-change.out.items in
    let mid = c.put_bytes_head.new.out.items in
    let new = c.put_change.new.out.items in
    let message = written_change c.in-Some.change in
    let is = ap (λ xs. out ++ written_fields (message_fields 2 (map written_change xs))) (sym c.in-Some.ensures.steps) ∙ c.loop-change.invariant.0 in
    let head = c.in_ok-put_bytes_head.ensures.written message (sym c.in_ok-change_size.ensures) in
    let kept = begins_behind c.args.out.now.items out mid c.loop-change.invariant.1 c.put_bytes_head.ensures.kept in
    (message_then _ out mid new message 2 (message_fields 2 (map written_change c.next.new.self)) is head c.in_ok-put_change.ensures.written, begins_behind c.args.out.now.items mid new kept c.put_change.ensures.kept)

pub returns-clause-written : goal.returns-clause-written
returns-clause-written c =
    let out = c.loop-change.out.items in
    let is = ap (λ xs. out ++ written_fields (message_fields 2 (map written_change xs))) (sym c.in-None.ensures.steps.0) ∙ c.loop-change.invariant.0 in
    nothing_then _ out is

pub returns-clause-kept : goal.returns-clause-kept
returns-clause-kept c = c.loop-change.invariant.1

pub returns-in_err-put_bytes_head-clause-kept : goal.returns-in_err-put_bytes_head-clause-kept
returns-in_err-put_bytes_head-clause-kept c = begins_behind c.args.out.now.items c.loop-change.out.items c.put_bytes_head.new.out.items c.loop-change.invariant.1 c.put_bytes_head.ensures.kept

pub returns-in_err-put_change-clause-kept : goal.returns-in_err-put_change-clause-kept
returns-in_err-put_change-clause-kept c =
    let kept = begins_behind c.args.out.now.items c.loop-change.out.items c.put_bytes_head.new.out.items c.loop-change.invariant.1 c.put_bytes_head.ensures.kept in
    begins_behind c.args.out.now.items c.put_bytes_head.new.out.items c.put_change.new.out.items kept c.put_change.ensures.kept
