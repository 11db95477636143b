use Rattle.std.proofs.Common.{Ok, Err}
use Rattle.log_course.specs.Calls.{placed_value}
use Rattle.log_transcribe.proofs.CountLaws.{fault_counts, next_counts}
use Rattle.log_transcribe.proofs.WritingLaws.{next-put, none-put, fault-put}
use Rattle.log_transcribe.proofs.transcript.Transcript.put_next.Goals as goal

pub returns-in-Ok-clause-told : goal.returns-in-Ok-clause-told
returns-in-Ok-clause-told c =
    next-put c.args.file c.args.self.now.source c.args.groups.now c.next_group.new.self (placed_value c.in-Ok-Some.group) (Ok c.in-Ok.field-0) c.args.self.now.far c.put_group.new.self.far c.args.out.now.items c.put_group.new.out.items
    (rw c.in-Ok-Some.field-0-is at c.in-Ok-Some.ensures) c.in-Ok.ensures.told

pub returns-in-Err-put_group-clause-told : goal.returns-in-Err-put_group-clause-told
returns-in-Err-put_group-clause-told c =
    next-put c.args.file c.args.self.now.source {U = Unit {0}} c.args.groups.now c.next_group.new.self (placed_value c.in-Ok-Some.group) (Err c.in-Err-put_group.error) c.args.self.now.far c.put_group.new.self.far c.args.out.now.items c.put_group.new.out.items
    (rw c.in-Ok-Some.field-0-is at c.in-Ok-Some.ensures) c.in-Err-put_group.ensures.told

pub returns-in-Ok-None-clause-told : goal.returns-in-Ok-None-clause-told
returns-in-Ok-None-clause-told c = none-put c.args.file c.args.self.now.source c.args.groups.now c.next_group.new.self c.args.self.now.far c.args.out.now.items (rw c.in-Ok-None.field-0-is at c.in-Ok-None.ensures)

pub returns-in-Err-clause-told : goal.returns-in-Err-clause-told
returns-in-Err-clause-told c =
    rw c.of_course.ensures (fault-put c.args.file c.args.self.now.source c.args.groups.now c.next_group.new.self c.in-Err.error c.args.self.now.far c.args.out.now.items c.in-Err.ensures)

pub returns-in-Ok-clause-counts : goal.returns-in-Ok-clause-counts
returns-in-Ok-clause-counts c =
    next_counts c.args.file c.args.self.now.source c.args.groups.now c.next_group.new.self (placed_value c.in-Ok-Some.group) (Ok c.in-Ok.field-0) c.args.self.now.far c.put_group.new.self.far c.args.out.now.items c.put_group.new.out.items
    (rw c.in-Ok-Some.field-0-is at c.in-Ok-Some.ensures) c.in-Ok.ensures.told

pub returns-in-Err-put_group-clause-counts : goal.returns-in-Err-put_group-clause-counts
returns-in-Err-put_group-clause-counts c =
    next_counts c.args.file c.args.self.now.source {U = Unit {0}} c.args.groups.now c.next_group.new.self (placed_value c.in-Ok-Some.group) (Err c.in-Err-put_group.error) c.args.self.now.far c.put_group.new.self.far c.args.out.now.items c.put_group.new.out.items
    (rw c.in-Ok-Some.field-0-is at c.in-Ok-Some.ensures) c.in-Err-put_group.ensures.told

pub returns-in-Err-clause-counts : goal.returns-in-Err-clause-counts
returns-in-Err-clause-counts c = rw c.of_course.ensures (fault_counts c.args.file c.args.self.now.source c.args.groups.now c.next_group.new.self c.in-Err.error c.args.self.now.far _ c.in-Err.ensures)
