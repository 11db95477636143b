use Rattle.log_course.specs.Calls.{placed_value}
use Rattle.log_transcribe.proofs.GoingLaws.{group-stopped}
use Rattle.log_transcribe.proofs.sequel.Sequel.put_group.Goals as goal

pub returns-in-Err-clause-told : goal.returns-in-Err-clause-told
returns-in-Err-clause-told c =
    rw (← c.self.view_is)
    (group-stopped c.args.file c.self.inside.transcript.source c.self.inside.had.items (placed_value c.args.group) (record { far = c.self.inside.transcript.far; logs = c.self.inside.logs }) c.args.out.now.items c.in-Err.error
    (rw c.deref.ensures.value at c.in-Err.ensures.told))
