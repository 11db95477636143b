use Rattle.std.proofs.Common.{subst, List}
use Rattle.filter_rule.specs.PlanValue.{PlanValue}
use Rattle.checkpoint_laws.specs.Said.{IsCheckpoint}
use Rattle.apply_core.proofs.resuming.read_streams.Goals as goal

pub returns-in-Err-Broken-clause-refused : goal.returns-in-Err-Broken-clause-refused
returns-in-Err-Broken-clause-refused c = λ feeds same saved h.
    let none = rw c.in-Err-Broken.field-0-is at c.in-Err-Broken.ensures.refused in
    none saved (subst (λ (ps : List PlanValue). IsCheckpoint ps c.args.bytes.now saved) same h)
