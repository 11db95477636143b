use Rattle.std.proofs.Common.{ℕ, List, sym, subst}
use Rattle.proto_wire.specs.declared.fault.WireFault.{WireFault}
use Rattle.proto_wire.specs.Reading.{Reading}
use Rattle.vevent.proofs.AnswerLaws.{AreRows, rows_are}
use Rattle.vevent.proofs.rows_answer.RowsAnswer.rows.Goals as goal

pub invariant_of-result : goal.invariant_of-result
invariant_of-result c = subst (λ (messages : Reading (List ℕ) WireFault). AreRows messages.items) (sym c.new.ensures.reading) (rows_are c.self.inside.message.now c.self.invariant.1)
