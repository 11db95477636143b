use Rattle.std.proofs.Common.{ap}
use Rattle.std.specs.Option.{option_map}
use Rattle.log_groups.specs.Step.{steps_of}
use Rattle.log_groups.specs.Transaction.{transactions_of}
use Rattle.log_groups.specs.Calls.{transaction_value}
use Rattle.log_groups.proofs.TransactionLaws.{next_found, next_refused}
use Rattle.log_groups.proofs.transactions.Transactions.next_transaction.Goals as goal

pub returns-in-Ok : goal.returns-in-Ok
returns-in-Ok c = next_found c.self.inside.failed (steps_of c.self.inside.events.reading) (steps_of c.next_of.new.events.reading) c.args.self.now.reading (option_map transaction_value c.in-Ok.found) c.in_default.is (ap (λ v. v.reading) c.self.view_is) c.in-Ok.ensures

pub returns-in-Err : goal.returns-in-Err
returns-in-Err c =
    next_refused c.self.inside.failed c.fault-self-inside.result (steps_of c.self.inside.events.reading) (steps_of c.next_of.new.events.reading) (transactions_of (steps_of c.next_of.new.events.reading)) c.args.self.now.reading c.in-Err.error c.in_default.is (ap (λ v. v.reading) c.self.view_is) c.fault-self-inside.ensures c.in-Err.ensures
