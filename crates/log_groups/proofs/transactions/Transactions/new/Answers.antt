use Rattle.std.proofs.Common.{sym}
use Rattle.item_readers.proofs.ReadingLaws.{spells-reading, only_reading}
use Rattle.log_groups.specs.Step.{steps_of}
use Rattle.log_groups.specs.Transaction.{IsTransaction, NoTransaction, transaction_at}
use Rattle.log_groups.proofs.TransactionLaws.{transaction_reader}
use Rattle.log_groups.proofs.transactions.Transactions.new.Goals as goal

pub returns-clause-spelled : goal.returns-clause-spelled
returns-clause-spelled c = spells-reading IsTransaction NoTransaction transaction_at transaction_reader (steps_of c.args.events.reading)

pub returns-clause-only : goal.returns-clause-only
returns-clause-only c other h = sym (only_reading IsTransaction NoTransaction transaction_at transaction_reader (steps_of c.args.events.reading) other.items other.fault h)
