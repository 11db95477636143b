use Rattle.std.proofs.Common.{map, Ok, ap, ◌∙◌}
use Rattle.std.proofs.lemmas.Result.{err_from_is_err_and}
use Rattle.log_groups.specs.Transaction.{done_value}
use Rattle.log_groups.specs.Calls.{transaction_value}
use Rattle.log_groups.specs.GroupCalls.{waiting_value}
use Rattle.log_groups.proofs.WaitingLaws.{group_there, group_by, none_by, transaction_there, end_there}
use Rattle.log_groups.proofs.group.next_of.Goals as goal

pub returns-in_err-transaction : goal.returns-in_err-transaction
returns-in_err-transaction c =
    let p = err_from_is_err_and c.from_residual.result c.from_residual.ensures.1 in
    rw (p.1, p.2) (none_by (map waiting_value c.args.waiting.now.items) c.args.transactions.now.reading c.next_transaction.new.self.reading c.in_err-transaction.field-0.0 c.in_err-transaction.ensures)

pub returns-in_err-changes-in-Some : goal.returns-in_err-changes-in-Some
returns-in_err-changes-in-Some c =
    let p = err_from_is_err_and c.from_residual-in_err-changes-in-Some.result c.from_residual-in_err-changes-in-Some.ensures.1 in
    let there = transaction_there transaction_value c.args.transactions.now.reading c.next_transaction.new.self.reading c.next_transaction.result c.in-Some.transaction c.next_transaction.ensures (c.in_ok-transaction.was ∙ ap (λ o. Ok o) c.in-Some.is) in
    rw (p.1, p.2)
    (group_by (map waiting_value c.args.waiting.now.items) (map waiting_value c.settle.new.waiting.items) c.args.transactions.now.reading c.next_transaction.new.self.reading (transaction_value c.in-Some.transaction) c.in_err-changes-in-Some.field-0.0 there.0 c.in_err-changes-in-Some.ensures)

pub returns-in_ok-changes-in-Some : goal.returns-in_ok-changes-in-Some
returns-in_ok-changes-in-Some c =
    let there = transaction_there transaction_value c.args.transactions.now.reading c.next_transaction.new.self.reading c.next_transaction.result c.in-Some.transaction c.next_transaction.ensures (c.in_ok-transaction.was ∙ ap (λ o. Ok o) c.in-Some.is) in
    group_there (map waiting_value c.args.waiting.now.items) (map waiting_value c.settle.new.waiting.items) c.args.transactions.now.reading c.next_transaction.new.self.reading (transaction_value c.in-Some.transaction) (map done_value c.in_ok-changes-in-Some.changes.items) there.0 there.1 c.in_ok-changes-in-Some.ensures

pub returns-in-None : goal.returns-in-None
returns-in-None c = end_there transaction_value (map waiting_value c.args.waiting.now.items) c.args.transactions.now.reading c.next_transaction.new.self.reading c.next_transaction.result c.next_transaction.ensures (c.in_ok-transaction.was ∙ ap (λ o. Ok o) c.in-None.is)
