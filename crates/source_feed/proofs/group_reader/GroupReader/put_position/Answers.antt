use Rattle.std.proofs.Common.{Some, refl, ap}
use Rattle.vevent.specs.EventValue.{Gtid, Vgtid}
use Rattle.source_feed.specs.Private.ReaderState.{body_held}
use Rattle.source_feed.specs.declared.transaction.Transaction.{Transaction}
use Rattle.source_feed.proofs.ReaderSteps.{position-counts}
use Rattle.source_feed.proofs.Steps.{position-puts, carries-gtid, carries-vgtid}
use Rattle.source_feed.proofs.group_reader.GroupReader.put_position.Goals as goal

pub returns-in-None-clause-gtid : goal.returns-in-None-clause-gtid
returns-in-None-clause-gtid c = λ base source earlier m.
    position-puts c.set_laws.ensures base source earlier (Gtid c.args.text.now) c.args.text.now c.args.self.now (record { start = c.args.self.now.start; transaction = c.args.self.now.transaction; tables = c.args.self.now.tables; groups = c.end_block.new.groups; room = c.args.self.now.room }) c.end_block.result c.in_ok-position.position
    (carries-gtid source c.args.text.now) c.in_ok-position.ensures.exact c.in_ok-position.ensures.canonical refl m
    (λ names. ap (body_held names) c.in-None.is) (λ names. ap (body_held names) c.in-None.is) (λ table. refl) refl (rw c.new.ensures.items at c.end_block.ensures.block)

pub returns-in-None-clause-vgtid : goal.returns-in-None-clause-vgtid
returns-in-None-clause-vgtid c = λ base source earlier entries own m.
    position-puts c.set_laws.ensures base source earlier (Vgtid entries) c.args.text.now c.args.self.now (record { start = c.args.self.now.start; transaction = c.args.self.now.transaction; tables = c.args.self.now.tables; groups = c.end_block.new.groups; room = c.args.self.now.room }) c.end_block.result c.in_ok-position.position
    (carries-vgtid source entries c.args.text.now own) c.in_ok-position.ensures.exact c.in_ok-position.ensures.canonical refl m
    (λ names. ap (body_held names) c.in-None.is) (λ names. ap (body_held names) c.in-None.is) (λ table. refl) refl (rw c.new.ensures.items at c.end_block.ensures.block)

pub returns-in-Some-clause-gtid : goal.returns-in-Some-clause-gtid
returns-in-Some-clause-gtid c = λ base source earlier m.
    let now : Transaction = record { position = Some c.in_ok-position.position; changes = c.in-Some.transaction.changes } in
    position-counts base source earlier (Gtid c.args.text.now) c.args.text.now c.args.self.now (record { start = c.args.self.now.start; transaction = Some now; tables = c.args.self.now.tables; groups = c.args.self.now.groups; room = c.args.self.now.room }) c.in-Some.transaction now c.in_ok-position.position
    (carries-gtid source c.args.text.now) c.in_ok-position.ensures.exact c.in_ok-position.ensures.canonical m (record { start = refl; names = refl; widths = λ table. refl; groups = refl }) c.in-Some.is refl refl refl

pub returns-in-Some-clause-vgtid : goal.returns-in-Some-clause-vgtid
returns-in-Some-clause-vgtid c = λ base source earlier entries own m.
    let now : Transaction = record { position = Some c.in_ok-position.position; changes = c.in-Some.transaction.changes } in
    position-counts base source earlier (Vgtid entries) c.args.text.now c.args.self.now (record { start = c.args.self.now.start; transaction = Some now; tables = c.args.self.now.tables; groups = c.args.self.now.groups; room = c.args.self.now.room }) c.in-Some.transaction now c.in_ok-position.position
    (carries-vgtid source entries c.args.text.now own) c.in_ok-position.ensures.exact c.in_ok-position.ensures.canonical m (record { start = refl; names = refl; widths = λ table. refl; groups = refl }) c.in-Some.is refl refl refl
