use Rattle.std.proofs.Common.{subst, rules}
use Rattle.vindex.specs.NumberText.{IsNumber}
use Rattle.vindex.proofs.NumberTextLaws.{reads_back, shortest, length-shortest}
use Rattle.vindex.proofs.numbers.Number.text.Goals as goal

pub returns-clause-reads_back : goal.returns-clause-reads_back
returns-clause-reads_back c = reads_back c.args.self (subst IsNumber c.self.view_is c.self.invariant)

pub returns-clause-shortest : goal.returns-clause-shortest
returns-clause-shortest c = shortest c.args.self

pub returns-clause-fits : goal.returns-clause-fits
returns-clause-fits c = length-shortest c.args.self (subst IsNumber c.self.view_is c.self.invariant)

pub returns-clause-text : goal.returns-clause-text
returns-clause-text c = search rules
