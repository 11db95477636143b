use Rattle.std.proofs.Common.{rules}
use Rattle.thread_tests.proofs.Pairs.{of_two}
use Rattle.thread_tests.proofs.workers.seats.two_of.Goals as goal

pub returns : goal.returns
returns c =
    let two = of_two c.args.seats.items c.pop.new.self.items c.pop-2.new.self.items c.in_ok-first.first c.in_ok-last.last c.in_ok-last.ensures.items c.in_ok-first.ensures.items (search rules) in
    (c.requires 0 c.in_ok-first.first two.0, c.requires 1 c.in_ok-last.last two.1)
