use Rattle.std.proofs.Common.{◌<◌, length, arith}
use Rattle.apply_core.proofs.GrowingLaws.{grown-here, refused-here}
use Rattle.apply_core.proofs.growing.grow_in.Goals as goal

pub returns-in-Ok-clause-grown : goal.returns-in-Ok-clause-grown
returns-in-Ok-clause-grown c =
    let inside : c.args.s < length c.args.feeds.now = omega (arith, c.if-s-feeds.false) in
    grown-here c.args.feeds.now c.args.s c.index-feeds-s.result inside c.args.piece.now c.in-Ok.taken c.grow.new.feed c.args.end.now c.grow.new.self (record {
      longer = record { plan = c.grow.ensures.plan; whole = c.plan.ensures.whole; begins = c.in-Ok.ensures.longer };
      settled = λ bytes known. c.in-Ok.ensures.taken bytes known;
      groups = λ bytes known. c.in-Ok.ensures.groups bytes known;
      sound = λ bytes known. c.in-Ok.ensures.sound bytes known;
    })

pub returns-in-Err-clause-refused : goal.returns-in-Err-clause-refused
returns-in-Err-clause-refused c =
    let inside : c.args.s < length c.args.feeds.now = omega (arith, c.if-s-feeds.false) in
    refused-here c.args.feeds.now c.args.s c.index-feeds-s.result inside c.args.piece.now c.args.end.now c.in-Err.fault (λ bytes known. c.in-Err.ensures.refused bytes known)
