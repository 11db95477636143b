use Rattle.std.proofs.Common.{◌<◌, length, arith}
use Rattle.live_core.proofs.GrowingLaws.{one-known, answer-known, answer-takes, answer-refused, answer-left}
use Rattle.live_core.proofs.growing.grow_in.Goals as goal

pub grow_one-requires : goal.grow_one-requires
grow_one-requires c =
    let inside : c.args.s < length c.args.sources.now = omega (arith, c.if-s-sources.false) in
    one-known c.args.fed.now.feeds c.args.sources.now c.requires.count c.requires.known c.args.s c.index-sources-s.result inside

pub returns-clause-known : goal.returns-clause-known
returns-clause-known c =
    let inside : c.args.s < length c.args.sources.now = omega (arith, c.if-s-sources.false) in
    answer-known c.args.fed.now.feeds c.args.sources.now c.requires.count c.requires.known c.args.s c.index-sources-s.result inside c.args.piece.now c.grow_one.result c.grow_one.new.fed.feeds c.grow_one.new.source
    c.grow_one.ensures.grown c.grow_one.ensures.left

pub returns-clause-taken : goal.returns-clause-taken
returns-clause-taken c =
    let inside : c.args.s < length c.args.sources.now = omega (arith, c.if-s-sources.false) in
    answer-takes c.args.fed.now.feeds c.args.sources.now c.requires.count c.requires.known c.args.s c.index-sources-s.result inside c.args.piece.now c.grow_one.result c.grow_one.new.fed.feeds c.grow_one.new.source
    c.grow_one.ensures.grown

pub returns-clause-refused : goal.returns-clause-refused
returns-clause-refused c =
    let inside : c.args.s < length c.args.sources.now = omega (arith, c.if-s-sources.false) in
    answer-refused c.args.fed.now.feeds c.args.sources.now c.requires.count c.requires.known c.args.s c.index-sources-s.result inside c.args.piece.now c.grow_one.result c.grow_one.ensures.refused

pub returns-clause-left : goal.returns-clause-left
returns-clause-left c =
    let inside : c.args.s < length c.args.sources.now = omega (arith, c.if-s-sources.false) in
    answer-left c.args.fed.now.feeds c.args.sources.now c.requires.count c.requires.known c.args.s c.index-sources-s.result inside c.grow_one.result c.grow_one.new.fed.feeds c.grow_one.new.source c.grow_one.ensures.left
