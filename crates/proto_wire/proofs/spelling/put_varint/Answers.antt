use Rattle.std.proofs.Common.{◌++◌, [], ap, ◌∙◌, arith}
use Rattle.proto_wire.proofs.ShortestLaws.{shortest_is_varint}
use Rattle.proto_wire.proofs.SpellingLoop.{starts, ends}
use Rattle.proto_wire.proofs.spelling.put_varint.Goals as goal

pub returns-in_err-push-clause-read_again : goal.returns-in_err-push-clause-read_again
returns-in_err-push-clause-read_again c = shortest_is_varint c.args.value (omega arith)

pub returns-then-value-lt128-clause-written : goal.returns-then-value-lt128-clause-written
returns-then-value-lt128-clause-written c =
    let one = ends c.args.value [] 9 c.args.value (starts c.args.value (omega arith)) c.if-value-lt128.true in
    c.in_ok-push.ensures.items ∙ ap (λ w. c.args.out.now.items ++ w) one

pub returns-then-value-lt128-clause-read_again : goal.returns-then-value-lt128-clause-read_again
returns-then-value-lt128-clause-read_again c = shortest_is_varint c.args.value (omega arith)

pub returns-clause-read_again : goal.returns-clause-read_again
returns-clause-read_again c = shortest_is_varint c.args.value (omega arith)
