use Rattle.std.proofs.Common.{arith}
use Rattle.des.proofs.Exchanges.{finally_is}
use Rattle.des.proofs.permutations.finally_permuted.Goals as goal

pub returns : goal.returns
returns c =
    rw (c.exchanged.ensures, c.exchanged-block-4.ensures, c.exchanged-block-3.ensures, c.exchanged-block-2.ensures, c.exchanged-block.ensures)
    (finally_is c.args.block (omega arith))
