use Rattle.std.proofs.Common.{[]}
use Rattle.dump.specs.Dump.{dump_of}
use Rattle.printing.proofs.PrintLaws.{adds_then_prints}
use Rattle.dump.proofs.dump.write_lent.Goals as goal

pub returns : goal.returns
returns g c =
    let added = rw (c.new-text.ensures, c.tables.ensures.tables) at c.in_ok-add_tables.ensures in
    adds_then_prints c.finish.result _ [] _ c.add_tables.new.text _ (dump_of c.args.plan.now c.args.rows) added c.finish.ensures.printed
