use Rattle.dump.proofs.RowsLaws.{rising_pushed}
use Rattle.dump.proofs.rows.DumpRows.push.Goals as goal

pub invariant_of-self-2 : goal.invariant_of-self-2
invariant_of-self-2 c = rw c.in_ok-push.ensures.items (rising_pushed _ (c.args.key, c.args.row) c.self.invariant (rw c.self.view_is c.requires))
