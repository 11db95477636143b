use Rattle.std.proofs.Common.{refl}
use Rattle.gtid_set.specs.Printed.{uuid_text}
use Rattle.gtid_set.proofs.printed.uuid_text.Goals as goal

pub returns : goal.returns
unfolding uuid_text
returns c =
    rw (c.put-8.ensures, c.put-7.ensures, c.put-6.ensures, c.put-5.ensures, c.put-4.ensures, c.put-3.ensures, c.put-2.ensures, c.put.ensures)
    (rw (c.group-8.ensures, c.group-7.ensures, c.group-6.ensures, c.group-5.ensures, c.group-4.ensures, c.group-3.ensures, c.group-2.ensures, c.group.ensures) refl)
