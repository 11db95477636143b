use Rattle.std.proofs.Common.{subst}
use Rattle.vrepl_vdiff.specs.NamedDump.{NamedDump}
use Rattle.vrepl_vdiff.specs.Reading.{IsNamedBad}
use Rattle.vrepl_vdiff.proofs.ToldLaws.{named_bad}
use Rattle.vrepl_vdiff.proofs.told_vdiff.read_beside.Goals as goal

pub returns-in-Err-clause-refused : goal.returns-in-Err-clause-refused
returns-in-Err-clause-refused g c =
    let dump : NamedDump = record { name = c.dump.inside.name.now; text = c.dump.inside.text.items } in
    subst (λ (d : NamedDump). IsNamedBad c.args.form c.args.plan.now d c.told_of.result) c.dump.view_is
    (named_bad c.args.form c.args.plan.now dump c.in-Err.fault c.told_of.result c.told_of.ensures (rw c.deref.ensures.value at c.in-Err.ensures.bad))
