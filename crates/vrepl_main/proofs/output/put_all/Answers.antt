use Rattle.vrepl_main.proofs.AddLaws.{added}
use Rattle.vrepl_main.proofs.output.put_all.Goals as goal

pub returns : goal.returns
returns g c = added c.put.result _ c.args.text.now _ c.put.new.self c.args.bytes.now c.put.ensures
