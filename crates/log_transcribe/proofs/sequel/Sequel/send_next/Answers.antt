use Rattle.log_transcribe.specs.Behind.{group_behind}
use Rattle.log_transcribe.specs.Standing.{many_told}
use Rattle.log_transcribe.proofs.ByteLaws.{stops_here}
use Rattle.log_transcribe.proofs.sequel.Sequel.send_next.Goals as goal

pub returns-in-Err-clause-byte : goal.returns-in-Err-clause-byte
returns-in-Err-clause-byte g c =
    stops_here c.args.bytes.now c.args.told (many_told (λ g a. group_behind c.args.file c.args.self.now.source c.args.self.now.had g a) c.args.groups.now.groups.items c.args.self.now.along) _ c.in-Err.error c.inside.result c.inside.ensures.error c.in-Err.ensures.counts c.inside.ensures.byte
