use Rattle.log_laws.specs.Transcript.{group_told}
use Rattle.log_transcribe.specs.Standing.{many_told}
use Rattle.log_transcribe.proofs.ByteLaws.{stops_here}
use Rattle.log_transcribe.proofs.transcript.Transcript.send_next.Goals as goal

pub returns-in-Err-clause-byte : goal.returns-in-Err-clause-byte
returns-in-Err-clause-byte g c =
    stops_here c.args.bytes.now c.args.told (many_told (λ g f. group_told c.args.self.now.source g f) c.args.groups.now.groups.items c.args.self.now.far) _ c.in-Err.error c.inside.result c.inside.ensures.error c.in-Err.ensures.counts c.inside.ensures.byte
