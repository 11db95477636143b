use Rattle.event_laws.proofs.MessageLaws.{bytes_behind}
use Rattle.event_laws.proofs.laws.bytes_go_behind_bytes.Goals as goal

pub returns : goal.returns
returns c = bytes_behind
