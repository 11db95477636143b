use Rattle.live_requests.proofs.InputLaws.{line-found}
use Rattle.live_requests.proofs.lines.Lines.next.Goals as goal

pub returns : goal.returns
returns g c = line-found _ _ _ _ _ c.in_ok-taken.ensures c.most_of.ensures c.if-taken-most_of.false
