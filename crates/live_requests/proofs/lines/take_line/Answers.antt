use Rattle.std.proofs.Common.{◌≡◌, ◌≢◌, rules}
use Rattle.live_requests.proofs.InputLaws.{byte-found, kept-short, one-taken, taken-line, taken-whole}
use Rattle.live_requests.proofs.lines.take_line.Goals as goal

pub returns-in-None : goal.returns-in-None
returns-in-None g c = taken-whole _ _ _ _ _ _ c.loop-count.invariant c.in-None.is c.in_ok-next_byte.ensures

pub returns-in-Some-eq10 : goal.returns-in-Some-eq10
returns-in-Some-eq10 g c =
    let ten : c.in-Some-eq10.field-0 ≡ 10 = search rules in
    taken-line _ _ _ _ _ c.loop-count.invariant (rw ten at (byte-found _ _ _ _ c.in-Some-eq10.is c.in_ok-next_byte.ensures))

pub put_byte-requires : goal.put_byte-requires
put_byte-requires g c = kept-short _ _ _ _ c.loop-count.invariant

pub loop-count-preserved : goal.loop-count-preserved
loop-count-preserved g c =
    let other : c.in-Some.byte ≢ 10 = search rules in
    one-taken _ _ _ _ _ _ _ c.loop-count.invariant other (byte-found _ _ _ _ c.in-Some.is c.in_ok-next_byte.ensures) c.in_ok-put_byte-in-Some.ensures
