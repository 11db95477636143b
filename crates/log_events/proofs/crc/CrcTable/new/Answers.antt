use Rattle.std.proofs.Common.{ℕ, List, ◌+◌, ◌-◌, get_or, sym, ap, subst, ◌∙◌}
use Rattle.log_events.proofs.CrcAhead.{IsFront, front_more}
use Rattle.log_events.proofs.crc.CrcTable.new.Goals as goal

pub loop-place-preserved : goal.loop-place-preserved
loop-place-preserved c =
    let place = c.loop-place.place in
    let entry = c.one_byte_before.ensures.entry in
    subst (λ (xs : List ℕ). IsFront xs (place + 1)) (sym {A = List ℕ} c.in_ok-push.ensures.items)
    (front_more c.loop-place.entries.items place c.one_byte_before.result c.byte_on.result c.loop-place.invariant c.one_byte_before.ensures.byte
    (λ le. entry le ∙ ap (λ (xs : List ℕ). get_or xs (place - 256) 0) c.as_slice.ensures.value) c.byte_on.ensures)
