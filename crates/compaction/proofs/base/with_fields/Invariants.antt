use Rattle.std.proofs.Common.{◌≡◌, map, take}
use Rattle.compaction.proofs.base.with_fields.Given as goal

-- the events so far are the FIELDs so far
abbrev pub invariant-loop-field : goal.invariant-loop-field
invariant-loop-field l = map (λ event. event.now) l.events.items ≡ map (λ field. field.bytes) (take l.field-index l.fields)
