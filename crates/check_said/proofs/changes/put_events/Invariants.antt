use Rattle.std.proofs.Common.{◌∷◌, drop, false, map}
use Rattle.serde_json.specs.View.{items_of}
use Rattle.serde_json.specs.Written.{items_text}
use Rattle.json_pieces.specs.Telling.{IsToldUpTo, at}
use Rattle.check_said.specs.Json.{skipped_data}
use Rattle.check_said.proofs.changes.put_events.Given as goal

-- what is told and what is left are the whole
abbrev pub invariant-loop-event : goal.invariant-loop-event
invariant-loop-event g l = IsToldUpTo (at (g.O.Out.written l.fn.out) l.fn.line) (at (g.O.Out.written l.out) l.line) (91 ∷ items_text false (items_of (map (skipped_data) l.events))) (items_text l.later (items_of (map (skipped_data) (drop l.event-index l.events))))
