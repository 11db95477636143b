use Rattle.std.proofs.Common.{◌∷◌, drop, false, map}
use Rattle.serde_json.specs.View.{items_of}
use Rattle.serde_json.specs.Written.{items_text}
use Rattle.json_pieces.specs.Telling.{IsToldUpTo, at}
use Rattle.check_said.specs.Json.{streams_from}
use Rattle.check_said.proofs.streams.put_streams.Given as goal

-- what is told and what is left are the whole
abbrev pub invariant-loop-i : goal.invariant-loop-i
invariant-loop-i g l =
    IsToldUpTo (at (g.O.Out.written l.fn.out) l.fn.line) (at (g.O.Out.written l.out) l.line) (91 ∷ items_text false (items_of (streams_from (map (λ file. file.now) l.files) 0 l.streams)))
    (items_text l.later (items_of (streams_from (map (λ file. file.now) l.files) l.i (drop l.i l.streams))))
