use Rattle.std.proofs.Common.{◌∷◌, drop, false, map}
use Rattle.serde_json.specs.View.{items_of}
use Rattle.serde_json.specs.Written.{items_text}
use Rattle.json_pieces.specs.Telling.{IsToldUpTo, at}
use Rattle.live_json.specs.Answers.{stream_data}
use Rattle.live_json.specs.Private.Parts.{stream_value}
use Rattle.live_json.proofs.streams.put_streams.Given as goal

-- what is told and what is left are the whole
abbrev pub invariant-loop-one : goal.invariant-loop-one
invariant-loop-one g l =
    IsToldUpTo (at (g.O.Out.written l.fn.out) l.fn.line) (at (g.O.Out.written l.out) l.line) (91 ∷ items_text false (items_of (map stream_data (map stream_value l.streams))))
    (items_text l.later (items_of (map stream_data (map stream_value (drop l.one-index l.streams)))))
