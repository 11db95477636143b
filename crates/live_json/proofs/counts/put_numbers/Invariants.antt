use Rattle.std.proofs.Common.{◌∷◌, drop, false, map}
use Rattle.serde_json.specs.View.{items_of}
use Rattle.serde_json.specs.Written.{items_text}
use Rattle.json_pieces.specs.Telling.{IsToldUpTo, at}
use Rattle.live_json.specs.Answers.{count_data}
use Rattle.live_json.proofs.counts.put_numbers.Given as goal

-- what is told and what is left are the whole
abbrev pub invariant-loop-number : goal.invariant-loop-number
invariant-loop-number g l =
    IsToldUpTo (at (g.O.Out.written l.fn.out) l.fn.line) (at (g.O.Out.written l.out) l.line) (91 ∷ items_text false (items_of (map count_data l.numbers)))
    (items_text l.later (items_of (map count_data (drop l.number-index l.numbers))))
