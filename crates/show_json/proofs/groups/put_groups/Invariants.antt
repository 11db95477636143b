use Rattle.json_pieces.specs.Telling.{IsToldUpTo, at}
use Rattle.show_json.specs.Private.Kept.{columns_in}
use Rattle.show_json.specs.Text.{json_text_of}
use Rattle.show_json.proofs.groups.put_groups.Given as goal

-- what is told and what is left are the whole
abbrev pub invariant-loop-group : goal.invariant-loop-group
invariant-loop-group g l = IsToldUpTo (at (g.O.Out.written l.fn.out) l.fn.line) (at (g.O.Out.written l.out) l.line) (json_text_of (columns_in l.tables) l.groups.items) (json_text_of (columns_in l.tables) l.group-iterator)
