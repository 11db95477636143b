use Rattle.std.proofs.Common.{◌≡◌}
use Rattle.show_json.specs.Columns.{is_front}
use Rattle.show_json.proofs.columns.is_front.Given as goal

-- all names are the first ones if those still to come are
abbrev pub invariant-loop-column : goal.invariant-loop-column
invariant-loop-column l = is_front l.column-iterator l.others ≡ is_front l.fn.columns l.fn.others
