use Rattle.std.proofs.Common.{◌≡◌, ◌++◌, drop, map, string_bytes}
use Rattle.status_said.specs.Lines.{checkpoint_lines}
use Rattle.status_said.proofs.lines.push_checkpoints.Given as goal

-- the text so far, and the lines of those that are left, are the whole
abbrev pub invariant-loop-i : goal.invariant-loop-i
invariant-loop-i l = string_bytes l.text ++ checkpoint_lines (map (λ name. name.now) l.names) l.i (drop l.i l.stands) ≡ string_bytes l.fn.text ++ checkpoint_lines (map (λ name. name.now) l.names) 0 l.stands
