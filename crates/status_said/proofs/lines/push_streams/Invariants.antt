use Rattle.std.proofs.Common.{◌≡◌, ◌++◌, drop, map, string_bytes}
use Rattle.status_said.specs.Lines.{stream_lines}
use Rattle.status_said.proofs.lines.push_streams.Given as goal

-- the text so far, and the lines of those that are left, are the whole
abbrev pub invariant-loop-i : goal.invariant-loop-i
invariant-loop-i l = string_bytes l.text ++ stream_lines l.i (drop l.i l.streams) ≡ string_bytes l.fn.text ++ stream_lines 0 l.streams
