use Rattle.std.proofs.Common.{◌≡◌, ◌++◌, drop, map}
use Rattle.std.specs.String.{string_bytes}
use Rattle.shown_text.specs.Shown.{printable_byte}
use Rattle.shown_text.proofs.push_printable.Given as goal

-- the text so far, and the bytes that are left, are the whole
abbrev pub invariant-loop-byte : goal.invariant-loop-byte
invariant-loop-byte l = string_bytes l.text ++ map printable_byte (drop l.byte-index l.bytes) ≡ string_bytes l.fn.text ++ map printable_byte l.bytes
