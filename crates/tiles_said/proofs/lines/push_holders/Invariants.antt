use Rattle.std.proofs.Common.{◌≡◌, ◌++◌, drop, map, string_bytes}
use Rattle.tiles_said.specs.Lines.{holders_text}
use Rattle.tiles_said.proofs.lines.push_holders.Given as goal

-- the text so far and the names of those that are left are the whole
abbrev pub invariant-loop-holder : goal.invariant-loop-holder
invariant-loop-holder l =
    string_bytes l.text ++ holders_text (map (λ file. file.now) l.files) (drop l.holder-index l.holders) ≡ string_bytes l.fn.text ++ holders_text (map (λ file. file.now) l.files) l.holders
