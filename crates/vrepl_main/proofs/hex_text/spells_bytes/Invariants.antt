use Rattle.std.proofs.Common.{◌≡◌, ◌++◌, drop}
use Rattle.std.specs.Prelude.{is_some}
use Rattle.vrepl_main.specs.HexText.{digits_of, hex_bytes, paired}
use Rattle.vrepl_main.proofs.HexLaws.{waiting}
use Rattle.vrepl_main.proofs.hex_text.spells_bytes.Given as goal

abbrev pub invariant-loop-character : goal.invariant-loop-character
invariant-loop-character l = is_some (hex_bytes l.text) ≡ is_some (paired (waiting l.high ++ digits_of (drop l.character-index l.text)))
