use Rattle.std.proofs.Common.{◌≡◌, ◌<◌, ◌++◌, drop}
use Rattle.std.specs.Prelude.{IfSome}
use Rattle.vrepl_main.specs.HexText.{digits_of, hex_bytes, paired}
use Rattle.vrepl_main.proofs.HexLaws.{after, waiting}
use Rattle.vrepl_main.proofs.hex_text.spelled.Given as goal

abbrev pub invariant-loop-character : goal.invariant-loop-character
invariant-loop-character l =
    IfSome l.high (λ high. high < 16)
    × (hex_bytes l.text ≡ after l.bytes.items (paired (waiting l.high ++ digits_of (drop l.character-index l.text))))
