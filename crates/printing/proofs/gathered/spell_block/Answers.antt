use Rattle.std.proofs.Common.{◌≡◌, ◌+◌, ◌-◌, ◌*◌, length, length-drop, take, drop, ◌∙◌, ap, arith}
use Rattle.std.proofs.lemmas.List.{length-take-le}
use Rattle.hex.specs.Hex.{encode_lower}
use Rattle.printing.proofs.SpellLaws.{length-hex, spelled_on}
use Rattle.printing.proofs.gathered.spell_block.Goals as goal

pub returns-clause-spelled : goal.returns-clause-spelled
returns-clause-spelled c = λ n before spelled.
    let piece = c.args.piece.now in
    let at = c.args.at in
    let sixteen : at + 16 - at ≡ 16 = omega arith in
    let is = c.copy_from_slice.ensures.after ∙ c.digits_of-digits.ensures ∙ ap (λ n. encode_lower (take n (drop at piece))) sixteen in
    let block = length-take-le 16 (drop at piece) (omega (arith, length-drop at piece)) in
    let long = ap length is ∙ length-hex (take 16 (drop at piece)) ∙ ap (λ n. 2 * n) block in
    spelled_on piece c.args.room.now c.copy_from_slice.new.self at 16 n _ before (omega arith) long is spelled
