use Rattle.std.proofs.Common.{◌≡◌, ◌-◌, ◌++◌, length, length-drop, take, drop, replicate, refl, ◌∙◌, ap, arith}
use Rattle.std.proofs.lemmas.List.{length-take-le, take_rest}
use borrow.Rule.Slice.PartMut.{put_mid}
use Rattle.hex.specs.Hex.{encode_lower}
use Rattle.printing.proofs.SpellLaws.{first-digits, second-digits, pair-block, ends-spelled}
use Rattle.printing.proofs.gathered.spell_halves.Goals as goal

pub returns : goal.returns
returns c =
    let piece = c.args.piece.now in
    let last = length piece - 8 in
    let front = c.copy_from_slice.new.self in
    let back = c.copy_from_slice-2.new.self in
    let front_is : front ≡ take 8 piece = c.copy_from_slice.ensures.after in
    let back_is : back ≡ drop last piece = c.copy_from_slice-2.ensures.after ∙ take_rest piece last in
    let front_long : length front ≡ 8 = ap length front_is ∙ length-take-le 8 piece c.requires.some in
    let back_long : length back ≡ 8 = ap length back_is ∙ (let e : length (drop last piece) ≡ 8 = omega (arith, length-drop last piece) in e) in
    let pair = pair-block front (drop 8 (replicate 16 0)) back 8 8 front_long back_long in
    let digits = c.digits_of-digits.ensures in
    let block = put_mid 8 8 (front ++ drop 8 (replicate 16 0)) back in
    let first = c.copy_from_slice-3.ensures.after ∙ ap (λ l. take 16 l) digits ∙ first-digits block front back 8 front_long pair ∙ ap (λ l. encode_lower l) front_is in
    let second =
    c.copy_from_slice-4.ensures.after ∙ ap (λ l. take 16 (drop 16 l)) digits
    ∙ second-digits block front back 8 front_long pair ∙ ap (λ l. encode_lower l) back_is in
    ends-spelled piece c.args.room.now c.copy_from_slice-3.new.self c.copy_from_slice-4.new.self 8 last _ (omega arith) (omega arith) c.requires.room first second refl

pub slice_bounds-copy_from_slice-end-5 : goal.slice_bounds-copy_from_slice-end-5
slice_bounds-copy_from_slice-end-5 c = omega (arith, length-take-le 16 c.args.room.now (omega arith))
