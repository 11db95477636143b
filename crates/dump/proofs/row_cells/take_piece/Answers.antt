use Rattle.std.proofs.Common.{◌≡◌, ◌+◌, ◌*◌, ◌<◌, ◌++◌, ◌∷◌, ◌∙◌, [], List, ℕ, length, take, drop, sym, ap, arith, slice_set, Some}
use Rattle.std.proofs.lemmas.List.{take_more_set, length-set}
use Rattle.dump.specs.Private.Reading.{bytes_front}
use Rattle.dump.proofs.PairLaws.{pair_at}
use Rattle.dump.proofs.ReadingLaws.{bytes_more}
use Rattle.dump.proofs.row_cells.take_piece.Goals as goal

pub loop-i-preserved : goal.loop-i-preserved
loop-i-preserved c =
    let i : ℕ = c.loop-i.i in
    let room : List ℕ = c.loop-i.room in
    let text : List ℕ = c.args.text.now in
    let byte : ℕ = c.in-Some.byte in
    let room_at : i < length room = omega (arith, c.loop-i-test.true, c.loop-i.invariant.1) in
    let pair : 2 * i + 1 < length text = omega (arith, c.loop-i-test.true) in
    let next : 2 * i + 2 ≡ 2 * (i + 1) = omega arith in
    let behind : List ℕ = drop (2 * (i + 1)) text in
    let is : take (i + 1) (slice_set room i byte) ≡ take i room ++ byte ∷ [] = take_more_set room i byte room_at in
    let more = bytes_more (bytes_front text) (take i room) (drop (2 * i) text) behind byte c.loop-i.invariant.0 (pair_at text (2 * i) byte pair c.in-Some.ensures ∙ ap (λ (k : ℕ). Some (byte, drop k text)) next) in (
      more ∙ ap (λ (l : List ℕ). (l ++ (bytes_front behind).0, (bytes_front behind).1)) (sym is),
      length-set room i byte ∙ c.loop-i.invariant.1,
    )
