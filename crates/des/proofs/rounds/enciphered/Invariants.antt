use Rattle.std.proofs.Common.{◌≡◌, ℕ}
use Rattle.des.specs.Des.{round_halves}
use Rattle.des.specs.Private.Words.{turned, HasRoundKeys}
use Rattle.des.proofs.rounds.enciphered.Given as goal

abbrev pub invariant-loop-round : goal.invariant-loop-round
invariant-loop-round l =
    (key : ℕ) → HasRoundKeys key l.odd l.even
    → (l.left ≡ turned (round_halves key l.block l.round).left) × (l.right ≡ turned (round_halves key l.block l.round).right)
