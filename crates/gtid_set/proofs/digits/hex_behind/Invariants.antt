use Rattle.std.proofs.Common.{◌≡◌, ◌≤◌, ◌+◌, ◌*◌, ◌^◌, ◌%◌, length}
use Rattle.gtid_set.specs.Digits.{hex_digit_of, number_behind}
use Rattle.gtid_set.proofs.digits.hex_behind.Given as goal

-- what is left says the number, there is room for it, and it is some fours of digits
abbrev pub invariant-loop-rest : goal.invariant-loop-rest
invariant-loop-rest l = record {
  number : number_behind hex_digit_of 16 l.number l.rest ≡ number_behind hex_digit_of 16 l.front l.text;
  room : (l.number + 1) * 16 ^ length l.rest ≤ (l.front + 1) * 16 ^ length l.text;
  fours : length l.rest % 4 ≡ 0;
}

abbrev pub decreases-loop-rest : goal.decreases-loop-rest
decreases-loop-rest l = length l.rest
