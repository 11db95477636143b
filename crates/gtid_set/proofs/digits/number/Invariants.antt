use Rattle.std.proofs.Common.{◌≡◌, ◌≤◌, drop}
use Rattle.gtid_set.specs.Digits.{digit_of, number_behind}
use Rattle.gtid_set.proofs.digits.number.Given as goal

abbrev pub invariant-loop-byte : goal.invariant-loop-byte
invariant-loop-byte l = record {
  number : number_behind digit_of 10 l.number (drop l.byte-index l.text) ≡ number_behind digit_of 10 0 l.text;
  small : l.number ≤ 9223372036854775809;
}
