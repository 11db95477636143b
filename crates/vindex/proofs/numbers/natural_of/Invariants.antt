use Rattle.std.proofs.Common.{◌≡◌, ◌<◌, ◌^◌, take, true}
use Rattle.std.specs.Char.{is_ascii_digit}
use Rattle.std.specs.List.{list_all}
use Rattle.std.specs.Str.Parse.{digits_value}
use Rattle.vindex.proofs.numbers.natural_of.Given as goal

-- the digits so far are digits, and write the magnitude
abbrev pub invariant-loop-digit : goal.invariant-loop-digit
invariant-loop-digit l =
    (list_all is_ascii_digit (take l.digit-index l.digits) ≡ true)
    × (l.magnitude ≡ digits_value 10 (take l.digit-index l.digits))
    × (l.magnitude < 2 ^ 64)
