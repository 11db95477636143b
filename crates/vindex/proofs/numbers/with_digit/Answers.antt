use Rattle.std.proofs.Common.{rules}
use Rattle.vindex.proofs.numbers.with_digit.Goals as goal

pub returns : goal.returns
returns c = search rules

pub returns-in_err-checked_mul : goal.returns-in_err-checked_mul
returns-in_err-checked_mul c = search rules

pub returns-then-not-is_ascii_digit : goal.returns-then-not-is_ascii_digit
returns-then-not-is_ascii_digit c = search rules
