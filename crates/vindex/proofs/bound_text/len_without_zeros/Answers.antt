use Rattle.std.proofs.lemmas.Grind.{common_steps}
use Rattle.std.proofs.Common.{◌/◌, eqb, length, ap, arith, rules}
use Rattle.std.proofs.lemmas.List.{take_all}
use Rattle.std.specs.List.{suffix_len}
use Rattle.vindex.specs.BoundDigits.{bytes_of_pairs}
use Rattle.vindex.proofs.BoundLemmas.{length-bytes_of_pairs}
use Rattle.vindex.proofs.bound_text.len_without_zeros.Goals as goal

pub loop-len-init : goal.loop-len-init
loop-len-init c =
    let bytes = bytes_of_pairs c.args.digits.now in
    let half = length-bytes_of_pairs c.args.digits.now in
    let all = take_all (length c.args.digits.now / 2) bytes (omega (arith, half)) in
    let same = ap (λ xs. suffix_len (λ byte. eqb byte 0) xs) all in
    (omega (arith, half), omega (arith, half, same))

pub byte_at-requires : goal.byte_at-requires
byte_at-requires c = omega (arith, length-bytes_of_pairs c.args.digits.now, c.loop-len.invariant.0)

pub returns-else-byte_at-eq0-clause-within : goal.returns-else-byte_at-eq0-clause-within
returns-else-byte_at-eq0-clause-within c = omega (arith, length-bytes_of_pairs c.args.digits.now, c.loop-len.invariant.0)

pub returns-after-loop-len-clause-within : goal.returns-after-loop-len-clause-within
returns-after-loop-len-clause-within c = omega (arith, length-bytes_of_pairs c.args.digits.now, c.loop-len.invariant.0)

pub returns-after-loop-len-clause-len : goal.returns-after-loop-len-clause-len
returns-after-loop-len-clause-len c = search rules

pub returns-else-byte_at-eq0-clause-len : goal.returns-else-byte_at-eq0-clause-len
returns-else-byte_at-eq0-clause-len c = grind (arith, common_steps)
