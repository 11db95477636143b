use Rattle.std.proofs.Common.{sym, ap, ◌∙◌, arith}
use Rattle.std.proofs.lemmas.Grind.{common_steps}
use Rattle.std.proofs.lemmas.List.{length-take-le}
use Rattle.std.specs.Option.{option_map}
use Rattle.vindex.specs.Bounds.{without_end_zeros}
use Rattle.vindex.specs.RangeText.{bytes_of_hex}
use Rattle.vindex.proofs.BoundLemmas.{bytes_of_hex-odd, bytes_of_hex-stray, decode_of-take, bound_is}
use Rattle.vindex.proofs.bound_text.BoundText.read.Goals as goal
use Rattle.vindex.proofs.bound_text.BoundText.read.Goals.{then-digits-ne0-via-then-digits-ne0, then-digits-ne0-via-else-digits-ne0+then-not-are_digits}

pub returns-then-digits-ne0 : goal.returns-then-digits-ne0
returns-then-digits-ne0 c =
    elim c.then-digits-ne0.branch [
      | then-digits-ne0-via-then-digits-ne0 w ↦ grind (arith, common_steps, bytes_of_hex-odd)
      | then-digits-ne0-via-else-digits-ne0+then-not-are_digits w ↦ grind (arith, common_steps, bytes_of_hex-stray)
    ]

pub overflow_mul-result : goal.overflow_mul-result
overflow_mul-result c = omega (arith, c.as_bytes-digits.ensures.len)

pub slice_bounds-result-end : goal.slice_bounds-result-end
slice_bounds-result-end c = sym (length-take-le _ _ c.len_without_zeros.ensures.within)

pub invariant_of-result : goal.invariant_of-result
invariant_of-result c = decode_of-take c.len_without_zeros.result c.as_bytes-digits.result.now c.len_without_zeros.ensures.within (sym c.are_digits.ensures ∙ c.if-not-are_digits.false)

pub returns : goal.returns
returns c =
    bound_is c.len_without_zeros.result c.as_bytes-digits.result.now c.if-digits-ne0.false (sym c.are_digits.ensures ∙ c.if-not-are_digits.false) c.len_without_zeros.ensures.len
    ∙ ap (λ text. option_map without_end_zeros (bytes_of_hex text)) c.as_bytes-digits.ensures.value
