use Rattle.std.proofs.Common.{◌≢◌, ◌≤◌, ◌/◌, ◌⊎◌, inl, inr, ltb, length, get_or, sym, ap, ◌∙◌, arith}
use Rattle.std.proofs.lemmas.Bool.{cases_lt}
use Rattle.std.specs.Ordering.{is_lt}
use Rattle.vindex.specs.BoundDigits.{bytes_of_pairs}
use Rattle.vindex.proofs.BoundLemmas.{length-bytes_of_pairs, slice_cmp-same, slice_cmp-other, slice_cmp-done}
use Rattle.vindex.proofs.bound_text.comes_before.Goals as goal

pub returns-then-byte-other_byte : goal.returns-then-byte-other_byte
returns-then-byte-other_byte c =
    let bytes = bytes_of_pairs c.args.digits.now in
    let other = bytes_of_pairs c.args.other.now in
    let len = length-bytes_of_pairs c.args.digits.now in
    let other_len = length-bytes_of_pairs c.args.other.now in
    let differ : get_or bytes c.loop-i.i 0 ≢ get_or other c.loop-i.i 0 = λ same. c.if-byte-other_byte.true (c.byte_at-byte.ensures ∙ same ∙ sym c.byte_at-other_byte.ensures) in
    let first = slice_cmp-other bytes other c.loop-i.i (omega arith) (omega arith) differ in
    ap (λ b. ltb b c.byte_at-other_byte.result) c.byte_at-byte.ensures
    ∙ ap (λ b. ltb (get_or bytes c.loop-i.i 0) b) c.byte_at-other_byte.ensures
    ∙ sym first
    ∙ ap (λ o. is_lt o) c.loop-i.invariant

pub loop-i-preserved : goal.loop-i-preserved
loop-i-preserved c =
    let bytes = bytes_of_pairs c.args.digits.now in
    let other = bytes_of_pairs c.args.other.now in
    let len = length-bytes_of_pairs c.args.digits.now in
    let other_len = length-bytes_of_pairs c.args.other.now in
    sym (slice_cmp-same bytes other c.loop-i.i (omega arith) (omega arith) (sym c.byte_at-byte.ensures ∙ c.if-byte-other_byte.false ∙ c.byte_at-other_byte.ensures))
    ∙ c.loop-i.invariant

pub returns : goal.returns
returns c =
    let bytes = bytes_of_pairs c.args.digits.now in
    let other = bytes_of_pairs c.args.other.now in
    let len = length-bytes_of_pairs c.args.digits.now in
    let other_len = length-bytes_of_pairs c.args.other.now in
    let done : (length bytes ≤ c.loop-i.i) ⊎ (length other ≤ c.loop-i.i) = elim (cases_lt (length bytes) (length other)) [ inl less ↦ inl (omega arith) | inr least ↦ inr (omega arith) ] in
    ap (λ n. ltb n (length c.args.other.now / 2)) (sym len)
    ∙ ap (λ n. ltb (length bytes) n) (sym other_len)
    ∙ slice_cmp-done bytes other c.loop-i.i (omega arith) (omega arith) done
    ∙ ap (λ o. is_lt o) c.loop-i.invariant
