use Rattle.std.proofs.Common.{◌≡◌, ℕ, ◌-◌, List, length, take, drop, sym, ap, ◌∙◌, arith}
use Rattle.std.proofs.lemmas.List.{take_rest}
use Rattle.std.specs.Cmp.Lexicographic.{slice_cmp}
use Rattle.std.specs.Ordering.{nat_cmp}
use Rattle.pk_copy.specs.KeyFront.{word}
use Rattle.pk_copy.proofs.WordLaws.{words_tie}
use Rattle.pk_copy.proofs.texts.text_order.Goals as goal

pub loop-left-preserved : goal.loop-left-preserved
loop-left-preserved c =
    let left : List ℕ = c.loop-left.left.now in
    let right : List ℕ = c.loop-left.right.now in
    let numbers : c.word_of-a.result ≡ c.word_of-b.result = omega arith in
    let same : word 8 left ≡ word 8 right = sym c.word_of-a.ensures.spelled ∙ numbers ∙ c.word_of-b.ensures.spelled in
    ap (λ (l : List ℕ). slice_cmp nat_cmp l (take (length right - 8) (drop 8 right))) (take_rest left 8)
    ∙ ap (λ (l : List ℕ). slice_cmp nat_cmp (drop 8 left) l) (take_rest right 8)
    ∙ sym (words_tie 8 left right (omega arith) (omega arith) c.word_of-a.ensures.in_bytes c.word_of-b.ensures.in_bytes same)
    ∙ c.loop-left.invariant
