use Rattle.std.proofs.Common.{◌≡◌, ℕ, List, ◌-◌, ◌∷◌, ◌++◌, length, take, drop, ap, sym, ◌∙◌, arith}
use Rattle.std.proofs.lemmas.List.{take-append-drop}
use Rattle.row_view.proofs.SpelledLaws.{from_two, as_written}
use Rattle.row_view.proofs.spelled.is_spelled.Goals as goal

pub returns-in-Some : goal.returns-in-Some
returns-in-Some c is =
    let message = c.args.message.now in
    let count = c.from-count.result in
    let packed = c.split_at.result.0.now in
    let field = c.split_at.result.1.now in
    let rest = take (length message - 2) (drop 2 message) in
    let long : length packed ≡ count = c.split_at.ensures.front_len in
    let halves : rest ≡ packed ++ field = rw (c.split_at.ensures.front, c.split_at.ensures.back) (sym (take-append-drop count rest)) in
    let parts : message ≡ 10 ∷ length packed ∷ (packed ++ field) =
    from_two message 10 count c.in-len2-up.len_at_least c.if-tag-ne-LENGTHS_TAG.false (sym c.from-count.ensures)
    ∙ ap (λ (w : List ℕ). 10 ∷ count ∷ w) halves ∙ ap (λ (n : ℕ). 10 ∷ n ∷ (packed ++ field)) (sym long) in
    as_written c.fields_are_read_again.ensures c.numbers_are_read_again.ensures message packed field c.in-Some.size c.requires parts
    (λ none. c.if-count-eq0.false (sym long ∙ none)) (omega (arith, long, c.if-count-ge128.false)) c.in-Some.ensures.short c.in-Some.ensures.size c.in-Some.ensures.few (c.are_values.ensures is)
