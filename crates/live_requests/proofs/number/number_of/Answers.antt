use Rattle.std.proofs.Common.{◌+◌, ℕ, List, get_or, drop, sym, ap, ◌∙◌, arith}
use Rattle.std.specs.Option.{option_and_then}
use Rattle.std.proofs.lemmas.List.{drop_more}
use Rattle.live_requests.specs.Requests.{number_continued, small}
use Rattle.live_requests.proofs.WordLaws.{number_from-large}
use Rattle.live_requests.proofs.number.number_of.Goals as goal

pub returns-then-value-from : goal.returns-then-value-from
returns-then-value-from c =
    let word = c.args.word.now in
    let i = c.loop-digit.digit-index in
    let value = c.loop-digit.value in
    sym (sym c.loop-digit.invariant.rest
    ∙ ap (λ (digits : List ℕ). option_and_then small (number_continued value digits)) (drop_more word i 0 (omega arith))
    ∙ number_from-large value (get_or word i 0) (drop (i + 1) word) (omega arith))
