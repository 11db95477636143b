use Rattle.std.proofs.Common.{◌≡◌, ◌∙◌, ap, length, option_map, refl, arith}
use Rattle.std.specs.List.{after_first, position_or_len}
use Rattle.std.proofs.lemmas.Bool.{cond_above, cond_below}
use Rattle.std.proofs.lemmas.Str.Pattern.{split_once_first}
use Rattle.vrepl_words.specs.Arguments.{stream_number_of}
use Rattle.vrepl_words.specs.Untils.{is_equals, of_stream}
use Rattle.vrepl_words.proofs.untils.until_of.Goals as goal

pub returns-in-None : goal.returns-in-None
returns-in-None c =
    let first = split_once_first 61 c.args.text.now c.split_once.result c.split_once.ensures.cases (omega arith) in
    let none : position_or_len is_equals c.args.text.now ≡ length c.args.text.now = rw c.in-None.is at first in
    cond_above (position_or_len is_equals c.args.text.now) (length c.args.text.now) _ _ _ (omega (arith, none)) refl

pub returns-in-Some : goal.returns-in-Some
returns-in-Some c =
    let parts = rw c.in-Some.is at (split_once_first 61 c.args.text.now c.split_once.result c.split_once.ensures.cases (omega arith)) in
    c.until_by.ensures
    ∙ ap (λ text. option_map (of_stream text) (stream_number_of c.in-Some.stream.now)) parts.2
    ∙ ap (λ text. option_map (of_stream (after_first is_equals c.args.text.now)) (stream_number_of text)) parts.1
    ∙ cond_below (position_or_len is_equals c.args.text.now) (length c.args.text.now) _ _ parts.0
