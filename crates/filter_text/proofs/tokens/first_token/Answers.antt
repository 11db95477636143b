use Rattle.std.proofs.Common.{get_or, refl, sym, ◌∙◌}
use Rattle.filter_text.proofs.CutLaws.{at_backquote, at_quote, at_mark, no_token}
use Rattle.filter_text.proofs.tokens.first_token.Goals as goal

pub returns-then-first-eq96-clause-cut : goal.returns-then-first-eq96-clause-cut
returns-then-first-eq96-clause-cut c =
    at_backquote c.args.text.now c.as_bytes.result.now c.behind_first.result.now (get_or c.as_bytes.result.now 0 0) c.name.result c.as_bytes.ensures.value refl c.if-first-eq96.true c.behind_first.ensures c.name.ensures.cut

pub returns-then-first-eq39-clause-cut : goal.returns-then-first-eq39-clause-cut
returns-then-first-eq39-clause-cut c =
    at_quote c.args.text.now c.as_bytes.result.now c.behind_first-then-first-eq39.result.now (get_or c.as_bytes.result.now 0 0) c.quoted.result c.as_bytes.ensures.value refl c.if-first-eq39.true c.behind_first-then-first-eq39.ensures c.quoted.ensures.cut

pub returns-then-is_mark-clause-cut : goal.returns-then-is_mark-clause-cut
returns-then-is_mark-clause-cut c =
    at_mark c.args.text.now c.as_bytes.result.now c.behind_first-then-is_mark.result.now (get_or c.as_bytes.result.now 0 0) c.as_bytes.ensures.value refl (sym c.is_mark.ensures ∙ c.if-is_mark.true) c.behind_first-then-is_mark.ensures

pub returns-else-is_word_byte-clause-cut : goal.returns-else-is_word_byte-clause-cut
returns-else-is_word_byte-clause-cut c =
    no_token c.args.text.now c.as_bytes.result.now (get_or c.as_bytes.result.now 0 0) c.as_bytes.ensures.value c.requires.some c.requires.shown refl c.if-first-eq96.false c.if-first-eq39.false (sym c.is_mark.ensures ∙ c.if-is_mark.false) (sym c.is_word_byte.ensures ∙ c.if-is_word_byte.false)
