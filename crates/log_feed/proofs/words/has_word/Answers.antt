use Rattle.std.proofs.Common.{sym, ◌∙◌}
use Rattle.log_feed.proofs.WordLaws.{word-here, word-further, word-nowhere}
use Rattle.log_feed.proofs.words.has_word.Goals as goal

pub returns-then-stands_here : goal.returns-then-stands_here
returns-then-stands_here c =
    word-here c.loop-byte.inside c.args.word.now c.loop-byte.left.now c.in-Some.rest.now c.in-Some.byte.now _ c.in-Some.ensures.cases.0 (sym c.stands_here.ensures ∙ c.if-stands_here.true) c.loop-byte.invariant

pub loop-byte-preserved : goal.loop-byte-preserved
loop-byte-preserved c =
    word-further c.loop-byte.inside c.is_name_byte-inside.result c.args.word.now c.loop-byte.left.now c.in-Some.rest.now c.in-Some.byte.now _ c.in-Some.ensures.cases.0 (sym c.stands_here.ensures ∙ c.if-stands_here.false) c.is_name_byte-inside.ensures c.loop-byte.invariant

pub returns : goal.returns
returns c = word-nowhere c.loop-byte.inside c.args.word.now c.loop-byte.left.now _ c.in_default.ensures.cases c.loop-byte.invariant
