use Rattle.std.proofs.Common.{sym, ◌∙◌}
use Rattle.log_feed.proofs.WordLaws.{blank-further, blank-end, blank-none}
use Rattle.log_feed.proofs.words.without_blanks.Goals as goal

pub returns-then-not-is_blank : goal.returns-then-not-is_blank
returns-then-not-is_blank c = blank-end c.loop-byte.left.now c.in-Some.rest.now c.in-Some.byte.now _ c.in-Some.ensures.cases.0 (sym c.is_blank.ensures ∙ c.if-not-is_blank.true) c.loop-byte.invariant

pub loop-byte-preserved : goal.loop-byte-preserved
loop-byte-preserved c = blank-further c.loop-byte.left.now c.in-Some.rest.now c.in-Some.byte.now _ c.in-Some.ensures.cases.0 (sym c.is_blank.ensures ∙ c.if-not-is_blank.false) c.loop-byte.invariant

pub returns : goal.returns
returns c = blank-none c.loop-byte.left.now _ c.in_default.ensures.cases c.loop-byte.invariant
