use Rattle.std.proofs.Common.{◌≡◌, ◌||◌, ◌+◌, ◌∙◌, List, drop, sym, ap, subst, arith}
use Rattle.std.proofs.lemmas.List.{drop_all}
use Rattle.list_laws.proofs.Walks.{at_item}
use Rattle.pk_copy.specs.KeyValue.{KeyValue}
use Rattle.source_feed.specs.Touches.{TouchValue}
use Rattle.live_core.specs.Private.Keys.{has_key, is_touched}
use Rattle.live_core.proofs.KeyLaws.{HasMore, put-one, or-false}
use Rattle.live_core.proofs.touched.put_keys.Goals as goal

pub loop-touch-preserved : goal.loop-touch-preserved
loop-touch-preserved c = λ q.
    let touches = c.args.touches.now in
    let i = c.loop-touch.touch-index in
    let touch = c.touch-item.result in
    let old = c.loop-touch.keys.keys in
    let is : c.in_ok-key.key ≡ touch.0 = c.in_ok-key.ensures ∙ c.key.ensures in
    put-one old c.insert.new.self.keys touch (drop (i + 1) touches) (subst (λ (k : KeyValue). HasMore old c.insert.new.self.keys k) is c.in_ok-insert.ensures.updates.0) q
    ∙ ap (λ (l : List TouchValue). has_key old q || is_touched l q) (sym (at_item touches i touch (omega (arith, c.loop-touch-test.true)) c.touch-item.is))
    ∙ c.loop-touch.invariant q

pub returns : goal.returns
returns c = λ q.
    let keys = c.loop-touch.keys.keys in
    sym (or-false (has_key keys q))
    ∙ ap (λ (l : List TouchValue). has_key keys q || is_touched l q) (sym (drop_all c.loop-touch.touch-index c.args.touches.now c.loop-touch-test.false))
    ∙ c.loop-touch.invariant q
