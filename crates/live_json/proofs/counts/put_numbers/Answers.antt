use Rattle.std.proofs.Common.{ℕ, [], ◌∷◌, List, ap, false, map, refl}
use Rattle.std.proofs.lemmas.List.{drop_all, drop_more}
use Rattle.serde_json.specs.View.{items_of}
use Rattle.serde_json.specs.Written.{items_text}
use Rattle.json_pieces.proofs.TellLaws.{begins, moves, ends_by}
use Rattle.live_json.specs.Answers.{count_data}
use Rattle.live_json.proofs.counts.put_numbers.Goals as goal

pub loop-number-init : goal.loop-number-init
loop-number-init g c = begins _ _ (91 ∷ []) (items_text false (items_of (map count_data c.args.numbers.now))) c.put.ensures

pub loop-number-preserved : goal.loop-number-preserved
loop-number-preserved g c =
    let parts = ap (λ (l : List ℕ). items_text c.loop-number.later (items_of (map count_data l))) (drop_more c.args.numbers.now c.loop-number.number-index 0 c.loop-number-test.true) in
    moves _ _ _ _ _ _ _ refl (moves _ _ _ _ _ _ _ parts c.loop-number.invariant c.put_comma_if.ensures) c.put_count.ensures

pub returns : goal.returns
returns g c =
    ends_by _ _ _ _ _ (93 ∷ []) (ap (λ (l : List ℕ). items_text c.loop-number.later (items_of (map count_data l))) (drop_all c.loop-number.number-index c.args.numbers.now c.loop-number-test.false)) c.loop-number.invariant c.put-2.ensures
