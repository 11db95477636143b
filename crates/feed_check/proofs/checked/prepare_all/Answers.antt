use Rattle.std.proofs.Common.{rules, ◌≡◌, ◌∙◌, ◌+◌, ◌<◌, ◌++◌, [], ◌∷◌, List, length, map, ap, sym, subst, drop}
use Rattle.std.specs.Arc.{arc_value}
use Rattle.std.proofs.lemmas.List.{map-append, drop_all}
use Rattle.std.proofs.lemmas.Result.{err_from_is_err_and}
use Rattle.list_laws.specs.Outcome.{each}
use Rattle.source_feed.specs.Touches.{PreparedValue, prepared}
use Rattle.feed_check.specs.Checked.{history_of}
use Rattle.feed_check.proofs.ListLaws.{in_front, starts, ends}
use Rattle.feed_check.proofs.CheckLaws.{prepare-goes, prepare-stops}
use Rattle.feed_check.proofs.checked.prepare_all.Goals as goal

pub loop-i-init : goal.loop-i-init
loop-i-init g c =
    let none : c.in_ok-groups.groups.items ≡ [] = search rules in
    starts (history_of c.args.feed.now) (map arc_value c.in_ok-groups.groups.items) (ap (map arc_value) none)

pub returns-in_err-group : goal.returns-in_err-group
returns-in_err-group g c =
    let p = err_from_is_err_and c.from_residual-in_err-group.result c.from_residual-in_err-group.ensures.1 in
    let within : c.loop-i.i < length c.args.feed.now.groups = search rules in
    rw (p.1, p.2) (prepare-stops c.args.feed.now c.loop-i.i _ (map arc_value c.loop-i.groups.items) c.in_err-group.field-0.0 within c.number_at.ensures c.in_err-group.ensures.exact c.loop-i.invariant)

pub loop-i-preserved : goal.loop-i-preserved
loop-i-preserved g c =
    let within : c.loop-i.i < length c.args.feed.now.groups = search rules in
    let items : c.push.new.self.items ≡ c.loop-i.groups.items ++ c.in_ok-group.group ∷ [] = search rules in
    let grown = ap (map arc_value) items ∙ map-append arc_value c.loop-i.groups.items (c.in_ok-group.group ∷ []) in
    subst (λ (front : List PreparedValue). history_of c.args.feed.now ≡ in_front front (each (prepared c.args.feed.now.plan) (drop (c.loop-i.i + 1) c.args.feed.now.groups))) (sym grown)
    (prepare-goes c.args.feed.now c.loop-i.i _ (map arc_value c.loop-i.groups.items) (arc_value c.in_ok-group.group) within c.number_at.ensures c.in_ok-group.ensures.exact c.loop-i.invariant)

pub returns : goal.returns
returns g c =
    ends (map arc_value c.loop-i.groups.items) (history_of c.args.feed.now)
    (c.loop-i.invariant ∙ ap (λ gs. in_front (map arc_value c.loop-i.groups.items) (each (prepared c.args.feed.now.plan) gs)) (drop_all c.loop-i.i c.args.feed.now.groups (search rules)))
