use Rattle.std.proofs.Common.{◌≡◌, ◌∙◌, ℕ, List, Option, Some, ap, ap₂, subst}
use Rattle.std.specs.Option.{option_copied}
use Rattle.range_cover.specs.Cover.{holders_of}
use Rattle.range_cover.specs.Private.Next.{next_from, inside, with_wrong}
use Rattle.range_cover.proofs.MisfitLaws.{IsFarAs, begun, gone-on, fewer}
use Rattle.range_cover.proofs.misfit.misfits.Goals as goal

pub loop-place-init : goal.loop-place-init
loop-place-init c = rw (c.new-found.ensures.items, c.start.ensures) (begun c.args.whole.now c.args.shares.now c.end-last.ensures.ordered)

pub loop-place-smaller : goal.loop-place-smaller
loop-place-smaller c =
    let whole = c.args.whole.now in
    let shares = c.args.shares.now in
    let found = c.loop-place.found.items in
    let p = c.in-Some.start.now in
    let far : IsFarAs whole shares found (Some p) = subst (λ place. IsFarAs whole shares found (option_copied place)) c.in-Some.is c.loop-place.invariant in
    let next : option_copied c.next_from-end.result ≡ next_from p shares whole.end = c.next_from-end.ensures ∙ ap (λ end. next_from p shares end) c.end-last.ensures.end in
    let place : option_copied c.inside-place.result ≡ inside whole (next_from p shares whole.end) = c.inside-place.ensures ∙ ap (λ end. inside whole end) next in
    rw (place, c.in-Some.is) (fewer whole shares found p far)

pub loop-place-preserved : goal.loop-place-preserved
loop-place-preserved c =
    let whole = c.args.whole.now in
    let shares = c.args.shares.now in
    let found = c.loop-place.found.items in
    let p = c.in-Some.start.now in
    let far : IsFarAs whole shares found (Some p) = subst (λ place. IsFarAs whole shares found (option_copied place)) c.in-Some.is c.loop-place.invariant in
    let next : option_copied c.next_from-end.result ≡ next_from p shares whole.end = c.next_from-end.ensures ∙ ap (λ end. next_from p shares end) c.end-last.ensures.end in
    let place : option_copied c.inside-place.result ≡ inside whole (next_from p shares whole.end) = c.inside-place.ensures ∙ ap (λ end. inside whole end) next in
    let after : c.push_wrong.new.found.items ≡ with_wrong p (next_from p shares whole.end) (holders_of shares p) found =
    c.in_ok-push_wrong.ensures ∙ ap₂ (λ (end : Option (List ℕ)) (holders : List ℕ). with_wrong p end holders found) next c.in_ok-holders.ensures in
    rw (place, after) (gone-on whole shares found p far)
