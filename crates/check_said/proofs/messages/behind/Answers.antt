use Rattle.std.proofs.Common.{arith, ◌≡◌, ◌∙◌, ◌+◌, ◌-◌, ℕ, suc, List, ap, sym}
use Rattle.check_said.specs.Messages.{behind}
use Rattle.check_said.proofs.messages.behind.Goals as goal

pub loop-preserved : goal.loop-preserved
loop-preserved c =
    let left : ℕ = c.args.count - (c.loop.counter + 1) in
    let step : c.args.count - c.loop.counter ≡ suc left = omega (arith, c.loop-test.true) in
    ap (λ (bytes : List ℕ). behind left bytes) c.behind_message-rest.ensures
    ∙ sym (ap (λ n. behind n c.loop.rest.now) step)
    ∙ c.loop.invariant
