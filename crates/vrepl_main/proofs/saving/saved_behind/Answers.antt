use Rattle.std.proofs.Common.{ℕ, ◌≤◌, map, subst}
use Rattle.std.proofs.lemmas.List.{length-map}
use Rattle.std.specs.Arc.{arc_value}
use Rattle.vrepl_main.proofs.SaveLaws.{saved_by}
use Rattle.vrepl_main.proofs.saving.saved_behind.Goals as goal

pub board_behind-requires-clause-some : goal.board_behind-requires-clause-some
board_behind-requires-clause-some c = subst (λ (n : ℕ). 1 ≤ n) (length-map c.args.scripted.opened.plans.items arc_value) c.requires.count.0

pub board_behind-requires-clause-few : goal.board_behind-requires-clause-few
board_behind-requires-clause-few c = subst (λ (n : ℕ). n ≤ 64) (length-map c.args.scripted.opened.plans.items arc_value) c.requires.count.1

pub returns-clause-behind : goal.returns-clause-behind
returns-clause-behind c =
    let given = c.args.scripted in
    saved_by (map arc_value given.opened.plans.items) given.opened.feeds.items given.steps.items _ _ c.in_ok-bytes.bytes.items
    (rw c.deref.ensures.value at c.in_ok-fed.ensures.taken) c.in_ok-fed.ensures.fed c.in_ok-fed.ensures.sources (rw c.board.ensures.board at c.in_ok-bytes.ensures)
