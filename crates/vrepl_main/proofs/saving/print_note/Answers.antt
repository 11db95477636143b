use Rattle.std.proofs.Common.{[], inr}
use Rattle.vrepl_main.specs.Adding.{at}
use Rattle.vrepl_main.specs.SavedBoard.{refused_note}
use Rattle.vrepl_main.proofs.AddLaws.{then_finishes, tried}
use Rattle.vrepl_main.proofs.saving.print_note.Goals as goal

pub returns-in_err-add_note : goal.returns-in_err-add_note
returns-in_err-add_note g c =
    let begun = rw c.new-text.ensures at c.in_err-add_note.ensures in
    inr begun.begun

pub returns : goal.returns
returns g c =
    let put = rw c.new-text.ensures at c.in_ok-add_note.ensures in
    tried c.finish.result _ _ _ (then_finishes c.finish.result (at _ []) (at _ c.add_note.new.text) _ (refused_note c.args.refused c.args.steps) put c.finish.ensures.printed)
