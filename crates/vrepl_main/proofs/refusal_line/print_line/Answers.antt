use Rattle.std.proofs.Common.{[], inr}
use Rattle.vrepl_main.specs.Adding.{at}
use Rattle.vrepl_main.specs.RefusalLine.{line_of}
use Rattle.vrepl_main.proofs.AddLaws.{then_finishes, tried}
use Rattle.vrepl_main.proofs.refusal_line.print_line.Goals as goal

pub returns-in_err-print_refused : goal.returns-in_err-print_refused
returns-in_err-print_refused g c =
    let begun = rw c.new-text.ensures at c.in_err-print_refused.ensures in
    inr begun.begun

pub returns : goal.returns
returns g c =
    let put = rw c.new-text.ensures at c.in_ok-print_refused.ensures in
    let text = line_of (g.T.Telling.told_number c.args.refusal.now) (g.T.Telling.told_details c.args.tables.now c.args.refusal.now) in
    tried c.finish.result _ _ _ (then_finishes c.finish.result (at _ []) (at _ c.print_refused.new.text) _ text put c.finish.ensures.printed)
