use Rattle.std.proofs.Common.{[], inr}
use Rattle.printing.proofs.PrintLaws.{adds_then_prints}
use Rattle.vrepl_main.proofs.AddLaws.{tried}
use Rattle.vrepl_feed.specs.Refusals.{text_line}
use Rattle.vrepl_feed.proofs.refusal.print_text.Goals as goal

pub returns-in_err-add_text_line : goal.returns-in_err-add_text_line
returns-in_err-add_text_line g c = inr (rw c.new-text.ensures at c.in_err-add_text_line.ensures)

pub returns : goal.returns
returns g c =
    let put = rw c.new-text.ensures at c.in_ok-add_text_line.ensures in
    tried c.finish.result _ _ _ (adds_then_prints c.finish.result _ [] _ _ _ (text_line c.args.fault) put c.finish.ensures.printed)
