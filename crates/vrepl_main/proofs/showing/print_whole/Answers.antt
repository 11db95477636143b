use Rattle.std.proofs.Common.{[]}
use Rattle.vrepl_main.specs.Adding.{at}
use Rattle.feed_text.specs.Shown.{shown}
use Rattle.vrepl_main.proofs.AddLaws.{then_finishes}
use Rattle.vrepl_main.proofs.showing.print_whole.Goals as goal

pub returns : goal.returns
returns g c =
    let put = rw c.new-text.ensures at c.in_ok-print_groups.ensures in
    then_finishes c.finish.result (at _ []) (at _ c.print_groups.new.text) _ (shown c.args.groups.now.items) put c.finish.ensures.printed
