use Rattle.std.proofs.lemmas.List.Elements.{All-rest}
use Rattle.target_tables.specs.Pages.{IsFull}
use Rattle.target_tables.proofs.scan.ScanIterator.next.Goals as goal

pub invariant_of-self-in-None : goal.invariant_of-self-in-None
invariant_of-self-in-None g c = All-rest IsFull c.in_ok-page-in-None.page.now c.in_ok-page-in-None.pages.now c.self.inside.pages.now c.in_ok-page-in-None.ensures.cases.0 c.self.invariant
