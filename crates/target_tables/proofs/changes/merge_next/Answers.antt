use Rattle.std.proofs.Common.{take, List, ◌≡◌, ℕ, ap, sym, subst, ◌∙◌}
use Rattle.target_tables.specs.Pages.{entries_of}
use Rattle.target_tables.proofs.Committing.{leads_at_first}
use Rattle.target_tables.proofs.changes.merge_next.Goals as goal

pub returns-then-not-has_spare-clause-leads : goal.returns-then-not-has_spare-clause-leads
returns-then-not-has_spare-clause-leads g c = leads_at_first g.met.K.Ord.total (entries_of c.args.pages.now.pages) c.args.stream (take c.args.left c.args.changes.now.items) c.requires.falling
