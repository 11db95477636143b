use Rattle.std.proofs.Common.{sym, subst}
use Rattle.std.specs.Prelude.{◌↔◌, IsTrue}
use Rattle.checkpoint_laws.specs.declared.version.Version.{Version}
use Rattle.checkpoint_laws.specs.Said.{IsNamed}
use Rattle.checkpoint_core.specs.Private.Reading.{OfEachTable}
use Rattle.checkpoint_core.proofs.names.have_names.Goals as goal

pub returns-in-Two : goal.returns-in-Two
returns-in-Two c = subst (λ (v : Version). IsTrue c.all_named.result ↔ OfEachTable (IsNamed v c.args.plan.now) c.args.tables.now) (sym c.in-Two.is) c.all_named.ensures
