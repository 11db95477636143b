use Rattle.std.proofs.Common.{sym, subst}
use Rattle.std.specs.Prelude.{◌↔◌, IsTrue}
use Rattle.checkpoint_laws.specs.declared.version.Version.{Version}
use Rattle.checkpoint_laws.specs.Said.{HaveAsMany}
use Rattle.checkpoint_core.proofs.names.have_as_many.Goals as goal

pub returns-in-Two : goal.returns-in-Two
returns-in-Two c = subst (λ (v : Version). IsTrue c.all_as_many.result ↔ HaveAsMany v c.args.parts.now) (sym c.in-Two.is) c.all_as_many.ensures
