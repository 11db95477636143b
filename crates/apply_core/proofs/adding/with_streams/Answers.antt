use Rattle.std.proofs.Common.{sym, ap, subst}
use Rattle.board_laws.specs.Lawful.{IsLawful}
use Rattle.board_laws.specs.Meaning.{TargetRows, Meaning}
use Rattle.apply_core.proofs.adding.with_streams.Goals as goal

pub invariant_of-result : goal.invariant_of-result
invariant_of-result c = subst (λ (rows : TargetRows). IsLawful (record { streams = c.args.streams.items; rows = rows })) (sym (ap (λ (m : Meaning). m.rows) c.board.view_is)) c.requires
