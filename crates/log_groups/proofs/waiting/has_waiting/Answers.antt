use Rattle.std.proofs.Common.{sym, ap}
use Rattle.std.specs.Prelude.{is_some}
use Rattle.log_groups.specs.Body.{xid_value}
use Rattle.log_groups.specs.GroupCalls.{waiting_value}
use Rattle.log_groups.proofs.WaitingLaws.{there_is}
use Rattle.log_groups.proofs.waiting.has_waiting.Goals as goal

pub returns-in-Some : goal.returns-in-Some
returns-in-Some c =
    let there = there_is waiting_value c.args.waiting.now (xid_value c.args.xid.now) _ c.in-Some.ensures in
    ap (λ o. is_some o) (sym there.1)
