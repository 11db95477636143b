use Rattle.log_groups.specs.Body.{xid_value}
use Rattle.log_groups.specs.GroupCalls.{waiting_value}
use Rattle.log_groups.proofs.WaitingLaws.{Looked}
use Rattle.log_groups.proofs.waiting.place_of.Given as goal

-- nothing before this place waits under the id
abbrev pub invariant-loop-place : goal.invariant-loop-place
invariant-loop-place l = Looked waiting_value l.waiting (xid_value l.xid) l.place
