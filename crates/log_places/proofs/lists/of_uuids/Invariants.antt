use Rattle.std.proofs.Common.{◌≡◌, ◌-◌, []}
use Rattle.log_places.specs.List.{times, uuid_at}
use Rattle.log_places.proofs.lists.of_uuids.Given as goal

-- the uuids still to come behind those so far are all of them
abbrev pub invariant-loop : goal.invariant-loop
invariant-loop l = times uuid_at (l.count - l.counter) (l.reached, l.left) ≡ times uuid_at l.count ([], l.bytes)
