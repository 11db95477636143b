use Rattle.std.proofs.Common.{◌≤◌, arith}
use Rattle.target_tables.specs.Pages.{room_of}
use Rattle.target_tables.proofs.changes.make_change.Goals as goal

pub returns-in-Some-clause-room : goal.returns-in-Some-clause-room
returns-in-Some-clause-room g c = λ n few h. c.put.ensures.room n few (rw c.in-Some.is at h)

pub returns-in-None-clause-room : goal.returns-in-None-clause-room
returns-in-None-clause-room g c = λ n few h. let kept : room_of c.args.pages.now.pages c.args.pages.now.spares ≤ room_of c.take_away.new.pages.pages c.take_away.new.pages.spares = c.take_away.ensures.room in omega arith
