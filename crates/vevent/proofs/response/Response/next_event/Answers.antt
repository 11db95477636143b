use Rattle.std.proofs.Common.{rules}
use Rattle.vevent.proofs.response.Response.next_event.Goals as goal

pub returns-in-Err : goal.returns-in-Err
returns-in-Err c = search rules
