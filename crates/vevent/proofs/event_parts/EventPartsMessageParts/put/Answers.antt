use Rattle.std.proofs.Common.{arith, rules}
use Rattle.std.proofs.lemmas.Grind.{common_steps}
use Rattle.vevent.proofs.event_parts.EventPartsMessageParts.put.Goals as goal

pub returns-in-1-Varint-clause-put : goal.returns-in-1-Varint-clause-put
returns-in-1-Varint-clause-put c = search rules

pub returns-in-7-Bytes-clause-wire : goal.returns-in-7-Bytes-clause-wire
returns-in-7-Bytes-clause-wire c = search rules

pub returns-in_default-6-clause-put : goal.returns-in_default-6-clause-put
returns-in_default-6-clause-put c = grind (arith, common_steps)
