use Rattle.std.proofs.Common.{rules}
use Rattle.vindex.proofs.ids.Id.bytes.Goals as goal

pub returns-in-Eight : goal.returns-in-Eight
returns-in-Eight c = search rules

pub returns-in-Sixteen : goal.returns-in-Sixteen
returns-in-Sixteen c = search rules

pub returns-in-Slice : goal.returns-in-Slice
returns-in-Slice c = search rules
