use Rattle.std.proofs.Common.{refl}
use Rattle.vdiff.proofs.json_error.error_line.Goals as goal

pub line_of-requires : goal.line_of-requires
line_of-requires c = rw c.in_ok-error.ensures refl

pub returns : goal.returns
returns c = rw c.in_ok-error.ensures at c.line_of.ensures
