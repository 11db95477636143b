use Rattle.std.proofs.Common.{arith}
use Rattle.std.proofs.lemmas.Grind.{common_steps}
use Rattle.vindex.proofs.BoundLemmas.{get_or-bytes_of_pairs}
use Rattle.vindex.proofs.bound_text.byte_at.Goals as goal

pub returns : goal.returns
returns c = grind (arith, common_steps, get_or-bytes_of_pairs)
