-- The order of parts as they are kept is that of the parts that they are seen as.
use Rattle.std.specs.Prelude.{◌≡◌, List, map}
use Rattle.std.proofs.Common.{sym}
use Rattle.std.specs.Cmp.Derive.Mapped.{lex_map}
use Rattle.std.specs.Cmp.Lexicographic.{slice_cmp}
use Rattle.std.specs.Ordering.{on}
use Rattle.pk_copy.specs.KeyValue.{Part}
use Rattle.pk_copy.specs.KeyOrder.{part_cmp, parts_cmp}

pub slice_cmp-on : {X : Type 0} (seen : X → Part) (xs ys : List X) → slice_cmp (on seen part_cmp) xs ys ≡ parts_cmp (map seen xs) (map seen ys)
slice_cmp-on seen xs ys = sym (lex_map seen part_cmp xs ys)
