use Rattle.std.proofs.Common.{◌≡◌, ◌<◌, ℕ, List, length, map, get_or, subst, sym}
use Rattle.std.proofs.lemmas.List.{get_or-map, length-map}
use Rattle.std.proofs.lemmas.List.Elements.{All-get_or}
use Rattle.pk_copy.specs.KeyValue.{IsPart, AreParts}
use Rattle.pk_copy.specs.PartValue.{part_value}
use Rattle.pk_copy.specs.declared.part.KeyPart.{KeyPart}
use Rattle.pk_copy.proofs.lent_kept.small_of.Goals as goal

-- each of a key's parts is one that a row can carry
each_part-at : (xs : List KeyPart) (i : ℕ) (d : KeyPart) → i < length xs → AreParts (map part_value xs) → IsPart (part_value (get_or xs i d))
each_part-at xs i d within parts =
    let same : length (map part_value xs) ≡ length xs = length-map xs part_value in
    subst IsPart (get_or-map part_value xs i d (part_value d) within)
    (All-get_or IsPart (map part_value xs) i (part_value d) (subst (λ n. i < n) (sym same) within) parts.each_part)

pub from_part-requires : goal.from_part-requires
from_part-requires c = each_part-at c.args.parts.now c.loop-part.part-index _ c.loop-part-test.true c.requires
