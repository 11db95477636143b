-- The order of keys: by table, then part by part, numbers by value and byte strings byte by byte. Where one
-- key's parts are the beginning of the other's, it comes first (this profile, after MySQL's order of a
-- primary key under a binary collation).
use Rattle.std.specs.Prelude.{List}
use Rattle.std.specs.Cmp.Lexicographic.{slice_cmp}
use Rattle.std.specs.Ordering.{nat_cmp, int_cmp, on, then_cmp}
use Rattle.std.specs.declared.cmp.Ordering.{Ordering}
use Rattle.std.specs.declared.cmp.Ordering.TheVariants.{Less, Greater}
use Rattle.pk_copy.specs.KeyValue.{Part, number, bytes, KeyValue}

-- the order of two parts; a column has parts of one kind, and where kinds differ numbers come first
abbrev pub part_cmp : Part → Part → Ordering
part_cmp (number a) (number b) = int_cmp a b
part_cmp (number a) (bytes b) = Less
part_cmp (bytes a) (number b) = Greater
part_cmp (bytes a) (bytes b) = slice_cmp nat_cmp a b

-- the order of two lists of parts
abbrev pub parts_cmp : List Part → List Part → Ordering
parts_cmp = slice_cmp part_cmp

-- the order of two keys
abbrev pub key_cmp : KeyValue → KeyValue → Ordering
key_cmp = then_cmp (on (λ key. key.table) nat_cmp) (on (λ key. key.parts) parts_cmp)
