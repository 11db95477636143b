-- The front of a key: two numbers that keep the order of keys, so that most keys are told apart by these alone
-- (this profile).
use Rattle.std.specs.Prelude.{◌≡◌, ℕ, zero, suc, ◌+◌, ◌-◌, ◌*◌, ◌^◌, ◌<◌, false, List, [], ◌∷◌, pos, negsuc}
use Rattle.std.specs.Ordering.{nat_cmp, on, then_cmp, is_gt}
use Rattle.std.specs.declared.cmp.Ordering.{Ordering}
use Rattle.std.specs.declared.cmp.Ordering.TheVariants.{Less}
use Rattle.pk_copy.specs.KeyValue.{Part, number, bytes, KeyValue}
use Rattle.pk_copy.specs.KeyOrder.{key_cmp}

-- the number that the first n bytes of a text spell, the first byte the highest; zeros stand behind a shorter text
abbrev pub word : ℕ → List ℕ → ℕ
word zero text = 0
word (suc n) [] = 0
word (suc n) (byte ∷ text) = byte * 256 ^ n + word n text

-- what stands in the first n places of a text are bytes
abbrev pub BeginsInBytes : ℕ → List ℕ → Type 0
BeginsInBytes zero text = Unit {0}
BeginsInBytes (suc n) [] = Unit {0}
BeginsInBytes (suc n) (byte ∷ text) = (byte < 256) × BeginsInBytes n text

-- the kind of the first part: 0 where there is none, 1 for a number below 0, 2 for one from 0, 3 for a byte string
abbrev pub kind_of : List Part → ℕ
kind_of [] = 0
kind_of (number (negsuc below) ∷ parts) = 1
kind_of (number (pos value) ∷ parts) = 2
kind_of (bytes text ∷ parts) = 3

-- what orders first parts of one kind: a number from -2^64 as what it is above that, or the first eight bytes
abbrev pub head_of : List Part → ℕ
head_of [] = 0
head_of (number (negsuc below) ∷ parts) = 2 ^ 64 - 1 - below
head_of (number (pos value) ∷ parts) = value
head_of (bytes text ∷ parts) = word 8 text

-- the table and the kind as one number
abbrev pub lead_of : KeyValue → ℕ
lead_of key = 4 * key.table + kind_of key.parts

-- a byte string that comes first begins in bytes
abbrev pub BeginInBytes : List Part → Type 0
BeginInBytes [] = Unit {0}
BeginInBytes (number value ∷ parts) = Unit {0}
BeginInBytes (bytes text ∷ parts) = BeginsInBytes 8 text

-- these two numbers are the key's front
pub record IsFrontOf (lead head : ℕ) (key : KeyValue) : Type 0 where
  pub is_lead : lead ≡ lead_of key
  pub is_head : head ≡ head_of key.parts
  pub in_bytes : BeginInBytes key.parts

-- the order of two keys by their fronts
abbrev pub front_cmp : KeyValue → KeyValue → Ordering
front_cmp = then_cmp (on lead_of nat_cmp) (on (λ key. head_of key.parts) nat_cmp)

-- a key whose front is less is less; and where a key is less, its front isn't greater
abbrev pub FrontsKeepTheOrder : Type 0
FrontsKeepTheOrder = (x y : KeyValue) → BeginInBytes x.parts → BeginInBytes y.parts
    → (front_cmp x y ≡ Less → key_cmp x y ≡ Less) × (key_cmp x y ≡ Less → is_gt (front_cmp x y) ≡ false)
