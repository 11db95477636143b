-- How a key's parts are seen: where the bytes lie doesn't count.
use Rattle.std.specs.Prelude.{ℕ, ◌<◌, ◌≤◌, ◌-◌, ◌/◌, ◌^◌, List, [], ◌∷◌, map, take, pos, negsuc}
use Rattle.pk_copy.specs.KeyValue.{Part, number, bytes, KeyValue, AreParts}
use Rattle.pk_copy.specs.KeyFront.{IsFrontOf}
use Rattle.pk_copy.specs.declared.part.KeyPart.{KeyPart}
use Rattle.pk_copy.specs.declared.part.KeyPart.TheVariants.{Number, Bytes}
use Rattle.pk_copy.specs.declared.view.ViewedKey.{ViewedKey}
use Rattle.pk_copy.specs.declared.view.ViewedKey.TheVariants.{One, Several}
use Rattle.pk_copy.specs.declared.owned.OwnedPart.{OwnedPart}
use Rattle.pk_copy.specs.declared.owned.OwnedPart.TheVariants as owned
use Rattle.pk_copy.specs.declared.kept.KeptKey.{KeptKey}
use Rattle.pk_copy.specs.declared.kept.KeptRest.{KeptRest}
use Rattle.pk_copy.specs.declared.kept.KeptRest.TheVariants as kept

-- a lent part
abbrev pub part_value : KeyPart → Part
part_value (Number value) = number value
part_value (Bytes text) = bytes text.now

-- a lent key, whether it has one part or not
abbrev pub viewed_key : ViewedKey → KeyValue
viewed_key (One table part) = record { table = table; parts = part_value part ∷ [] }
viewed_key (Several table parts) = record { table = table; parts = map part_value parts.items }

-- a part of its own memory
abbrev pub owned_value : OwnedPart → Part
owned_value (owned.Number value) = number value
owned_value (owned.Bytes text) = bytes text.items

-- the lead of a key as it lies in memory
abbrev pub kept_lead : KeptRest → ℕ
kept_lead (kept.Negative lead) = lead
kept_lead (kept.Natural lead) = lead
kept_lead (kept.Short count lead text) = lead
kept_lead (kept.Long lead text) = lead
kept_lead (kept.Several lead parts) = lead

-- the parts of a key with this head
abbrev pub kept_parts : ℕ → KeptRest → List Part
kept_parts head (kept.Negative lead) = number (negsuc (2 ^ 64 - 1 - head)) ∷ []
kept_parts head (kept.Natural lead) = number (pos head) ∷ []
kept_parts head (kept.Short count lead text) = bytes (take count text) ∷ []
kept_parts head (kept.Long lead text) = bytes text.value.items ∷ []
kept_parts head (kept.Several lead parts) = map owned_value parts.value.items

-- a byte string in place is one of the bytes that there are
abbrev pub HasRoom : KeptRest → Type 0
HasRoom (kept.Short count lead text) = count ≤ 12
HasRoom rest = Unit {0}

-- a key as it lies in memory
abbrev pub kept_key : KeptKey → KeyValue
kept_key kept = record { table = kept_lead kept.rest / 4; parts = kept_parts kept.head kept.rest }

-- its parts are a key's, and it has its front
pub record IsKept (kept : KeptKey) : Type 0 where
  pub are_parts : AreParts (kept_parts kept.head kept.rest)
  pub within : kept_lead kept.rest < 1024
  pub room : HasRoom kept.rest
  pub front : IsFrontOf (kept_lead kept.rest) kept.head (kept_key kept)
