-- How a kept key's parts are seen: how its numbers are kept doesn't count.
use Rattle.std.specs.Prelude.{ℕ, ◌<◌, ◌-◌, ◌/◌, ◌^◌, List, [], ◌∷◌, map, pos, negsuc}
use Rattle.pk_copy.specs.KeyValue.{Part, number, bytes, KeyValue, AreParts}
use Rattle.pk_copy.specs.KeyFront.{IsFrontOf}
use Rattle.pk_copy.specs.declared.small_part.SmallPart.{SmallPart}
use Rattle.pk_copy.specs.declared.small_part.SmallPart.TheVariants.{Negative, Natural, Bytes}
use Rattle.pk_copy.specs.declared.lent_kept.LentKept.{LentKept}
use Rattle.pk_copy.specs.declared.lent_kept.LentRest.{LentRest}
use Rattle.pk_copy.specs.declared.lent_kept.LentRest.TheVariants as lent

-- a part whose number lies in 8 bytes
abbrev pub small_value : SmallPart → Part
small_value (Negative below) = number (negsuc below)
small_value (Natural value) = number (pos value)
small_value (Bytes text) = bytes text.now

-- the lead of a lent key as it is kept
abbrev pub lent_lead : LentRest → ℕ
lent_lead (lent.Bare lead) = lead
lent_lead (lent.Negative lead) = lead
lent_lead (lent.Natural lead) = lead
lent_lead (lent.Text lead text) = lead
lent_lead (lent.Several lead parts) = lead

-- the parts of a lent key with this head
abbrev pub lent_parts : ℕ → LentRest → List Part
lent_parts head (lent.Bare lead) = []
lent_parts head (lent.Negative lead) = number (negsuc (2 ^ 64 - 1 - head)) ∷ []
lent_parts head (lent.Natural lead) = number (pos head) ∷ []
lent_parts head (lent.Text lead text) = bytes text.now ∷ []
lent_parts head (lent.Several lead parts) = map small_value parts.items

-- a lent key as it is kept
abbrev pub lent_key : LentKept → KeyValue
lent_key kept = record { table = lent_lead kept.rest / 4; parts = lent_parts kept.head kept.rest }

-- its parts are a key's, and it has its front
pub record IsLent (kept : LentKept) : Type 0 where
  pub are_parts : AreParts (lent_parts kept.head kept.rest)
  pub within : lent_lead kept.rest < 1024
  pub front : IsFrontOf (lent_lead kept.rest) kept.head (lent_key kept)
