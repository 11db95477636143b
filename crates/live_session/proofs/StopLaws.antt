-- Why a stream stands still.
use Rattle.std.proofs.Common.{◌≡◌, ℕ, List, refl}
use Rattle.filter_rule.specs.PlanTable.{TableValue}
use Rattle.pk_copy.specs.KeyValue.{KeyValue}
use Rattle.board_laws.specs.Refusals.{number_of}
use Rattle.board_laws.specs.declared.refusal.Refusal.{Refusal}
use Rattle.board_laws.specs.declared.refusal.Refusal.TheVariants.{OwnedByOther}
use Rattle.live_session.specs.Stops.{board_refusal, known_refusal}

-- of any other refusal the number is told
pub not-owned : (tables : List TableValue) (refusal : Refusal) → ((key : KeyValue) (owner : ℕ) → refusal ≡ OwnedByOther key owner → ⊥) → board_refusal tables refusal ≡ known_refusal (number_of refusal)
not-owned tables (OwnedByOther key owner) h = absurd (h key owner refl)
not-owned tables refusal h = refl
