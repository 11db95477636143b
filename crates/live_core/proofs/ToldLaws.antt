-- What is told of a board that goes on.
use Rattle.std.proofs.Common.{◌≡◌, ◌↔◌, true, List, Option, Some, sym, subst}
use Rattle.std.specs.Prelude.{IfSome}
use Rattle.std.specs.List.{list_any}
use Rattle.std.specs.List.Sorted.{IsStrictlySortedBy}
use Rattle.std.specs.Ordering.{eq_by_cmp}
use Rattle.pk_copy.specs.KeyOrder.{key_cmp}
use Rattle.pk_copy.specs.KeyValue.{KeyValue}
use Rattle.board_laws.specs.Lawful.{IsLawful}
use Rattle.board_laws.specs.Meaning.{Meaning}
use Rattle.change_laws.specs.Changes.{LeadOn, changes_at}
use Rattle.change_laws.specs.Laws.{ChangesLeadOn}
use Rattle.change_laws.specs.Since.{IsTouchedSince}
use Rattle.live_core.specs.Live.{HasGoneOnFrom, told_rows}

-- the streams have gone on since what was told
pub gone-on : (told : Option Meaning) (was board : Meaning) → told ≡ Some was → IfSome told (HasGoneOnFrom board) → HasGoneOnFrom board was
gone-on told was board is since = subst (λ (o : Option Meaning). IfSome o (HasGoneOnFrom board)) is since

-- the keys that were touched since then
abbrev pub AreTouched : Meaning → Meaning → List KeyValue → Type 0
AreTouched was board keys = (key : KeyValue) → (list_any (eq_by_cmp key_cmp key) keys ≡ true) ↔ IsTouchedSince was board key

-- and what stands at them leads on
pub lead-touched : ChangesLeadOn → (told : Option Meaning) (was board : Meaning) (keys : List KeyValue) → told ≡ Some was → HasGoneOnFrom board was → IsLawful board → IsStrictlySortedBy key_cmp keys → AreTouched was board keys
    → LeadOn (told_rows told) (changes_at board.rows keys) board.rows
lead-touched law told was board keys is since lawful rising touched =
    subst (λ (o : Option Meaning). LeadOn (told_rows o) (changes_at board.rows keys) board.rows) (sym is) (law was board keys since.lawful lawful since.gone rising (λ key since. (touched key).1 since))
