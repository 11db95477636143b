use Rattle.std.proofs.Common.{◌≡◌, ◌∙◌, ℕ, List, Bool, true, false, refl}
use Rattle.std.proofs.lemmas.Str.{is_utf8-from_IsUtf8, IsUtf8-from_is_utf8}
use Rattle.std.specs.Str.{IsUtf8, is_utf8}
use Rattle.status_said.proofs.json.name_text.Goals as goal

isnt : (name : List ℕ) → (IsUtf8 name → ⊥) → is_utf8 name ≡ false
isnt name none =
    elim (is_utf8 name) as (λ t. is_utf8 name ≡ t → t ≡ false) [
      | true ↦ λ is. absurd (none (IsUtf8-from_is_utf8 name is))
      | false ↦ λ is. refl
    ] refl

pub returns-in_ok-from_str-in-Ok : goal.returns-in_ok-from_str-in-Ok
returns-in_ok-from_str-in-Ok c = rw (is_utf8-from_IsUtf8 c.args.name.now c.in-Ok.ensures.cases.1) (c.in_ok-from_str-in-Ok.ensures.ok ∙ c.in-Ok.ensures.cases.0)

pub returns-in-Err : goal.returns-in-Err
returns-in-Err c = rw (isnt c.args.name.now c.in-Err.ensures.cases.0) c.printable.ensures
