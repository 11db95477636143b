-- Why a file isn't kept (this profile).
use Rattle.std.specs.Prelude.{◌≡◌, ℕ, List}
use Rattle.vrepl_main.specs.declared.refusal.CommandRefusal.{CommandRefusal}
use Rattle.vrepl_main.specs.declared.refusal.CommandRefusal.TheVariants.{Memory, Changed, CannotWrite}

-- nobody can say what stands under this name, or memory ran out
abbrev pub IsUnplaced : List ℕ → CommandRefusal → Type 0
IsUnplaced name Memory = Unit {0}
IsUnplaced name (CannotWrite file) = file.now ≡ name
IsUnplaced name refusal = ⊥

-- this file changed meanwhile, it can't be written, or memory ran out
abbrev pub IsUnkept : List ℕ → CommandRefusal → Type 0
IsUnkept name Memory = Unit {0}
IsUnkept name (Changed file) = file.now ≡ name
IsUnkept name (CannotWrite file) = file.now ≡ name
IsUnkept name refusal = ⊥
