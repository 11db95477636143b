-- A subcommand, and what was read of its words.
use Rattle.std.specs.Prelude.{◌∷◌, ◌≡◌, [], Err, List, None, Ok, Option, Result, Some, option_map}
use Rattle.clap.specs.Kinds.{Kinds}
use Rattle.clap.specs.Simple.{new_shape}
use Rattle.clap.specs.Words.{HasKind, Row, Rule, Shape, Text}
use Rattle.clap.specs.declared.error.Error.{Error}
use Rattle.clap.specs.declared.error.kind.ErrorKind.TheVariants.{ValueValidation}

-- a subcommand: its name, its arguments in their order, and what it asks for, by what is given to them; nothing
-- where a number that is given is out of its range
pub record Subcommand (V : Type 0) : Type 0 where
  pub name : Text
  pub rules : List Rule
  pub meaning : List Row → Option V

-- the same, where what it asks for is one of several kinds
abbrev pub asking : {V W : Type 0} → (V → W) → Subcommand V → Subcommand W
asking kind sub = record { name = sub.name; rules = sub.rules; meaning = λ given. option_map kind (sub.meaning given) }

-- a subcommand as `clap` sees it
abbrev pub shape_of_subcommand : {V : Type 0} → Subcommand V → Shape
shape_of_subcommand sub = record (new_shape sub.name) { rules = sub.rules }

-- words that `clap` takes and that ask for nothing have a number out of its range
abbrev pub range_fault : {V : Type 0} → Option V → Kinds
range_fault None = ValueValidation ∷ []
range_fault (Some asked) = []

-- what was read is what is asked for; a fault is want of memory, or that of a number out of its range
abbrev pub Reads : {T V : Type 0} → (T → V) → Option V → Result T Error → Type 0
Reads value asked (Ok read) = asked ≡ Some (value read)
Reads value asked (Err fault) = HasKind (range_fault asked) fault
