-- Numbers of a binary log: least byte first (MySQL internals manual, "Protocol::FixedLengthInteger").
use Rattle.std.specs.Prelude.{ℕ, ◌+◌, ◌*◌, List, [], ◌∷◌, take, drop}
use Rattle.log_events.specs.declared.number.Size.{Size}
use Rattle.log_events.specs.declared.number.Size.TheVariants.{One, Two, Three, Four, Six, Eight}

-- the number that these bytes spell, the least first
unfoldable pub little : List ℕ → ℕ
little [] = 0
little (b ∷ bytes) = b + 256 * little bytes

-- the number of so many bytes at a place
abbrev pub number : ℕ → ℕ → List ℕ → ℕ
number place size bytes = little (take size (drop place bytes))

-- how many bytes a number has
abbrev pub size_of : Size → ℕ
size_of One = 1
size_of Two = 2
size_of Three = 3
size_of Four = 4
size_of Six = 6
size_of Eight = 8
