-- What `clap` found of the words in place of their meaning.
use Rattle.std.specs.Prelude.{◌≡◌, ◌⊎◌}
use Rattle.clap.specs.Words.{kind_of}
use Rattle.clap.specs.declared.error.Error.{Error}
use Rattle.clap.specs.declared.error.kind.ErrorKind.TheVariants.{DisplayHelp, DisplayVersion, OutOfMemory}

-- help was asked for, or the version
abbrev pub IsHelp : Error → Type 0
IsHelp fault = (kind_of fault ≡ DisplayHelp) ⊎ (kind_of fault ≡ DisplayVersion)

-- memory ran out
abbrev pub IsOutOfMemory : Error → Type 0
IsOutOfMemory fault = kind_of fault ≡ OutOfMemory
