-- What was made of the first of a list, and what is made of the others.
use Rattle.std.proofs.Common.{List, ◌++◌, Option, None, Some}

-- what is made of the others, behind what was made of the first
abbrev pub behind : {B : Type 0} → List B → Option (List B) → Option (List B)
behind made None = None
behind made (Some more) = Some (made ++ more)
