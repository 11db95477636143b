-- What was made of the first of a list, and what is made of the others.
use Rattle.std.proofs.Common.{List, ◌++◌, Result, Ok, Err}

-- what is made of the others, behind what was made of the first
abbrev pub behind : {B E : Type 0} → List B → Result (List B) E → Result (List B) E
behind made (Ok more) = Ok (made ++ more)
behind made (Err fault) = Err fault
