-- The empty text is no JSON.
use Rattle.std.proofs.Common.{◌≡◌, [], refl}
use Rattle.std.specs.Prelude.{None}
use Rattle.json.specs.Json.{value}
use Rattle.json.specs.Lex.{lex, punctuate}
use Rattle.serde_json.specs.Read.{read}

pub nothing_read : read [] ≡ None
unfolding lex punctuate value
nothing_read = refl
