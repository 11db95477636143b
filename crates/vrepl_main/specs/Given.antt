-- The bytes of a feed as they are given.
use Rattle.std.specs.Prelude.{ℕ, List, Option, None, Some}
use Rattle.vrepl_main.specs.declared.given.GivenFeed.{GivenFeed}
use Rattle.vrepl_main.specs.declared.given.GivenFeed.TheVariants.{Bytes, Decoded, BadHex}

-- nothing where it should have been hexadecimal text
abbrev pub given_value : GivenFeed → Option (List ℕ)
given_value (Bytes bytes) = Some bytes.now
given_value (Decoded bytes) = Some bytes.items
given_value BadHex = None
