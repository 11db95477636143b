-- Up to where a feed is read, as a plain value (this profile).
use Rattle.std.specs.Prelude.{ℕ, List, Option}
use Rattle.vrepl_choices.specs.declared.until.Until.{Until}

-- the text of a position, for the feed of one stream, or for that of each
pub record UntilValue : Type 0 where
  pub stream : Option ℕ
  pub position : List ℕ

-- the same without the reference
abbrev pub until_value : Until → UntilValue
until_value until = record { stream = until.stream; position = until.position.now }
