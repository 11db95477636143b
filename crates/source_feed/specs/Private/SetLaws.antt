-- What is used of sets of pairs, as gtid_set's public laws say it.
use Rattle.std.specs.Prelude.{◌≡◌, ℕ, List, true, Ok}
use Rattle.gtid_set.specs.Position.{IsCanonical, IsWithin, union_of, within_of}
use Rattle.gtid_set.specs.Text.{position_of_text}
use Rattle.source_feed.specs.GroupValue.{Position}

pub record SetLaws : Type 0 where
  pub subset : (a b : Position) → IsCanonical a → IsCanonical b → within_of a b ≡ true → IsWithin a b
  pub computed : (a b : Position) → IsCanonical a → IsCanonical b → IsWithin a b → within_of a b ≡ true
  pub union_around : (a b : Position) → IsCanonical a → IsCanonical b → within_of a b ≡ true → union_of a b ≡ b
  pub union_within : (a b : Position) → IsCanonical a → IsCanonical b → within_of a b ≡ true → union_of b a ≡ b
  pub canonical : (text : List ℕ) (set : Position) → position_of_text text ≡ Ok set → IsCanonical set
