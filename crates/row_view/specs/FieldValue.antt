-- A column as events and workflows describe it (`query.proto`, Field): its name, and the number of its type.
use Rattle.std.specs.Prelude.{ℕ, List}

pub record FieldValue : Type 0 where
  pub name : List ℕ
  pub type_number : ℕ
