-- Where a call through C puts a text: at the front of the caller's room, if it fits (this profile).
use Rattle.std.specs.Prelude.{◌≡◌, ℕ, ◌++◌, nat_le, if◌then◌else◌, List, length, drop}

-- the room behind a call that put a text into it
abbrev pub put : List ℕ → List ℕ → List ℕ
put text room = if nat_le (length text) (length room) then text ++ drop (length text) room else room

-- the text stands in the room, or the room is too small and as it was; its length is said in both cases
pub record IsPut (text : List ℕ) (old new : List ℕ) (said : ℕ) : Type 0 where
  pub room : new ≡ put text old
  pub length : said ≡ length text
