-- Which of several holders have a keyspace id, each by a key range (the Vitess documents on key ranges); and the ids that
-- no holder has, or several (this profile).
use Rattle.std.specs.Prelude.{◌≡◌, ◌≢◌, ℕ, List, [], ◌∷◌, length, IsTrue, if◌then◌else◌, Bool}
use Rattle.std.specs.List.{AllByRecursion, list_any}
use Rattle.vindex.specs.Bounds.{Bounds, in_range, is_ordered}

-- a key range and who has its ids
pub record ShareValue : Type 0 where
  pub holder : ℕ
  pub range : Bounds

-- those who have an id, in the order of the ranges
abbrev pub holders_of : List ShareValue → List ℕ → List ℕ
holders_of [] id = []
holders_of (share ∷ shares) id = if in_range share.range id then share.holder ∷ holders_of shares id else holders_of shares id

-- a range of ids, and who has them
pub record MisfitValue : Type 0 where
  pub range : Bounds
  pub holders : List ℕ

-- There are such ids, all of them in the whole; just these have each of them, and they aren't one.
pub record IsMisfit (whole : Bounds) (shares : List ShareValue) (misfit : MisfitValue) : Type 0 where
  pub some : IsTrue (is_ordered misfit.range)
  pub within : (id : List ℕ) → IsTrue (in_range misfit.range id) → IsTrue (in_range whole id)
  pub held : (id : List ℕ) → IsTrue (in_range misfit.range id) → holders_of shares id ≡ misfit.holders
  pub wrong : length misfit.holders ≢ 1

-- an id is in one of the ranges
abbrev pub is_told : List MisfitValue → List ℕ → Bool
is_told misfits id = list_any (λ misfit. in_range misfit.range id) misfits

-- each is one, and each id of the whole that isn't had once is in one of them: where there is none, each id is had once
pub record AreMisfits (whole : Bounds) (shares : List ShareValue) (misfits : List MisfitValue) : Type 0 where
  pub each : AllByRecursion (IsMisfit whole shares) misfits
  pub all : (id : List ℕ) → IsTrue (in_range whole id) → length (holders_of shares id) ≢ 1 → IsTrue (is_told misfits id)
