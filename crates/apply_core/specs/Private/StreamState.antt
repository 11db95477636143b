-- What every stream of a board keeps beside what it means: where it stands, and its image.
use Rattle.std.specs.Prelude.{◌≡◌, ℕ, ◌≤◌, length, IfSome}
use Rattle.stream_core.specs.Standing.{Standing}
use Rattle.source_feed.specs.History.{IsPassed}
use Rattle.source_feed.specs.Image.{ImageRows}
use Rattle.board_laws.specs.Meaning.{State}
use Rattle.board_laws.specs.Lawful.{standing_of, IsSoundState}

-- a sound state; the image is that of one of the groups that are read, or of none, and where a snapshot is
-- open it is the snapshot's
pub record IsStream (state : State) (imaged : ℕ) (image : ImageRows) : Type 0 where
  pub sound : IsSoundState state
  pub kept : IsPassed state.list imaged image
  pub within : imaged ≤ length state.list
  pub opened : IfSome state.snapshot (λ m. m ≡ imaged)

-- the stream stands where its state says
pub record IsStreamAt (state : State) (cursor : Standing) (imaged : ℕ) (image : ImageRows) : Type 0 where
  pub stands : cursor ≡ standing_of state
  pub stream : IsStream state imaged image
