-- What the command `live` does (this profile).
use Rattle.std.specs.Prelude.{◌≡◌, ◌⊎◌, ℕ, List, [], Option, codes, map, option_map}
use Rattle.printing.specs.Printing.{Written}
use Rattle.vrepl_main.specs.declared.following.Unfollowed.{Unfollowed}
use Rattle.vrepl_main.specs.declared.following.Unfollowed.TheVariants as unfollowed
use Rattle.vrepl_main.specs.declared.refusal.CommandRefusal.TheVariants as command
use Rattle.vrepl_main.specs.Command.{Ends}
use Rattle.vrepl_main.specs.Followed.{follow_refusal_line}
use Rattle.vrepl_main.specs.Printing.{PrintsOrBreaks}
use Rattle.vrepl_main.specs.RefusalLine.{line_of}
use Rattle.live_core.specs.Live.{LiveValue}
use Rattle.live_opening.specs.Opened.{IsOpened, IsUnopened}
use Rattle.live_opening.specs.declared.unopened.Unopened.{Unopened}
use Rattle.live_opening.specs.declared.unopened.Unopened.TheVariants.{Workflow, FeedCount, Feed, Checkpoint, Stream}
use Rattle.live_session.specs.Sessions.{AreFresh, SessionValue, kept_session}
use Rattle.live_session.specs.Turns.{IsBroken, IsServed, Stand, number_of_serve, stand_of}
use Rattle.live_session.specs.declared.serve.ServeFault.{ServeFault}
use Rattle.live_session.specs.declared.serve.ServeFault.TheVariants as serve
use Rattle.vrepl_live.specs.declared.living.LiveInputs.{LiveInputs}

-- ---- the board

-- what has come of the feeds
abbrev pub come_of : LiveInputs → List (List ℕ)
come_of inputs = map (λ bytes. bytes.items) inputs.feeds.now

-- the checkpoint to go on from, where there is one
abbrev pub saved_of : LiveInputs → Option (List ℕ)
saved_of inputs = option_map (λ bytes. bytes.now) inputs.checkpoint

abbrev pub IsOpenedBy : LiveInputs → LiveValue → Type 0
IsOpenedBy inputs live = IsOpened inputs.workflow.now (come_of inputs) (saved_of inputs) live

abbrev pub IsUnopenedBy : LiveInputs → Unopened → Type 0
IsUnopenedBy inputs refusal = IsUnopened inputs.workflow.now (come_of inputs) (saved_of inputs) refusal

-- ---- the lines of refusals

-- why there is no board to start from, as `follow` refuses it
abbrev pub as_unfollowed : Unopened → Unfollowed
as_unfollowed (Workflow fault) = unfollowed.Given (command.Workflow fault)
as_unfollowed FeedCount = unfollowed.Given command.FeedCount
as_unfollowed (Feed fault) = unfollowed.Given (command.Feed fault)
as_unfollowed (Checkpoint plan fault) = unfollowed.Checkpoint plan fault
as_unfollowed (Stream plan refusal) = unfollowed.Stream plan refusal

abbrev pub unopened_line : Unopened → List ℕ
unopened_line refusal = follow_refusal_line (as_unfollowed refusal)

-- what stands behind the number where a session is broken off: the file `-`, whose requests can't be read or which takes no
-- answer
abbrev pub broken_details : ServeFault → List ℕ
broken_details serve.CannotRead = codes " file -"
broken_details serve.CannotWrite = codes " file -"
broken_details serve.Memory = []

abbrev pub broken_line : ServeFault → List ℕ
broken_line fault = line_of (number_of_serve fault) (broken_details fault)

-- ---- the session

-- what is left of the input, and the checkpoints that were kept, the last first, both as far as they are known; and what the
-- writer of the answers has taken
pub record Talk : Type 0 where
  pub input : Option (List ℕ)
  pub saved : Option (List (List ℕ))
  pub answers : Written

abbrev pub talk_of : Option (List ℕ) → Option (List (List ℕ)) → Written → Talk
talk_of input saved answers = record { input = input; saved = saved; answers = answers }

-- the same of a session
abbrev pub stand_in : SessionValue → Talk → Stand
stand_in session talk = stand_of talk.input (kept_session session talk.saved) talk.answers

-- that, and what the writer of a refusal's line has taken
pub record Outside : Type 0 where
  pub talk : Talk
  pub refusals : Written

abbrev pub outside : Talk → Written → Outside
outside talk refusals = record { talk = talk; refusals = refusals }

-- A session over this board begins, and it is known how many bytes of its feeds had come.
pub record IsStart (live : LiveValue) (come : List (List ℕ)) (start : SessionValue) : Type 0 where
  pub of_board : start.live ≡ live
  pub fresh : AreFresh come live start.seats

-- From this board a session was served: its requests were answered in order, until `end` or the input's end.
pub record HasServed (live : LiveValue) (come : List (List ℕ)) (old new : Talk) : Type 0 where
  pub start : SessionValue
  pub begins : IsStart live come start
  pub end : SessionValue
  pub served : IsServed (stand_in start old) (stand_in end new)

-- From this board one was broken off: its requests were answered in order, up to one that couldn't be read, or whose answer
-- couldn't be written.
pub record HasStopped (live : LiveValue) (come : List (List ℕ)) (old new : Talk) (fault : ServeFault) : Type 0 where
  pub start : SessionValue
  pub begins : IsStart live come start
  pub end : SessionValue
  pub broken : IsBroken fault (stand_in start old) (stand_in end new)

-- Or there was no memory for it, and nothing was read, answered or kept.
abbrev pub HasBroken : LiveValue → List (List ℕ) → Talk → Talk → ServeFault → Type 0
HasBroken live come old new serve.Memory = new ≡ old
HasBroken live come old new fault = HasStopped live come old new fault

-- from the board that the inputs make a session was served
pub record HasLived (inputs : LiveInputs) (old new : Outside) : Type 0 where
  pub live : LiveValue
  pub opened : IsOpenedBy inputs live
  pub served : HasServed live (come_of inputs) old.talk new.talk

-- There is no board to start from, and the line says why. Nothing was read, answered or kept.
pub record HasNotBegun (inputs : LiveInputs) (old new : Outside) : Type 0 where
  pub unopened : Unopened
  pub why : IsUnopenedBy inputs unopened
  pub talk : new.talk ≡ old.talk
  pub line : PrintsOrBreaks old.refusals new.refusals (unopened_line unopened)

-- From the board that the inputs make a session was served, and broken off: the line says why.
pub record HasBrokenOff (inputs : LiveInputs) (old new : Outside) : Type 0 where
  pub live : LiveValue
  pub opened : IsOpenedBy inputs live
  pub fault : ServeFault
  pub broken : HasBroken live (come_of inputs) old.talk new.talk fault
  pub line : PrintsOrBreaks old.refusals new.refusals (broken_line fault)

abbrev pub HasRefused : LiveInputs → Outside → Outside → Type 0
HasRefused inputs old new = HasNotBegun inputs old new ⊎ HasBrokenOff inputs old new

-- how `live` ends
abbrev pub LiveEnds : LiveInputs → ℕ → Outside → Outside → Type 0
LiveEnds inputs status old new = Ends status (HasLived inputs old new) ⊥ (HasRefused inputs old new)
