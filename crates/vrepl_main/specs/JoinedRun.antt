-- What the command `join` leaves on its writers (this profile).
use Rattle.std.specs.Prelude.{◌≡◌, ℕ, List, [], ◌∷◌, take, Some, Result, Ok, Err, slice_get}
use Rattle.std.specs.Arc.{arc_value}
use Rattle.filter_rule.specs.PlanValue.{PlanValue}
use Rattle.source_feed.specs.Planned.{FeedValue}
use Rattle.board_laws.specs.FedBoards.{IsFedBoard}
use Rattle.board_laws.specs.Meaning.{Meaning}
use Rattle.board_laws.specs.Sources.{ShowAll}
use Rattle.board_laws.specs.Compatible.{AreCompatible}
use Rattle.board_laws.specs.Joined.{joined}
use Rattle.board_laws.specs.RefusedJoin.{IsRefusedJoin}
use Rattle.board_laws.specs.declared.join_fault.JoinFault.{JoinFault}
use Rattle.checkpoint_laws.specs.Written.{checkpoint_of}
use Rattle.checkpoint_laws.specs.declared.fault.ResumeFault.{ResumeFault}
use Rattle.apply_core.specs.Resuming.{IsResumed}
use Rattle.printing.specs.Printing.{Written, IsWritten}
use Rattle.vrepl_main.specs.declared.joining.Unjoined.{Unjoined}
use Rattle.vrepl_main.specs.declared.joining.Unjoined.TheVariants.{Given, One, Other, Boards}
use Rattle.vrepl_main.specs.Command.{RefusesCommand, Ends}
use Rattle.vrepl_main.specs.JoinedText.{join_line}
use Rattle.vrepl_main.specs.Opening.{OpenedValue, opened}
use Rattle.vrepl_main.specs.Printing.{PrintsOrBreaks}
use Rattle.vrepl_main.specs.Reasons.{Reason, RefusesInputs}
use Rattle.vrepl_main.specs.Refusals.{refusal_line}
use Rattle.vrepl_main.specs.ResumedRun.{IsRefusedOver}
use Rattle.vrepl_main.specs.ResumedText.{resume_line}
use Rattle.vrepl_main.specs.InputList.{bytes_of}
use Rattle.vrepl_main.specs.declared.named_inputs.JoinInputs.{JoinInputs}

-- the workflow with its feeds, or why they are refused
abbrev pub join_asked : JoinInputs → Result OpenedValue Reason
join_asked inputs = opened inputs.feed_form inputs.workflow.items (bytes_of inputs.feeds.items)

-- ---- the checkpoint

-- a board and those that checkpoints make with the feeds, joined one after another
abbrev pub AreJoinedTo : List FeedValue → Meaning → List (List ℕ) → Meaning → Type 0
AreJoinedTo feeds a [] board = board ≡ a
AreJoinedTo feeds a (checkpoint ∷ others) board = (b : Meaning) × IsResumed feeds checkpoint b × AreCompatible a b × AreJoinedTo feeds (joined a b) others board

-- the same of the board that a first checkpoint makes
abbrev pub AreJoined : List FeedValue → List ℕ → List (List ℕ) → Meaning → Type 0
AreJoined feeds one others board = (a : Meaning) × IsResumed feeds one a × AreJoinedTo feeds a others board

-- this is the join of the boards that checkpoints make with the feeds; it reads these and shows all its sources
pub record IsJoinOver (given : OpenedValue) (one : List ℕ) (others : List (List ℕ)) (board : Meaning) : Type 0 where
  pub is_join : AreJoined given.feeds one others board
  pub fed : IsFedBoard given.feeds board
  pub sources : ShowAll given.feeds board

-- the bytes are the checkpoint of the join
abbrev pub IsJoinOf : List ℕ → List (List ℕ) → OpenedValue → List ℕ → Type 0
IsJoinOf one others given bytes = (board : Meaning) × IsJoinOver given one others board × (bytes ≡ checkpoint_of board)

-- there is something to join, and they are
abbrev pub IsSavedJoin : Result OpenedValue Reason → List ℕ → List (List ℕ) → List ℕ → Type 0
IsSavedJoin (Ok given) one others bytes = IsJoinOf one others given bytes
IsSavedJoin (Err reason) one others bytes = ⊥

-- its checkpoint was printed
abbrev pub PrintsJoin : JoinInputs → Written → Written → Type 0
PrintsJoin inputs old new = (bytes : List ℕ) × IsSavedJoin (join_asked inputs) inputs.one.items (bytes_of inputs.others.items) bytes × IsWritten old new bytes

-- ---- refusals

-- the boards of the checkpoints before one of the others are joined to this one
pub record AreJoinedBefore (given : OpenedValue) (one : List ℕ) (others : List (List ℕ)) (checkpoint : List ℕ) (board : Meaning) : Type 0 where
  pub n : ℕ
  pub place : slice_get others n ≡ Some checkpoint
  pub so_far : AreJoined given.feeds one (take n others) board

-- they are, and it isn't resumed
pub record IsOtherRefused (given : OpenedValue) (one : List ℕ) (others : List (List ℕ)) (plan : PlanValue) (fault : ResumeFault) : Type 0 where
  pub checkpoint : List ℕ
  pub a : Meaning
  pub before : AreJoinedBefore given one others checkpoint a
  pub refused : IsRefusedOver given checkpoint plan fault

-- it is resumed as well, and isn't joined to them; the line names the tables of the first plan
pub record AreNotJoined (given : OpenedValue) (one : List ℕ) (others : List (List ℕ)) (plan : PlanValue) (fault : JoinFault) : Type 0 where
  pub first : slice_get given.plans 0 ≡ Some plan
  pub checkpoint : List ℕ
  pub a : Meaning
  pub b : Meaning
  pub before : AreJoinedBefore given one others checkpoint a
  pub resumed : IsResumed given.feeds checkpoint b
  pub refused : IsRefusedJoin a b fault

-- a fact of what is opened, where something is
abbrev pub IsOpenedAnd : Result OpenedValue Reason → (OpenedValue → Type 0) → Type 0
IsOpenedAnd (Ok given) P = P given
IsOpenedAnd (Err reason) P = ⊥

-- it says just why the workflow or the feeds are refused, or else why the first checkpoint is, or else one of the others,
-- or why its board isn't joined to those before it, unless memory ran out
abbrev pub IsUnjoined : Unjoined → Result OpenedValue Reason → List ℕ → List (List ℕ) → Type 0
IsUnjoined (Given refusal) reading one others = RefusesInputs refusal reading
IsUnjoined (One plan fault) reading one others = IsOpenedAnd reading (λ given. IsRefusedOver given one (arc_value plan) fault)
IsUnjoined (Other plan fault) reading one others = IsOpenedAnd reading (λ given. IsOtherRefused given one others (arc_value plan) fault)
IsUnjoined (Boards plan fault) reading one others = IsOpenedAnd reading (λ given. AreNotJoined given one others (arc_value plan) fault)

-- the same over what is opened
abbrev pub IsUnjoinedOver : OpenedValue → List ℕ → List (List ℕ) → Unjoined → Type 0
IsUnjoinedOver given one others unjoined = IsUnjoined unjoined (Ok given) one others

-- the same with what it leaves on standard output: nothing, unless it is that this can't be written
abbrev pub RefusesJoin : Unjoined → JoinInputs → Written → Written → Type 0
RefusesJoin (Given refusal) inputs old new = RefusesCommand (IsJoinOf inputs.one.items (bytes_of inputs.others.items)) refusal (join_asked inputs) old new
RefusesJoin unjoined inputs old new = IsUnjoined unjoined (join_asked inputs) inputs.one.items (bytes_of inputs.others.items) × (new ≡ old)

-- the line of a refusal
abbrev pub join_refusal_line : Unjoined → List ℕ
join_refusal_line (Given refusal) = refusal_line refusal
join_refusal_line (One plan fault) = resume_line (arc_value plan).tables fault
join_refusal_line (Other plan fault) = resume_line (arc_value plan).tables fault
join_refusal_line (Boards plan fault) = join_line (arc_value plan).tables fault

-- such a refusal's line was printed whole on standard error, unless a write of it failed
abbrev pub PrintsJoinRefusal : JoinInputs → Written → Written → Written → Written → Type 0
PrintsJoinRefusal inputs old new err_old err_new = (refusal : Unjoined) × RefusesJoin refusal inputs old new × PrintsOrBreaks err_old err_new (join_refusal_line refusal)

-- how `join` ends
abbrev pub JoinEnds : JoinInputs → ℕ → Written → Written → Written → Written → Type 0
JoinEnds inputs status old new err_old err_new = Ends status (PrintsJoin inputs old new) ⊥ (PrintsJoinRefusal inputs old new err_old err_new)
