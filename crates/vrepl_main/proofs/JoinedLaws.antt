-- What the command `join` prints, and why it is refused, by what its inputs say.
use Rattle.std.proofs.Common.{◌≡◌, ◌∙◌, refl, sym, ap, subst, ℕ, ◌+◌, ◌<◌, ◌≤◌, List, [], ◌∷◌, ◌++◌, length, take, get_or, Some, Result, Ok, Err}
use Rattle.std.proofs.lemmas.List.{get_or_default, take_all, take_more}
use Rattle.std.proofs.lemmas.Option.{same_Some, slice_get_read, slice_get_within}
use Rattle.filter_rule.specs.PlanValue.{PlanValue}
use Rattle.board_laws.specs.RefusedJoin.{IsRefusedJoin}
use Rattle.board_laws.specs.declared.join_fault.JoinFault.{JoinFault}
use Rattle.checkpoint_laws.specs.declared.fault.ResumeFault.{ResumeFault}
use Rattle.vrepl_main.specs.ResumedRun.{IsRefusedOver}
use Rattle.std.specs.Prelude.{slice_get}
use Rattle.source_feed.specs.Planned.{FeedValue}
use Rattle.board_laws.specs.FedBoards.{IsFedBoard}
use Rattle.board_laws.specs.Meaning.{Meaning}
use Rattle.board_laws.specs.Sources.{ShowAll}
use Rattle.board_laws.specs.Compatible.{AreCompatible}
use Rattle.board_laws.specs.Joined.{joined}
use Rattle.apply_core.specs.Resuming.{IsResumed}
use Rattle.printing.specs.Printing.{Written, BreaksOff}
use Rattle.vrepl_main.specs.declared.joining.Unjoined.{Unjoined}
use Rattle.vrepl_main.specs.declared.joining.Unjoined.TheVariants.{Given, One, Other, Boards}
use Rattle.vrepl_main.specs.Command.{BreaksOffIn}
use Rattle.vrepl_main.specs.JoinedRun.{AreJoined, AreJoinedBefore, AreJoinedTo, AreNotJoined, IsJoinOf, IsJoinOver, IsOtherRefused, IsSavedJoin, IsUnjoined, RefusesJoin, join_asked}
use Rattle.vrepl_main.specs.Opening.{OpenedValue}
use Rattle.vrepl_main.specs.Reasons.{Reason}
use Rattle.vrepl_main.proofs.CommandLaws.{refuses}
use Rattle.vrepl_main.specs.InputList.{bytes_of}
use Rattle.vrepl_main.specs.declared.named_inputs.JoinInputs.{JoinInputs}

-- ---- other words for what is given

module _ (one : List ℕ) (others : List (List ℕ)) (said asked : Result OpenedValue Reason) (is : said ≡ asked) where
  pub saved_as : (bytes : List ℕ) → IsSavedJoin said one others bytes → IsSavedJoin asked one others bytes
  saved_as bytes saved = subst (λ (r : Result OpenedValue Reason). IsSavedJoin r one others bytes) is saved

  pub refused_as : (refusal : Unjoined) → IsUnjoined refusal said one others → IsUnjoined refusal asked one others
  refused_as refusal refused = subst (λ (r : Result OpenedValue Reason). IsUnjoined refusal r one others) is refused

-- what is found before anything is printed leaves nothing
pub refuses_join : (unjoined : Unjoined) (inputs : JoinInputs) (now : Written) → IsUnjoined unjoined (join_asked inputs) inputs.one.items (bytes_of inputs.others.items) → RefusesJoin unjoined inputs now now
refuses_join (Given refusal) inputs now is = refuses (IsJoinOf inputs.one.items (bytes_of inputs.others.items)) refusal (join_asked inputs) now is
refuses_join (One plan fault) inputs now is = (is, refl)
refuses_join (Other plan fault) inputs now is = (is, refl)
refuses_join (Boards plan fault) inputs now is = (is, refl)

-- the checkpoint can't be written
pub breaks_off : (reading : Result OpenedValue Reason) (one : List ℕ) (others : List (List ℕ)) (bytes : List ℕ) (old new : Written) → IsSavedJoin reading one others bytes → BreaksOff old new bytes → BreaksOffIn (IsJoinOf one others) reading old new
breaks_off (Ok given) one others bytes old new saved broken = (bytes, saved, broken)
breaks_off (Err reason) one others bytes old new saved broken = absurd saved

-- ---- the join

-- one more is joined to those before it
joined_to-more : (feeds : List FeedValue) (a board next : Meaning) (others : List (List ℕ)) (checkpoint : List ℕ) → AreJoinedTo feeds a others board → IsResumed feeds checkpoint next → AreCompatible board next
    → AreJoinedTo feeds a (others ++ checkpoint ∷ []) (joined board next)
joined_to-more feeds a board next [] checkpoint is here compatible = (next, here, subst (λ (m : Meaning). AreCompatible m next) is compatible, ap (λ (m : Meaning). joined m next) is)
joined_to-more feeds a board next (first ∷ others) checkpoint (b, there, both, rest) here compatible = (b, there, both, joined_to-more feeds (joined a b) board next others checkpoint rest here compatible)

module _ (given : OpenedValue) (one : List ℕ) (others : List (List ℕ)) (i : ℕ) (checkpoint : List ℕ) (place : slice_get others i ≡ Some checkpoint) (board : Meaning) (so_far : AreJoined given.feeds one (take i others) board) where
  pub before_it : AreJoinedBefore given one others checkpoint board
  before_it = record { n = i; place = place; so_far = so_far }

  module _ (next : Meaning) (here : IsResumed given.feeds checkpoint next) where
    pub joined-more : (after : Meaning) → AreCompatible board next × (after ≡ joined board next) → AreJoined given.feeds one (take (i + 1) others) after
    joined-more after (compatible, is) =
        let within : i < length others = slice_get_within others i checkpoint place in
        let last : get_or others i [] ≡ checkpoint = same_Some (get_or others i []) checkpoint (sym (slice_get_read others (length others) i (get_or others i []) refl within (get_or_default others i [] (get_or others i []) within)) ∙ place) in
        let longer : take (i + 1) others ≡ take i others ++ checkpoint ∷ [] = take_more others i [] within ∙ ap (λ (c : List ℕ). take i others ++ c ∷ []) last in (
          so_far.0,
          so_far.1,
          subst (λ (m : Meaning). AreJoinedTo given.feeds so_far.0 (take (i + 1) others) m) (sym is)
              (subst (λ (list : List (List ℕ)). AreJoinedTo given.feeds so_far.0 list (joined board next)) (sym longer)
              (joined_to-more given.feeds so_far.0 board next (take i others) checkpoint so_far.2 here compatible)),
        )

    pub not_joined : (plan : PlanValue) (fault : JoinFault) → slice_get given.plans 0 ≡ Some plan → IsRefusedJoin board next fault → AreNotJoined given one others plan fault
    not_joined plan fault first refused = record { first = first; checkpoint = checkpoint; a = board; b = next; before = before_it; resumed = here; refused = refused }

  pub other_refused : (plan : PlanValue) (fault : ResumeFault) → IsRefusedOver given checkpoint plan fault → IsOtherRefused given one others plan fault
  other_refused plan fault refused = record { checkpoint = checkpoint; a = board; before = before_it; refused = refused }

-- all are joined
pub all_joined : (given : OpenedValue) (one : List ℕ) (others : List (List ℕ)) (i : ℕ) (board : Meaning) → length others ≤ i → AreJoined given.feeds one (take i others) board → IsFedBoard given.feeds board → ShowAll given.feeds board
    → IsJoinOver given one others board
all_joined given one others i board most so_far fed sources = record {
  is_join = subst (λ (list : List (List ℕ)). AreJoined given.feeds one list board) (take_all i others most) so_far;
  fed = fed;
  sources = sources;
}
