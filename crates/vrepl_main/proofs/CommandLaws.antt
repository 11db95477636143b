-- What a command leaves on its writers, by what there is to print.
use Rattle.std.proofs.Common.{◌≡◌, ℕ, List, refl, sym, ap, subst, Result, Ok, inl, inr, arith, ◌⊎◌, ◌≤◌}
use Rattle.list_laws.specs.Outcome as outcome
use Rattle.source_feed.specs.FaultNumber as feed
use Rattle.source_feed.specs.GroupValue.{GroupValue}
use Rattle.source_feed.specs.declared.fault.FeedFault.{FeedFault}
use Rattle.source_feed.specs.declared.fault.FeedFault.TheVariants as fault
use Rattle.printing.specs.Printing.{Written, IsWritten, BreaksOff}
use Rattle.vrepl_main.specs.Reasons.{Reason, RefusesInputs}
use Rattle.vrepl_main.specs.Command.{BreaksOffIn, PrintsWhole, RefusesCommand, IsUnwritten, Ends}
use Rattle.vrepl_main.specs.RefusalOf.{refusal_of_feed}
use Rattle.vrepl_main.specs.Show.{shown_groups}
use Rattle.vrepl_main.specs.declared.refusal.CommandRefusal.{CommandRefusal}
use Rattle.vrepl_main.specs.declared.refusal.CommandRefusal.TheVariants.{Memory, Workflow, NoStream, FeedCount, NotReached, Feed, BadHex, BadScript, BadDump, Changed, CannotRead, CannotWrite}

-- ---- how a command ends

module _ (Prints Finds Refuses : Type 0) where
  -- behind what it prints
  pub ends_printed : Prints → Ends 0 Prints Finds Refuses
  ends_printed did = record { is_one = inl refl; printed = λ said. did; found = λ said. absurd (omega (arith, said)); refused = λ said. absurd (omega (arith, said)) }

  -- behind what it looks for
  pub ends_found : Finds → Ends 3 Prints Finds Refuses
  ends_found did = record { is_one = inr (inr refl); printed = λ said. absurd (omega (arith, said)); found = λ said. did; refused = λ said. absurd (omega (arith, said)) }

  -- behind a refusal
  pub ends_refused : (status : ℕ) → status ≡ 1 → Refuses → Ends status Prints Finds Refuses
  ends_refused status one did = record {
    is_one = inr (inl one);
    printed = λ said. absurd (omega (arith, one, said));
    found = λ said. absurd (omega (arith, one, said));
    refused = λ said. did;
  }

-- the same with other words for the refusal
pub ends_as : {Prints Finds Refuses Other : Type 0} (status : ℕ) → (Refuses → Other) → Ends status Prints Finds Refuses → Ends status Prints Finds Other
ends_as status says ends = record { is_one = ends.is_one; printed = ends.printed; found = ends.found; refused = λ said. says (ends.refused said) }

within : (status : ℕ) → (status ≡ 0) ⊎ (status ≡ 1) ⊎ (status ≡ 3) → (status ≤ 1) ⊎ (status ≡ 3)
within status (inl one) = inl (omega (arith, one))
within status (inr (inl one)) = inl (omega (arith, one))
within status (inr (inr one)) = inr one

-- its status is small
pub ends_within : {Prints Finds Refuses : Type 0} (status : ℕ) → Ends status Prints Finds Refuses → (status ≤ 1) ⊎ (status ≡ 3)
ends_within status ends = within status ends.is_one

-- ---- a text

pub PrintsWhole-text : (reading : Result (List ℕ) Reason) (old new : Written) (text : List ℕ) → reading ≡ Ok text → IsWritten old new text → PrintsWhole reading old new
PrintsWhole-text reading old new text is printed = subst (λ r. PrintsWhole r old new) (sym is) printed

module _ {X : Type 0} (IsText : X → List ℕ → Type 0) (refusal : CommandRefusal) (reading : Result X Reason) where
  -- a refusal of the inputs leaves nothing
  pub refuses : (now : Written) → RefusesInputs refusal reading → RefusesCommand IsText refusal reading now now
  refuses now is = by refusal is
    where
      by : (r : CommandRefusal) → RefusesInputs r reading → RefusesCommand IsText r reading now now
      by Memory is = (tt, refl)
      by (Workflow fault) is = (is, refl)
      by NoStream is = (is, refl)
      by (Changed file) is = (is, refl)
      by FeedCount is = (is, refl)
      by (NotReached stream) is = (is, refl)
      by (Feed fault) is = (is, refl)
      by BadHex is = (is, refl)
      by (BadScript bad) is = (is, refl)
      by (BadDump bad) is = (is, refl)
      by (CannotRead file) is = (is, refl)
      by (CannotWrite file) is = absurd is

  -- the text can't be written
  pub refuses_unwritten : (given : X) (text : List ℕ) (old new : Written) → reading ≡ Ok given → IsText given text → BreaksOff old new text → IsUnwritten refusal → RefusesCommand IsText refusal reading old new
  refuses_unwritten given text old new is is_text broken unwritten = by refusal unwritten
    where
      by : (r : CommandRefusal) → IsUnwritten r → RefusesCommand IsText r reading old new
      by (CannotWrite file) unwritten = (unwritten, subst (λ (given : Result X Reason). BreaksOffIn IsText given old new) (sym is) (text, is_text, broken))
      by Memory unwritten = absurd unwritten
      by (Workflow fault) unwritten = absurd unwritten
      by NoStream unwritten = absurd unwritten
      by (Changed file) unwritten = absurd unwritten
      by FeedCount unwritten = absurd unwritten
      by (NotReached stream) unwritten = absurd unwritten
      by (Feed fault) unwritten = absurd unwritten
      by BadHex unwritten = absurd unwritten
      by (BadScript bad) unwritten = absurd unwritten
      by (BadDump bad) unwritten = absurd unwritten
      by (CannotRead file) unwritten = absurd unwritten

-- the refusal of a feed
pub RefusesInputs-feed : (given : FeedFault) (reading : Result (List GroupValue) FeedFault) → outcome.Refuses feed.meant_of given reading → RefusesInputs (refusal_of_feed given) (shown_groups reading)
RefusesInputs-feed fault.Memory reading is = tt
RefusesInputs-feed other reading is = ap shown_groups is
