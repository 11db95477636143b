-- How the command ends behind a feed that it has made.
use Rattle.std.proofs.Common.{ℕ, List, sym, subst, inl, inr}
use Rattle.printing.specs.Printing.{Written}
use Rattle.vrepl_main.proofs.CommandLaws.{ends_printed, ends_refused}
use Rattle.vrepl_feed.specs.Fed.{IsFed, IsPrinted, PrintsFed, PrintsUnfed, FeedEnds}
use Rattle.vrepl_feed.specs.declared.inputs.FeedInputs.{FeedInputs}

pub printed_ends : (inputs : FeedInputs) (bytes : List ℕ) (status : ℕ) (old new err_old err_new : Written) → IsFed inputs bytes → IsPrinted bytes status old new err_old err_new
    → FeedEnds inputs status old new err_old err_new
printed_ends inputs bytes status old new err_old err_new is (inl printed) =
    subst (λ (s : ℕ). FeedEnds inputs s old new err_old err_new) (sym printed.0)
    (ends_printed (PrintsFed inputs old new) ⊥ (PrintsUnfed inputs old new err_old err_new) (bytes, is, printed.1))
printed_ends inputs bytes status old new err_old err_new is (inr broken) =
    ends_refused (PrintsFed inputs old new) ⊥ (PrintsUnfed inputs old new err_old err_new) status broken.0 (inr ((bytes, is, broken.1), broken.2))
