-- How the command ends behind a feed that it has compacted.
use Rattle.std.proofs.Common.{◌≡◌, ℕ, List, refl, sym, subst, inl, inr}
use Rattle.printing.specs.Printing.{Written}
use Rattle.vrepl_main.proofs.CommandLaws.{ends_printed, ends_refused}
use Rattle.vrepl_main.specs.Printing.{PrintsOrBreaks}
use Rattle.vrepl_compact.specs.Asked.{compact_asked}
use Rattle.vrepl_compact.specs.Compacted.{IsCompacted, RefusesCompact, IsPrinted, PrintsCompacted, PrintsUncompacted, CompactEnds}
use Rattle.vrepl_compact.specs.Refusals.{uncompacted_line}
use Rattle.vrepl_compact.specs.declared.inputs.CompactInputs.{CompactInputs}
use Rattle.vrepl_compact.specs.declared.refusal.Uncompacted.{Uncompacted}

pub printed_ends : (inputs : CompactInputs) (groups rows : ℕ) (bytes : List ℕ) (status : ℕ) (old new err_old err_new : Written) → IsCompacted inputs (compact_asked inputs) groups rows bytes
    → IsPrinted bytes status old new err_old err_new → CompactEnds inputs status old new err_old err_new
printed_ends inputs groups rows bytes status old new err_old err_new is (inl printed) =
    subst (λ (s : ℕ). CompactEnds inputs s old new err_old err_new) (sym printed.0)
    (ends_printed (PrintsCompacted inputs old new) ⊥ (PrintsUncompacted inputs old new err_old err_new) (groups, rows, bytes, is, printed.1))
printed_ends inputs groups rows bytes status old new err_old err_new is (inr broken) =
    ends_refused (PrintsCompacted inputs old new) ⊥ (PrintsUncompacted inputs old new err_old err_new) status broken.0 (inr ((groups, rows, bytes, is, broken.1), broken.2))

pub refused_ends : (inputs : CompactInputs) (uncompacted : Uncompacted) (status : ℕ) (out err_old err_new : Written) → RefusesCompact inputs uncompacted (compact_asked inputs) → status ≡ 1
    → PrintsOrBreaks err_old err_new (uncompacted_line uncompacted) → CompactEnds inputs status out out err_old err_new
refused_ends inputs uncompacted status out err_old err_new refused one line =
    ends_refused (PrintsCompacted inputs out out) ⊥ (PrintsUncompacted inputs out out err_old err_new) status one (inl (uncompacted, refused, refl, line))
