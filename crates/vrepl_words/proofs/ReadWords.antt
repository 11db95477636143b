-- What is known of words that were read, or of their fault.
use Rattle.std.proofs.Common.{◌≡◌, ◌∙◌, ap, ap₂, refl, subst, sym, [], Option, None, Some, Result, Ok, Err, option_map}
use Rattle.std.specs.Prelude.{IfOk}
use Rattle.clap.specs.Kinds.{Kinds, or_else}
use Rattle.clap.specs.Words.{FailsBy, HasKind}
use Rattle.clap.specs.declared.error.Error.{Error}
use Rattle.vrepl_words.specs.Subcommand.{Reads, range_fault}

-- what was read is what all ask for
pub read_is : {T V : Type 0} (value : T → V) (asked all : Option V) (result : Result T Error) → Reads value asked result → asked ≡ all → IfOk result (λ read. all ≡ Some (value read))
read_is value asked all (Ok read) reads same = sym same ∙ reads
read_is value asked all (Err fault) reads same = tt

-- the faults are those of a number, where there are no others
pub fails_by : {T V : Type 0} (value : T → V) (asked all : Option V) (result : Result T Error) (kinds : Kinds) → Reads value asked result → asked ≡ all → kinds ≡ [] → FailsBy (or_else kinds (range_fault all)) result
fails_by value asked all (Ok read) kinds reads same none = ap₂ or_else none (ap range_fault (sym same ∙ reads))
fails_by value asked all (Err fault) kinds reads same none = subst (λ (ks : Kinds). HasKind ks fault) (sym (ap₂ or_else none (ap range_fault (sym same)))) reads

-- it is one fault, whichever of several kinds was asked for
pub same_fault : {V W : Type 0} (kind : V → W) (asked : Option V) → range_fault asked ≡ range_fault (option_map kind asked)
same_fault kind None = refl
same_fault kind (Some value) = refl

-- a fault of the words of one kind is one of the words of all
pub fault_reads : {U V W : Type 0} (value : U → W) (kind : V → W) (asked : Option V) (all : Option W) (result : Result U Error) (made fault : Error)
    → result ≡ Err made → made ≡ fault → all ≡ option_map kind asked → HasKind (range_fault asked) fault → Reads value all result
fault_reads value kind asked all result made fault is same all_is has =
    subst (λ r. Reads value all r) (sym is) (subst (λ (e : Error). HasKind (range_fault all) e) (sym same) (subst (λ (ks : Kinds). HasKind ks fault) (same_fault kind asked ∙ sym (ap range_fault all_is)) has))
