-- Text that is told piece by piece: what is told and what is left are the whole.
use Rattle.std.proofs.Common.{◌≡◌, ◌∙◌, ℕ, Bool, true, false, List, [], ◌∷◌, ◌++◌, append_assoc, append-nil, refl, sym, ap, subst, Result, Ok, Err}
use Rattle.std.specs.Prelude.{is_err}
use Rattle.printing.specs.Printing.{Written, IsWritten, BreaksOff, Prints, Adds}
use Rattle.printing.proofs.PrintLaws.{adds_none, added_more, added_breaks, adding_breaks, adds_then_prints}
use Rattle.json_pieces.specs.Telling.{LineValue, fresh, Place, at, TellsBy, Tells, IsToldUpTo}

-- ---- the line

-- what a call of the library adds
pub told : {X E : Type 0} (result : Result X E) (old : Written) (waited : List ℕ) (new : Written) (waits text : List ℕ) → Adds result old waited new waits text
    → Tells (at old (record { waits = waited; failed = false })) (at new (record { waits = waits; failed = is_err result })) text
told (Ok x) old waited new waits text adds = record { is = adds }
told (Err fault) old waited new waits text adds = record { is = adds }

pub silent : (now : Written) (waits text : List ℕ) → Tells (at now (record { waits = waits; failed = true })) (at now (record { waits = waits; failed = true })) text
silent now waits text = record { is = refl }

-- what was told is written, or a beginning of it
pub finished : {X E : Type 0} (result : Result X E) (begun now : Written) (waits : List ℕ) (new : Written) (text : List ℕ) → Tells (at begun fresh) (at now (record { waits = waits; failed = false })) text
    → Prints result now new waits → Prints result begun new text
finished result begun now waits new text tells prints = adds_then_prints result begun [] now waits new text tells.is prints

pub broken : (begun now : Written) (waits text : List ℕ) → Tells (at begun fresh) (at now (record { waits = waits; failed = true })) text → BreaksOff begun now text
broken begun now waits text tells = tells.is

-- ---- two parts one behind the other

then_by : (a b c : Bool) (old now new : Place) (text more : List ℕ) → TellsBy a b old now text → TellsBy b c now new more → TellsBy a c old new (text ++ more)
then_by false false false old now new text more first second = added_more old.written old.line.waits now.written now.line.waits new.written new.line.waits text more first second
then_by false false true old now new text more first second = added_breaks old.written old.line.waits now.written now.line.waits new.written text more first second
then_by false true false old now new text more first second = absurd second
then_by false true true old now new text more first second = subst (λ (w : Written). BreaksOff old.written w (old.line.waits ++ (text ++ more))) (sym second) (adding_breaks old.written now.written old.line.waits text more first)
then_by true false c old now new text more first second = absurd first
then_by true true false old now new text more first second = absurd second
then_by true true true old now new text more first second = second ∙ first

pub then_tells : (old now new : Place) (text more : List ℕ) → Tells old now text → Tells now new more → Tells old new (text ++ more)
then_tells old now new text more first second = record { is = then_by old.line.failed now.line.failed new.line.failed old now new text more first.is second.is }

none_by : (failed : Bool) (now : Place) → TellsBy failed failed now now []
none_by false now = adds_none now.written now.line.waits
none_by true now = refl

pub tells_none : (now : Place) → Tells now now []
tells_none now = record { is = none_by now.line.failed now }

pub same_text : (old new : Place) (text other : List ℕ) → text ≡ other → Tells old new text → Tells old new other
same_text old new text other is tells = subst (Tells old new) is tells

-- ---- a text that is walked from its front

pub starts : (now : Place) (text : List ℕ) → IsToldUpTo now now text text
starts now text = record { done = []; parts = refl; told = tells_none now }

-- behind a first piece
pub begins : (old new : Place) (first rest : List ℕ) → Tells old new first → IsToldUpTo old new (first ++ rest) rest
begins old new first rest tells = record { done = first; parts = refl; told = tells }

pub moves : (old now new : Place) (text left piece rest : List ℕ) → left ≡ piece ++ rest → IsToldUpTo old now text left → Tells now new piece → IsToldUpTo old new text rest
moves old now new text left piece rest parts before more = record {
  done = before.done ++ piece;
  parts = before.parts ∙ ap (λ l. before.done ++ l) parts ∙ sym (append_assoc before.done piece rest);
  told = then_tells old now new before.done piece before.told more;
}

pub ends : (old now : Place) (text left : List ℕ) → left ≡ [] → IsToldUpTo old now text left → Tells old now text
ends old now text left nothing before = subst (Tells old now) (sym (before.parts ∙ ap (λ l. before.done ++ l) nothing ∙ append-nil before.done)) before.told

-- the last piece is what is left
pub ends_by : (old now new : Place) (text left last : List ℕ) → left ≡ last → IsToldUpTo old now text left → Tells now new last → Tells old new text
ends_by old now new text left last is before more = subst (Tells old new) (sym (before.parts ∙ ap (λ l. before.done ++ l) is)) (then_tells old now new before.done last before.told more)
