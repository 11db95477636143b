-- Text that is added piece by piece behind text that waits: what is added and what is left are the whole.
use Rattle.std.proofs.Common.{◌≡◌, ℕ, List, [], ◌++◌, sym, ap, ◌∙◌, subst, refl, append_assoc, append-nil, inl, inr, Result, Ok, Err}
use Rattle.printing.specs.Printing.{Written, Prints}
use Rattle.printing.specs.Printing as library
use Rattle.printing.proofs.PrintLaws.{adds_none, added_more, added_breaks, adding_breaks, adds_then_prints}
use Rattle.vrepl_main.specs.Printing.{PrintsOrBreaks}
use Rattle.vrepl_main.specs.Adding.{WriterPlace, at, IsTextPut, IsBegun, AddsText, IsPutUpTo}

-- what a call of the library adds
pub added : {X E : Type 0} (result : Result X E) (old : Written) (waited : List ℕ) (new : Written) (waits text : List ℕ) → library.Adds result old waited new waits text → AddsText result (at old waited) (at new waits) text
added (Ok x) old waited new waits text is = is
added (Err fault) old waited new waits text is = record { begun = is }

-- what a call tries to print
pub tried : {X E : Type 0} (result : Result X E) (old new : Written) (text : List ℕ) → Prints result old new text → PrintsOrBreaks old new text
tried (Ok x) old new text is = inl is
tried (Err fault) old new text is = inr is

-- ---- two parts one behind the other

pub then_put : (old now new : WriterPlace) (text more : List ℕ) → IsTextPut old now text → IsTextPut now new more → IsTextPut old new (text ++ more)
then_put old now new text more first second = added_more old.written old.waiting now.written now.waiting new.written new.waiting text more first second

pub first_stops : (old new : WriterPlace) (text more : List ℕ) → IsBegun old new text → IsBegun old new (text ++ more)
first_stops old new text more is = record { begun = adding_breaks old.written new.written old.waiting text more is.begun }

pub then_stops : (old now new : WriterPlace) (text more : List ℕ) → IsTextPut old now text → IsBegun now new more → IsBegun old new (text ++ more)
then_stops old now new text more first second = record { begun = added_breaks old.written old.waiting now.written now.waiting new.written text more first second.begun }

pub then_prints : {X E : Type 0} (result : Result X E) (old now new : WriterPlace) (text more : List ℕ) → IsTextPut old now text → AddsText result now new more → AddsText result old new (text ++ more)
then_prints (Ok x) old now new text more first second = then_put old now new text more first second
then_prints (Err fault) old now new text more first second = then_stops old now new text more first second

-- what waited and what was added is written, or a beginning of it
pub then_finishes : {X E : Type 0} (result : Result X E) (old now : WriterPlace) (new : Written) (text : List ℕ) → IsTextPut old now text → Prints result now.written new now.waiting → Prints result old.written new (old.waiting ++ text)
then_finishes result old now new text first second = adds_then_prints result old.written old.waiting now.written now.waiting new text first second

-- ---- a text that is walked from its front

pub starts : (now : WriterPlace) (text : List ℕ) → IsPutUpTo now now text text
starts now text = record { done = []; parts = refl; put = adds_none now.written now.waiting }

pub moves : (old now new : WriterPlace) (text left piece rest : List ℕ) → left ≡ piece ++ rest → IsPutUpTo old now text left → IsTextPut now new piece → IsPutUpTo old new text rest
moves old now new text left piece rest parts before more = record {
  done = before.done ++ piece;
  parts = before.parts ∙ ap (λ l. before.done ++ l) parts ∙ sym (append_assoc before.done piece rest);
  put = then_put old now new before.done piece before.put more;
}

pub stops : (old now new : WriterPlace) (text left piece rest : List ℕ) → left ≡ piece ++ rest → IsPutUpTo old now text left → IsBegun now new piece → IsBegun old new text
stops old now new text left piece rest parts before begun =
    subst (IsBegun old new) (sym (before.parts ∙ ap (λ l. before.done ++ l) parts))
    (then_stops old now new before.done (piece ++ rest) before.put (first_stops now new piece rest begun))

pub ends : (old now : WriterPlace) (text left : List ℕ) → left ≡ [] → IsPutUpTo old now text left → IsTextPut old now text
ends old now text left nothing before = subst (IsTextPut old now) (sym (before.parts ∙ ap (λ l. before.done ++ l) nothing ∙ append-nil before.done)) before.put
