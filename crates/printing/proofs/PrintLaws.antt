-- Text that is written piece by piece: what is written and what is left are the whole.
use Rattle.std.proofs.Common.{◌≡◌, ℕ, ◌-◌, ◌/◌, ◌%◌, List, [], ◌∷◌, ◌++◌, length, take, drop, take-append-drop, sym, ap, ◌∙◌, subst, refl, append_assoc, append-nil, Result, Ok, Err}
use Rattle.std.proofs.KnownBytes.{Appends-nil, Appends-trans}
use Rattle.std.proofs.lemmas.List.{take_rest}
use Rattle.printing.specs.Printing.{Written, IsWritten, BreaksOff, Prints, IsAdded, Adds, one_more}
use Rattle.std.specs.Prelude.{slice_index}
use Rattle.hex.specs.Hex.{encode_lower, encode_with, lower_digits}
use Rattle.printing.specs.Private.Progress.{IsWrittenTo, IsAddedTo}

-- ---- written

pub written_nothing : (now : Written) → IsWritten now now []
written_nothing now = record { appended = Appends-nil now.bytes; sound = refl }

pub written_more : (old now new : Written) (text more : List ℕ) → IsWritten old now text → IsWritten now new more → IsWritten old new (text ++ more)
written_more old now new text more first second = record {
  appended = Appends-trans old.bytes now.bytes new.bytes text more first.appended second.appended;
  sound = second.sound ∙ first.sound;
}

-- the first part is written, and then a write of the second one failed
pub then_breaks : (old now new : Written) (text more : List ℕ) → IsWritten old now text → BreaksOff now new more → BreaksOff old new (text ++ more)
then_breaks old now new text more first (rest, second) = (
  rest,
  record {
    printed = text ++ second.printed;
    parts = ap (λ l. text ++ l) second.parts ∙ sym (append_assoc text second.printed rest);
    appended = Appends-trans old.bytes now.bytes new.bytes text second.printed first.appended second.appended;
    failed = second.failed ∙ ap one_more first.sound;
  },
)

-- a write of the first part failed
pub first_breaks : (old new : Written) (text more : List ℕ) → BreaksOff old new text → BreaksOff old new (text ++ more)
first_breaks old new text more (rest, first) = (
  rest ++ more,
  record { printed = first.printed; parts = ap (λ l. l ++ more) first.parts ∙ append_assoc first.printed rest more; appended = first.appended; failed = first.failed },
)

-- ---- a text that is walked from its front

pub starts : (now : Written) (text : List ℕ) → IsWrittenTo now now text text
starts now text = record { printed = []; parts = refl; written = written_nothing now }

pub moves : (old now new : Written) (text left piece rest : List ℕ) → left ≡ piece ++ rest → IsWrittenTo old now text left → IsWritten now new piece → IsWrittenTo old new text rest
moves old now new text left piece rest parts before more = record {
  printed = before.printed ++ piece;
  parts = before.parts ∙ ap (λ l. before.printed ++ l) parts ∙ sym (append_assoc before.printed piece rest);
  written = written_more old now new before.printed piece before.written more;
}

pub ends : (old now : Written) (text left : List ℕ) → left ≡ [] → IsWrittenTo old now text left → IsWritten old now text
ends old now text left nothing before = subst (IsWritten old now) (sym (before.parts ∙ ap (λ l. before.printed ++ l) nothing ∙ append-nil before.printed)) before.written

-- what a write takes off the front
pub taken : (rest : List ℕ) (n : ℕ) → rest ≡ take n rest ++ take (length rest - n) (drop n rest)
taken rest n = sym (take-append-drop n rest) ∙ ap (λ l. take n rest ++ l) (sym (take_rest rest n))

-- ---- behind text that waits

-- nothing more was added, and what waited was written or still waits
pub adds_none : (now : Written) (waits : List ℕ) → IsAdded now waits now waits []
adds_none now waits = record { gone = []; parts = append-nil waits; written = written_nothing now }

pub adds_none_written : (old new : Written) (waited : List ℕ) → IsWritten old new waited → IsAdded old waited new [] []
adds_none_written old new waited written = record { gone = waited; parts = refl; written = written }

-- a piece put behind what waits
pub adds_piece : (old : Written) (waited : List ℕ) (new : Written) (waits piece : List ℕ) → IsAdded old waited new waits [] → IsAdded old waited new (waits ++ piece) piece
adds_piece old waited new waits piece added = record {
  gone = added.gone;
  parts = ap (λ l. l ++ piece) (sym (append-nil waited) ∙ added.parts) ∙ append_assoc added.gone waits piece;
  written = added.written;
}

pub added_more : (old : Written) (waited : List ℕ) (now : Written) (waiting : List ℕ) (new : Written) (waits text more : List ℕ) → IsAdded old waited now waiting text → IsAdded now waiting new waits more → IsAdded old waited new waits (text ++ more)
added_more old waited now waiting new waits text more first second = record {
  gone = first.gone ++ second.gone;
  parts = sym (append_assoc waited text more) ∙ ap (λ l. l ++ more) first.parts ∙ append_assoc first.gone waiting more ∙ ap (λ l. first.gone ++ l) second.parts ∙ sym (append_assoc first.gone second.gone waits);
  written = written_more old now new first.gone second.gone first.written second.written;
}

-- the first text was added, and a write failed in the second one
pub added_breaks : (old : Written) (waited : List ℕ) (now : Written) (waiting : List ℕ) (new : Written) (text more : List ℕ) → IsAdded old waited now waiting text → BreaksOff now new (waiting ++ more) → BreaksOff old new (waited ++ (text ++ more))
added_breaks old waited now waiting new text more first broken =
    subst (BreaksOff old new)
    (sym (append_assoc first.gone waiting more) ∙ ap (λ l. l ++ more) (sym first.parts) ∙ append_assoc waited text more)
    (then_breaks old now new first.gone (waiting ++ more) first.written broken)

-- a write failed in the first text
pub adding_breaks : (old new : Written) (waited text more : List ℕ) → BreaksOff old new (waited ++ text) → BreaksOff old new (waited ++ (text ++ more))
adding_breaks old new waited text more broken = subst (BreaksOff old new) (append_assoc waited text more) (first_breaks old new (waited ++ text) more broken)

-- what waited and what was added is all written
pub adds_all : (old : Written) (waited : List ℕ) (now : Written) (waiting : List ℕ) (new : Written) (text : List ℕ) → IsAdded old waited now waiting text → IsWritten now new waiting → IsWritten old new (waited ++ text)
adds_all old waited now waiting new text added written = subst (IsWritten old new) (sym added.parts) (written_more old now new added.gone waiting added.written written)

-- what waited and what was added is written, or a beginning of it
pub adds_then_prints : {X E : Type 0} (result : Result X E) (old : Written) (waited : List ℕ) (now : Written) (waiting : List ℕ) (new : Written) (text : List ℕ) → IsAdded old waited now waiting text → Prints result now new waiting → Prints result old new (waited ++ text)
adds_then_prints (Ok x) old waited now waiting new text added printed = adds_all old waited now waiting new text added printed
adds_then_prints (Err fault) old waited now waiting new text added broken = subst (BreaksOff old new) (sym added.parts) (then_breaks old now new added.gone waiting added.written broken)

-- ---- a text that is walked from its front, behind text that waits

pub adding_starts : (now : Written) (waits text : List ℕ) → IsAddedTo now waits now waits text text
adding_starts now waits text = record { done = []; parts = refl; added = adds_none now waits }

pub adding_moves : (old : Written) (waited : List ℕ) (now : Written) (waiting : List ℕ) (new : Written) (waits text left piece rest : List ℕ) → left ≡ piece ++ rest
    → IsAddedTo old waited now waiting text left → IsAdded now waiting new waits piece → IsAddedTo old waited new waits text rest
adding_moves old waited now waiting new waits text left piece rest parts before more = record {
  done = before.done ++ piece;
  parts = before.parts ∙ ap (λ l. before.done ++ l) parts ∙ sym (append_assoc before.done piece rest);
  added = added_more old waited now waiting new waits before.done piece before.added more;
}

pub adding_stops : (old : Written) (waited : List ℕ) (now : Written) (waiting : List ℕ) (new : Written) (text left piece rest : List ℕ) → left ≡ piece ++ rest
    → IsAddedTo old waited now waiting text left → BreaksOff now new (waiting ++ piece) → BreaksOff old new (waited ++ text)
adding_stops old waited now waiting new text left piece rest parts before broken =
    subst (λ l. BreaksOff old new (waited ++ l)) (sym (before.parts ∙ ap (λ l. before.done ++ l) parts))
    (added_breaks old waited now waiting new before.done (piece ++ rest) before.added (adding_breaks now new waiting piece rest broken))

pub adding_ends : (old : Written) (waited : List ℕ) (now : Written) (waits text left : List ℕ) → left ≡ [] → IsAddedTo old waited now waits text left → IsAdded old waited now waits text
adding_ends old waited now waits text left nothing before =
    subst (IsAdded old waited now waits) (sym (before.parts ∙ ap (λ l. before.done ++ l) nothing ∙ append-nil before.done)) before.added

-- ---- two parts one behind the other

pub then_adds : {X E : Type 0} (result : Result X E) (old : Written) (waited : List ℕ) (now : Written) (waiting : List ℕ) (new : Written) (waits text more : List ℕ)
    → IsAdded old waited now waiting text → Adds result now waiting new waits more → Adds result old waited new waits (text ++ more)
then_adds (Ok x) old waited now waiting new waits text more first second = added_more old waited now waiting new waits text more first second
then_adds (Err fault) old waited now waiting new waits text more first second = added_breaks old waited now waiting new text more first second

-- the last part of what is left is added
pub adding_last : {X E : Type 0} (result : Result X E) (old : Written) (waited : List ℕ) (now : Written) (waiting : List ℕ) (new : Written) (waits text left last : List ℕ) → left ≡ last
    → IsAddedTo old waited now waiting text left → Adds result now waiting new waits last → Adds result old waited new waits text
adding_last result old waited now waiting new waits text left last is before second =
    subst (Adds result old waited new waits) (sym (before.parts ∙ ap (λ l. before.done ++ l) is)) (then_adds result old waited now waiting new waits before.done last before.added second)

-- what is printed where nothing waits is added there
pub prints_adds : {X E : Type 0} (result : Result X E) (old new : Written) (text : List ℕ) → Prints result old new text → Adds result old [] new [] text
prints_adds (Ok x) old new text printed = record { gone = text; parts = sym (append-nil text); written = printed }
prints_adds (Err fault) old new text broken = broken

-- ---- hexadecimal digits

-- bytes one behind the other are spelled one behind the other
pub hex-append : (xs ys : List ℕ) → encode_lower (xs ++ ys) ≡ encode_lower xs ++ encode_lower ys
unfolding encode_with
hex-append [] ys = refl
hex-append (x ∷ xs) ys = ap (λ (t : List ℕ). slice_index lower_digits (x / 16) ∷ slice_index lower_digits (x % 16) ∷ t) (hex-append xs ys)
