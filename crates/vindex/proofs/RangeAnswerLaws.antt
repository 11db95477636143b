-- What an answer to a text of a key range says.
use Rattle.std.proofs.Common.{◌≡◌, ◌≢◌, ◌↔◌, ◌⊎◌, inl, inr, ℕ, List, [], Option, None, Some, Result, Ok, Err, refl, ap}
use Rattle.std.specs.Prelude.{IfOk, IfErr, IsErrOf}
use Rattle.vindex.specs.Bounds.{Bounds, whole}
use Rattle.vindex.specs.Private.RangeAnswers.{AnswersRange}
use Rattle.vindex.specs.RangeText.{IsBounded}
use Rattle.vindex.specs.declared.faults.VindexFault.{VindexFault}
use Rattle.vindex.specs.declared.faults.VindexFault.TheVariants.{BadRange, UnknownVindex, NullValue, NotANumber, Memory}

pub range-read : (r : Result Bounds VindexFault) (written : Option Bounds) → AnswersRange r written → IfOk r (λ range. written ≡ Some range)
range-read (Ok range) written h = h
range-read (Err e) written h = tt

pub range-bad : (r : Result Bounds VindexFault) (written : Option Bounds) → AnswersRange r written → IsErrOf r BadRange ↔ (written ≡ None)
range-bad (Ok range) written h = (λ e. cc, λ n. cc)
range-bad (Err BadRange) written h = (λ e. h, λ n. refl)
range-bad (Err UnknownVindex) written h = absurd h
range-bad (Err NullValue) written h = absurd h
range-bad (Err NotANumber) written h = absurd h
range-bad (Err Memory) (Some range) h = (λ e. cc, λ n. cc)
range-bad (Err Memory) None h = absurd h

pub range-refused : (r : Result Bounds VindexFault) (written : Option Bounds) → AnswersRange r written → IfErr r (λ fault. (fault ≡ BadRange) ⊎ (fault ≡ Memory))
range-refused (Ok range) written h = tt
range-refused (Err BadRange) written h = inl refl
range-refused (Err UnknownVindex) written h = absurd h
range-refused (Err NullValue) written h = absurd h
range-refused (Err NotANumber) written h = absurd h
range-refused (Err Memory) written h = inr refl

pub range-memory : (r : Result Bounds VindexFault) (written : Option Bounds) → AnswersRange r written → IsErrOf r Memory → IsBounded written
range-memory (Ok range) written h e = cc
range-memory (Err BadRange) written h e = cc
range-memory (Err UnknownVindex) written h e = absurd h
range-memory (Err NullValue) written h e = absurd h
range-memory (Err NotANumber) written h e = absurd h
range-memory (Err Memory) written h e = h

-- a range that has a start isn't the whole one
pub with_start : (start : List ℕ) (end : Option (List ℕ)) → start ≢ [] → record { start = start; end = end } ≢ whole
with_start start end some e = some (ap (λ (bounds : Bounds). bounds.start) e)
