-- What a reader of key ranges may answer to a text.
use Rattle.std.specs.Prelude.{◌≡◌, Option, None, Some, Result, Ok, Err}
use Rattle.vindex.specs.Bounds.{Bounds}
use Rattle.vindex.specs.RangeText.{IsBounded}
use Rattle.vindex.specs.declared.faults.VindexFault.{VindexFault}
use Rattle.vindex.specs.declared.faults.VindexFault.TheVariants.{BadRange, UnknownVindex, NullValue, NotANumber, Memory}

-- The range that the text writes; that it writes none; or, where it writes one with a bound, want of memory.
abbrev pub AnswersRange : Result Bounds VindexFault → Option Bounds → Type 0
AnswersRange (Ok range) written = written ≡ Some range
AnswersRange (Err BadRange) written = written ≡ None
AnswersRange (Err UnknownVindex) written = ⊥
AnswersRange (Err NullValue) written = ⊥
AnswersRange (Err NotANumber) written = ⊥
AnswersRange (Err Memory) written = IsBounded written
