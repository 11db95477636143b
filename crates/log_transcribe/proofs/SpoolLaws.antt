-- What was written to a writer that keeps it, of logs that are in memory.
use Rattle.std.proofs.Common.{◌≡◌, ℕ, suc, ◌+◌, List, [], ◌∷◌, ◌++◌, length, Option, Some, Result, Ok, Err, refl, sym, ap, subst, ◌∙◌, arith, append-nil, slice_get}
use Rattle.std.proofs.lemmas.List.{length-append}
use Rattle.std.specs.Io.KnownBytes.{Appends}
use Rattle.list_laws.specs.Outcome.{Refuses}
use Rattle.log_laws.specs.Source.{SourceTables}
use Rattle.printing.specs.Printing.{Written, IsWritten}
use Rattle.log_transcribe.specs.declared.fault.LogsFault.{LogsFault}
use Rattle.log_transcribe.specs.declared.fault.BehindFault.{BehindFault}
use Rattle.log_transcribe.specs.declared.fault.BehindFault.TheVariants as behind_fault
use Rattle.log_transcribe.specs.declared.fault.StreamError.{StreamError}
use Rattle.log_transcribe.specs.declared.fault.StreamError.TheVariants as stop
use Rattle.log_transcribe.specs.Fault.{meant, behind_meant, of_logs}
use Rattle.log_transcribe.specs.Files.{GaveFrom}
use Rattle.log_transcribe.specs.Streamed.{EndsSo, IsTold, IsRefused}
use Rattle.log_transcribe.specs.Transcript.{feed_of_logs}
use Rattle.log_transcribe.specs.Private.Sends.{Places, behind_error_of, logs_error_of}

-- the feed that was written is what is kept
pub spooled : (old new : Written) (feed bytes : List ℕ) → old ≡ record { bytes = Some []; failures = 0 } → new.bytes ≡ Some bytes → IsWritten old new feed → feed ≡ bytes
spooled old new feed bytes fresh kept w = sym (subst (λ (b : Option (List ℕ)). Appends (Some []) b feed) kept (subst (λ (o : Written). Appends o.bytes new.bytes feed) fresh w.appended))

-- ---- logs that are in memory

abbrev pub ItemsOf : List (List ℕ) → ℕ → List ℕ → Type 0
ItemsOf all file bytes = slice_get all file ≡ Some bytes

shift : (x : List ℕ) (all : List (List ℕ)) (from : ℕ) (logs : List (List ℕ)) → GaveFrom (ItemsOf (x ∷ all)) (from + 1) logs → GaveFrom (ItemsOf all) from logs
shift x all from [] g = tt
shift x all from (b ∷ logs) g = let next : from + 1 ≡ suc from = omega arith in (subst (λ (n : ℕ). slice_get (x ∷ all) n ≡ Some b) next g.0, shift x all (from + 1) logs g.1)

same_some : (x y : List ℕ) → ◌≡◌ {A = Option (List ℕ)} (Some x) (Some y) → x ≡ y
same_some x y e = cc

prefix : (all logs : List (List ℕ)) → GaveFrom (ItemsOf all) 0 logs → (others : List (List ℕ)) × (all ≡ logs ++ others)
prefix all [] g = (all, refl)
prefix [] (b ∷ logs) g = cc
prefix (x ∷ all) (b ∷ logs) g =
    let rest = prefix all logs (shift x all 0 logs g.1) in
    (rest.0, ap (λ (y : List ℕ). y ∷ all) (same_some x b g.0) ∙ ap (λ ls. b ∷ ls) rest.1)

none_behind : (all logs others : List (List ℕ)) → all ≡ logs ++ others → length logs ≡ length all → others ≡ []
none_behind all logs [] is same = refl
none_behind all logs (o ∷ others) is same = absurd (omega (arith, same, ap length is, length-append logs (o ∷ others)))

module _ (define : List (List ℕ) → Result (List ℕ) BehindFault) (IsRight : List (List ℕ) → List ℕ → Type 0) (all : List (List ℕ)) (many : ℕ) where
  told_all : (old new : Written) (w : IsTold define IsRight (ItemsOf all) many old new) → many ≡ length all → w.logs ≡ all
  told_all old new w count =
      let p = prefix all w.logs w.gave in
      sym (p.1 ∙ ap (λ (o : List (List ℕ)). w.logs ++ o) (none_behind all w.logs p.0 p.1 (w.all ∙ count)) ∙ append-nil w.logs)

  pub feed_is_kept : (old new : Written) (bytes : List ℕ) → many ≡ length all → old ≡ record { bytes = Some []; failures = 0 } → new.bytes ≡ Some bytes → IsTold define IsRight (ItemsOf all) many old new → (define all ≡ Ok bytes) × IsRight all bytes
  feed_is_kept old new bytes count fresh kept w =
      let same : w.logs ≡ all = told_all old new w count in
      let is : w.feed ≡ bytes = spooled old new w.feed bytes fresh kept w.written in (
        ap define (sym same) ∙ w.is ∙ ap (λ (b : List ℕ). Ok b) is,
        subst (IsRight all) is (subst (λ (ls : List (List ℕ)). IsRight ls w.feed) same w.right),
      )

  pub all_refused : (fault : BehindFault) → many ≡ length all → IsRefused define (ItemsOf all) many fault → define all ≡ Err fault
  all_refused fault count r =
      let p = prefix all r.logs r.gave in
      ap define p.1 ∙ r.is p.0 (omega (arith, count, ap length p.1, length-append r.logs p.0))

-- what is wrong with logs alone
pub logs_given : (r : Result (List ℕ) LogsFault) (feed : List ℕ) → of_logs r ≡ Ok feed → r ≡ Ok feed
logs_given (Ok x) feed e = cc
logs_given (Err fault) feed e = cc

pub logs_refused : (r : Result (List ℕ) LogsFault) (fault : LogsFault) → of_logs r ≡ Err (behind_fault.Logs fault) → r ≡ Err fault
logs_refused (Ok x) fault e = cc
logs_refused (Err other) fault e = cc

-- why there is no feed of logs that are in memory
pub logs_ended : (s : SourceTables) (IsByte : Places) (IsRight : List (List ℕ) → List ℕ → Type 0) (all : List (List ℕ)) (many : ℕ) (error : StreamError) (old new : Written) → many ≡ length all
    → EndsSo (λ logs. of_logs (feed_of_logs s logs)) IsByte IsRight (ItemsOf all) many (Err error) old new → Refuses meant (logs_error_of error) (feed_of_logs s all)
logs_ended s IsByte IsRight all many stop.Memory old new count e = tt
logs_ended s IsByte IsRight all many stop.Unwritten old new count e = tt
logs_ended s IsByte IsRight all many (stop.Unread at) old new count e = tt
logs_ended s IsByte IsRight all many (stop.Feed fault) old new count e = tt
logs_ended s IsByte IsRight all many (stop.Fault fault byte) old new count e =
    logs_refused (feed_of_logs s all) fault (all_refused (λ logs. of_logs (feed_of_logs s logs)) IsRight all many (behind_fault.Logs fault) count e.refused)

pub behind_ended : (define : List (List ℕ) → Result (List ℕ) BehindFault) (IsByte : Places) (IsRight : List (List ℕ) → List ℕ → Type 0) (all : List (List ℕ)) (many : ℕ) (error : StreamError) (old new : Written) → many ≡ length all
    → EndsSo define IsByte IsRight (ItemsOf all) many (Err error) old new → Refuses behind_meant (behind_error_of error) (define all)
behind_ended define IsByte IsRight all many stop.Memory old new count e = tt
behind_ended define IsByte IsRight all many stop.Unwritten old new count e = tt
behind_ended define IsByte IsRight all many (stop.Unread at) old new count e = tt
behind_ended define IsByte IsRight all many (stop.Feed fault) old new count e = all_refused define IsRight all many (behind_fault.Feed fault) count e
behind_ended define IsByte IsRight all many (stop.Fault fault byte) old new count e = all_refused define IsRight all many (behind_fault.Logs fault) count e.refused
