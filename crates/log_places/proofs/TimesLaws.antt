-- A step that is made so many times, one on.
use Rattle.std.proofs.Common.{◌≡◌, ℕ, suc, Result, Ok, Err, refl, sym, ◌∙◌}
use Rattle.list_laws.specs.Outcome.{Refuses}
use Rattle.log_places.specs.declared.fault.PlaceFault.{PlaceFault}
use Rattle.log_places.specs.declared.fault.PlaceError.{PlaceError}
use Rattle.log_places.specs.declared.fault.PlaceError.TheVariants.{Memory, Fault}
use Rattle.log_places.specs.Fault.{meant}
use Rattle.log_places.specs.List.{Listed, times}

pub times_same : (step : Listed → Result Listed PlaceFault) (n m : ℕ) (x y : Listed) → n ≡ m → x ≡ y → times step n x ≡ times step m y
times_same step n m x y e is = rw (e, is) refl

pub times_more : (step : Listed → Result Listed PlaceFault) (n k : ℕ) (x y : Listed) (all : Result Listed PlaceFault) → n ≡ suc k → step x ≡ Ok y → times step n x ≡ all → times step k y ≡ all
unfolding times
times_more step n k x y all e made so_far =
    let first : times step n x ≡ times step k y = rw (e, made) refl in
    sym first ∙ so_far

times_fault : (step : Listed → Result Listed PlaceFault) (n k : ℕ) (x : Listed) (fault : PlaceFault) (all : Result Listed PlaceFault) → n ≡ suc k → step x ≡ Err fault → times step n x ≡ all → all ≡ Err fault
unfolding times
times_fault step n k x fault all e made so_far =
    let first : times step n x ≡ Err fault = rw (e, made) refl in
    sym so_far ∙ first

pub times_refused : (step : Listed → Result Listed PlaceFault) (n k : ℕ) (x : Listed) (error : PlaceError) (all : Result Listed PlaceFault) → n ≡ suc k → Refuses meant error (step x) → times step n x ≡ all → Refuses meant error all
times_refused step n k x Memory all e made so_far = tt
times_refused step n k x (Fault fault) all e made so_far = times_fault step n k x fault all e made so_far

pub times_end : (step : Listed → Result Listed PlaceFault) (n : ℕ) (x : Listed) (all : Result Listed PlaceFault) → n ≡ 0 → times step n x ≡ all → all ≡ Ok x
unfolding times
times_end step n x all e so_far =
    let done : times step n x ≡ Ok x = rw e refl in
    sym so_far ∙ done
