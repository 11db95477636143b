-- The position behind a transaction, by what it adds.
use Rattle.std.proofs.Common.{◌≡◌, Bool, false, cond, List, [], ◌∷◌, Ok, Err, refl, sym, ap, ◌∙◌}
use Rattle.gtid_set.specs.declared.interval.Interval.{Interval}
use Rattle.gtid_set.specs.Position.{union_of, within_of}
use Rattle.log_groups.specs.Step.{GtidValue}
use Rattle.log_places.specs.declared.fault.PlaceFault.TheVariants.{GoesBack}
use Rattle.log_places.specs.Added.{added_by}
use Rattle.log_places.specs.Place.{position_behind}

pub behind-added : (old : List Interval) (g : GtidValue) (i : Interval) → added_by g ≡ Ok i → position_behind old g ≡ cond (within_of (i ∷ []) old) (Err GoesBack) (Ok (union_of old (i ∷ [])))
unfolding position_behind
behind-added old g i e = rw e refl

pub goes_further : (old one new : List Interval) (g : GtidValue) (i : Interval) → added_by g ≡ Ok i → one ≡ i ∷ [] → within_of one old ≡ false → new ≡ union_of old one → position_behind old g ≡ Ok new
goes_further old one new g i e is test new_is =
    let apart : within_of (i ∷ []) old ≡ false = ap (λ (s : List Interval). within_of s old) (sym is) ∙ test in
    let there : position_behind old g ≡ Ok (union_of old (i ∷ [])) = behind-added old g i e ∙ ap (λ (b : Bool). cond b (Err GoesBack) (Ok (union_of old (i ∷ [])))) apart in
    there ∙ ap (λ (s : List Interval). Ok s) (ap (union_of old) (sym is) ∙ sym new_is)
