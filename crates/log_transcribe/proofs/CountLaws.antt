-- How many transactions of a file are told, one further.
use Rattle.std.proofs.Common.{◌≡◌, ℕ, ◌+◌, true, List, [], ◌∷◌, ◌++◌, Option, None, Some, Result, Ok, Err, refl, sym, ap, subst, ◌∙◌}
use Rattle.list_laws.specs.Outcome.{◌>>=◌, Refuses, GivesUnless}
use Rattle.gtid_set.specs.declared.interval.Interval.{Interval}
use Rattle.log_groups.specs.Group.{WaitingValue}
use Rattle.log_course.specs.declared.fault.CourseFault.{CourseFault}
use Rattle.log_course.specs.declared.fault.CourseError as course_errors
use Rattle.log_course.specs.declared.fault.CourseError.TheVariants as course_error
use Rattle.log_course.specs.Fault as course_fault
use Rattle.log_course.specs.Course.{PlacedValue, CourseRead, course_at}
use Rattle.log_course.specs.Calls.{CourseValue, NextPlaced}
use Rattle.log_feed.specs.declared.table.Stage.{Stage}
use Rattle.log_laws.specs.declared.fault.TellFault.{TellFault}
use Rattle.log_laws.specs.Source.{SourceTables}
use Rattle.log_laws.specs.Transcript.{Far, Messages, group_told, written}
use Rattle.log_transcribe.specs.declared.fault.LogsFault.{LogsFault}
use Rattle.log_transcribe.specs.declared.fault.LogsError.{LogsError}
use Rattle.log_transcribe.specs.declared.fault.LogsError.TheVariants as logs_error
use Rattle.log_transcribe.specs.declared.fault.StreamError.{StreamError}
use Rattle.log_transcribe.specs.Behind.{Along, group_behind}
use Rattle.log_transcribe.specs.Fault.{meant, of_tell}
use Rattle.log_transcribe.specs.Standing.{Told, many_by, many_told, told_of_course, told_in, told_behind}
use Rattle.log_transcribe.specs.Private.Bytes.{course_error_at, with_messages}
use Rattle.log_transcribe.specs.Private.Sends.{CountsOne, IsOfLogs, StopsAt}
use Rattle.log_transcribe.proofs.WritingLaws.{same_told}

-- ---- one transaction

module _ {A F : Type 0} (tell : PlacedValue → A → Result (Told A) F) where
  many_none : (items : List PlacedValue) (far : A) → items ≡ [] → many_told tell items far ≡ 0
  unfolding many_told
  many_none items far none = rw none refl

  many_on : (items rest : List PlacedValue) (g : PlacedValue) (far mid : A) (x : Told A) → items ≡ g ∷ rest → tell g far ≡ Ok x → x.1 ≡ mid → many_told tell items far ≡ many_told tell rest mid + 1
  unfolding many_told
  many_on items rest g far mid x front is same =
      ap (λ (i : List PlacedValue). many_told tell i far) front ∙ ap (λ (r : Result (Told A) F). many_by r (λ x. many_told tell rest x.1 + 1)) is ∙ ap (λ (a : A). many_told tell rest a + 1) same

  many_not : (items rest : List PlacedValue) (g : PlacedValue) (far : A) (fault : F) → items ≡ g ∷ rest → tell g far ≡ Err fault → many_told tell items far ≡ 0
  unfolding many_told
  many_not items rest g far fault front is = ap (λ (i : List PlacedValue). many_told tell i far) front ∙ ap (λ (r : Result (Told A) F). many_by r (λ x. many_told tell rest x.1 + 1)) is

-- what is told of it, by what is put
put_so : {A F : Type 0} (r : Result (Told A) F) (out next : List ℕ) (mid : A) → with_messages r out ≡ Ok (next, mid) → (x : Told A) × (r ≡ Ok x) × (x.1 ≡ mid)
put_so (Err fault) out next mid e = cc
put_so {A} (Ok x) out next mid e = (x, refl, ap (λ (p : List ℕ × A). p.1) (same_told (out ++ written x.0, x.1) (next, mid) e))

put_not : {A F : Type 0} (r : Result (Told A) F) (out : List ℕ) (fault : F) → with_messages r out ≡ Err fault → (other : F) × (r ≡ Err other)
put_not (Err other) out fault e = (other, refl)
put_not (Ok x) out fault e = cc

tell_so : (file : ℕ) (r : Result Messages TellFault) (x : Messages) → of_tell file r ≡ Ok x → r ≡ Ok x
tell_so file (Err fault) x e = cc
tell_so file (Ok y) x e = ap (λ (m : Messages). Ok m) (same_told y x e)

tell_not : (file : ℕ) (r : Result Messages TellFault) (fault : LogsFault) → of_tell file r ≡ Err fault → (other : TellFault) × (r ≡ Err other)
tell_not file (Err other) fault e = (other, refl)
tell_not file (Ok y) fault e = cc

-- ---- of logs

module _ (file : ℕ) (s : SourceTables) where
  abbrev tells : PlacedValue → Far → Result (Told Far) TellFault
  tells g far = group_told s g far

  pub next_counts : {U : Type 0} (old new : CourseValue) (g : PlacedValue) (answer : Result U LogsError) (far next_far : Far) (out next : List ℕ) → NextPlaced old (Ok (Some g)) new
      → GivesUnless meant (λ x. (next, next_far)) answer (with_messages (of_tell file (group_told s g far)) out) → CountsOne (answer >>= λ _. Ok true) (many_told (λ g f. group_told s g f) old.groups.items far) (many_told (λ g f. group_told s g f) new.groups.items next_far)
  next_counts old new g (Ok u) far next_far out next front e =
      let x = put_so (of_tell file (group_told s g far)) out next next_far e in
      many_on tells old.groups.items new.groups.items g far next_far x.0 front.0 (tell_so file (group_told s g far) x.0 x.1) x.2
  next_counts old new g (Err logs_error.Memory) far next_far out next front e = tt
  next_counts old new g (Err (logs_error.Fault fault)) far next_far out next front e =
      let x = put_not (of_tell file (group_told s g far)) out fault e in
      let y = tell_not file (group_told s g far) x.0 x.1 in
      many_not tells old.groups.items new.groups.items g far y.0 front.0 y.1

  pub fault_counts : (old new : CourseValue) (error : course_errors.CourseError) (far : Far) (fewer : ℕ) → NextPlaced old (Err error) new → CountsOne (Err (course_error_at file error)) (many_told (λ g f. group_told s g f) old.groups.items far) fewer
  fault_counts old new course_error.Memory far fewer last = tt
  fault_counts old new (course_error.Fault fault) far fewer last = many_none tells old.groups.items far last.0

  pub told_is : (waiting : List WaitingValue) (bytes : List ℕ) (r : CourseRead) (far : Far) (reached : List Interval) → reached ≡ far.reached → course_at reached waiting bytes ≡ Ok r → told_in file s waiting bytes far ≡ Some (many_told (λ g f. group_told s g f) r.groups.items far)
  told_is waiting bytes r far reached same is = ap (λ (c : Result CourseRead CourseFault). told_of_course (λ g f. group_told s g f) c far) (ap (λ (k : List Interval). course_at k waiting bytes) (sym same) ∙ is)

  none_is : (waiting : List WaitingValue) (bytes : List ℕ) (fault : CourseFault) (far : Far) (reached : List Interval) → reached ≡ far.reached → course_at reached waiting bytes ≡ Err fault → told_in file s waiting bytes far ≡ None
  none_is waiting bytes fault far reached same is = ap (λ (c : Result CourseRead CourseFault). told_of_course (λ g f. group_told s g f) c far) (ap (λ (k : List Interval). course_at k waiting bytes) (sym same) ∙ is)

  pub unopened_there : (waiting : List WaitingValue) (bytes : List ℕ) (far : Far) (reached : List Interval) (error : course_errors.CourseError) (stops : StreamError) → reached ≡ far.reached → Refuses course_fault.meant error (course_at reached waiting bytes)
      → IsOfLogs (course_error_at file error) stops → StopsAt bytes None stops → StopsAt bytes (told_in file s waiting bytes far) stops
  unopened_there waiting bytes far reached course_error.Memory stops same e of is = rw of tt
  unopened_there waiting bytes far reached (course_error.Fault fault) stops same e of is = subst (λ (n : Option ℕ). StopsAt bytes n stops) (sym (none_is waiting bytes fault far reached same e)) is

-- ---- of logs behind a feed

module _ (file : ℕ) (s : SourceTables) (had : List Stage) where
  abbrev goes : PlacedValue → Along → Result (Told Along) LogsFault
  goes g a = group_behind file s had g a

  pub next_counts_behind : {U : Type 0} (old new : CourseValue) (g : PlacedValue) (answer : Result U LogsError) (a next_a : Along) (out next : List ℕ) → NextPlaced old (Ok (Some g)) new
      → GivesUnless meant (λ x. (next, next_a)) answer (with_messages (group_behind file s had g a) out) → CountsOne (answer >>= λ _. Ok true) (many_told (λ g a. group_behind file s had g a) old.groups.items a) (many_told (λ g a. group_behind file s had g a) new.groups.items next_a)
  next_counts_behind old new g (Ok u) a next_a out next front e =
      let x = put_so (group_behind file s had g a) out next next_a e in
      many_on goes old.groups.items new.groups.items g a next_a x.0 front.0 x.1 x.2
  next_counts_behind old new g (Err logs_error.Memory) a next_a out next front e = tt
  next_counts_behind old new g (Err (logs_error.Fault fault)) a next_a out next front e =
      let x = put_not (group_behind file s had g a) out fault e in
      many_not goes old.groups.items new.groups.items g a x.0 front.0 x.1

  pub fault_counts_behind : (old new : CourseValue) (error : course_errors.CourseError) (a : Along) (fewer : ℕ) → NextPlaced old (Err error) new → CountsOne (Err (course_error_at file error)) (many_told (λ g a. group_behind file s had g a) old.groups.items a) fewer
  fault_counts_behind old new course_error.Memory a fewer last = tt
  fault_counts_behind old new (course_error.Fault fault) a fewer last = many_none goes old.groups.items a last.0

  pub told_is_behind : (waiting : List WaitingValue) (bytes : List ℕ) (r : CourseRead) (a : Along) → course_at a.logs waiting bytes ≡ Ok r → told_behind file s had waiting bytes a ≡ Some (many_told (λ g a. group_behind file s had g a) r.groups.items a)
  told_is_behind waiting bytes r a is = ap (λ (c : Result CourseRead CourseFault). told_of_course (λ g a. group_behind file s had g a) c a) is

  none_is_behind : (waiting : List WaitingValue) (bytes : List ℕ) (fault : CourseFault) (a : Along) → course_at a.logs waiting bytes ≡ Err fault → told_behind file s had waiting bytes a ≡ None
  none_is_behind waiting bytes fault a is = ap (λ (c : Result CourseRead CourseFault). told_of_course (λ g a. group_behind file s had g a) c a) is

  pub unopened_behind : (waiting : List WaitingValue) (bytes : List ℕ) (a : Along) (error : course_errors.CourseError) (stops : StreamError) → Refuses course_fault.meant error (course_at a.logs waiting bytes)
      → IsOfLogs (course_error_at file error) stops → StopsAt bytes None stops → StopsAt bytes (told_behind file s had waiting bytes a) stops
  unopened_behind waiting bytes a course_error.Memory stops e of is = rw of tt
  unopened_behind waiting bytes a (course_error.Fault fault) stops e of is = subst (λ (n : Option ℕ). StopsAt bytes n stops) (sym (none_is_behind waiting bytes fault a e)) is
