-- The file of a log: each answer is right, and each right answer is given.
use Rattle.std.proofs.Common.{◌≡◌, ◌≢◌, ℕ, ◌+◌, ◌*◌, ◌%◌, ◌<◌, ◌≤◌, Bool, true, false, eqb, List, [], ◌∷◌, ◌++◌, length, drop, Result, Ok, Err, refl, ap, ◌∙◌, inl, inr, arith}
use Rattle.std.proofs.lemmas.Bool.{false≢true, cases_Bool, cases_lt, cases_eq, and_parts, and_from, eqb-true, eq-eqb, ne_eqb, leb-true, le-leb}
use Rattle.list_laws.specs.Outcome.{◌>>=◌}
use Rattle.item_readers.proofs.ReadingLaws.{spells-reading, only_reading}
use Rattle.log_events.specs.declared.fault.EventFault.{EventFault}
use Rattle.log_events.specs.declared.fault.LogFault.{LogFault}
use Rattle.log_events.specs.declared.fault.LogFault.TheVariants.{NoLog, Encrypted, First, NoDescription, OtherSum}
use Rattle.log_events.specs.Number.{little}
use Rattle.log_events.specs.Event.{LogEvent, IsEvent, NoEvent, event_at, events_of}
use Rattle.log_events.specs.Log.{LogValue, magic, encrypted_magic, IsFormat, checks_of, check_number, IsLog, NoLogFile, AnswersLog, begins, is_format, describes, of_first, log_at}
use Rattle.log_events.proofs.EventLaws.{event_reader}

-- ---- the magic

begins_true : (first : ℕ) (bytes : List ℕ) → begins first bytes ≡ true → (rest : List ℕ) × (bytes ≡ first ∷ 0x62 ∷ 0x69 ∷ 0x6e ∷ rest) × (drop 4 bytes ≡ rest)
unfolding little
begins_true first [] e = let p = and_parts _ _ e in absurd (false≢true p.1)
begins_true first (a ∷ []) e = let p = and_parts _ _ e in absurd (false≢true p.1)
begins_true first (a ∷ b ∷ []) e = let p = and_parts _ _ e in absurd (false≢true p.1)
begins_true first (a ∷ b ∷ c ∷ []) e = let p = and_parts _ _ e in absurd (false≢true p.1)
begins_true first (a ∷ b ∷ c ∷ d ∷ rest) e =
    let p = and_parts _ _ e in
    let q = and_parts _ _ p.0 in
    let r = and_parts _ _ q.0 in
    let one : a + 256 * 0 ≡ first = eqb-true _ _ r.0 in
    let two : b + 256 * 0 ≡ 0x62 = eqb-true _ _ r.1 in
    let three : c + 256 * 0 ≡ 0x69 = eqb-true _ _ q.1 in
    let four : d + 256 * 0 ≡ 0x6e = eqb-true _ _ p.1 in
    let a_is : a ≡ first = omega arith in
    let b_is : b ≡ 0x62 = omega arith in
    let c_is : c ≡ 0x69 = omega arith in
    let d_is : d ≡ 0x6e = omega arith in
    (rest, rw (a_is, b_is, c_is, d_is) refl, refl)

begins_log : (rest : List ℕ) → begins 0xfe (magic ++ rest) ≡ true
unfolding little
begins_log rest = refl

begins_other : (rest : List ℕ) → begins 0xfe (encrypted_magic ++ rest) ≡ false
unfolding little
begins_other rest = refl

begins_encrypted : (rest : List ℕ) → begins 0xfd (encrypted_magic ++ rest) ≡ true
unfolding little
begins_encrypted rest = refl

-- ---- the format description

format_true : (event : LogEvent) → is_format event ≡ true → IsFormat event
format_true event e =
    let p = and_parts _ _ e in
    let q = and_parts _ _ p.0 in
    let r = and_parts _ _ q.0 in
    record {
      kind = eqb-true _ _ r.0;
      long = leb-true _ _ r.1;
      version = eqb-true _ _ q.1;
      head = eqb-true _ _ p.1;
    }

format_is : (event : LogEvent) → IsFormat event → is_format event ≡ true
format_is event h = and_from _ _ (and_from _ _ (and_from _ _ (eq-eqb _ _ h.kind) (le-leb _ _ h.long)) (eq-eqb _ _ h.version)) (eq-eqb _ _ h.head)

format_not : (event : LogEvent) → ¬ IsFormat event → is_format event ≡ false
format_not event h =
    elim (cases_Bool (is_format event)) [
      | inl held ↦ absurd (h (format_true event held))
      | inr is ↦ is
    ]

describes-not : (event : LogEvent) → is_format event ≡ false → describes event ≡ Err NoDescription
describes-not event e = rw e refl

describes-is : (event : LogEvent) (checked : Bool) → IsFormat event → checks_of event ≡ check_number checked → describes event ≡ Ok checked
describes-is event false h e = let zero_is : eqb (checks_of event) 0 ≡ true = eq-eqb _ _ e in rw (format_is event h, zero_is) refl
describes-is event true h e =
    let not_zero : eqb (checks_of event) 0 ≡ false = ne_eqb _ _ (λ z. let one : checks_of event ≡ 1 = e in absurd (omega arith)) in
    let one_is : eqb (checks_of event) 1 ≡ true = eq-eqb _ _ e in
    rw (format_is event h, not_zero, one_is) refl

describes-other : (event : LogEvent) → IsFormat event → 2 ≤ checks_of event → describes event ≡ Err OtherSum
describes-other event h le =
    let not_zero : eqb (checks_of event) 0 ≡ false = ne_eqb _ _ (λ z. absurd (omega arith)) in
    let not_one : eqb (checks_of event) 1 ≡ false = ne_eqb _ _ (λ z. absurd (omega arith)) in
    rw (format_is event h, not_zero, not_one) refl

data Described (event : LogEvent) : Type 0 where
  has : (checked : Bool) → IsFormat event → checks_of event ≡ check_number checked → Described event
  none : ¬ IsFormat event → Described event
  other : IsFormat event → 2 ≤ checks_of event → Described event

described : (event : LogEvent) → Described event
described event =
    elim (cases_Bool (is_format event)) [
      | inl held ↦ elim (cases_eq (checks_of event) 0) [
        | inl zero_is ↦ has false (format_true event held) zero_is
        | inr not_zero ↦ elim (cases_eq (checks_of event) 1) [
          | inl one_is ↦ has true (format_true event held) one_is
          | inr not_one ↦ other (format_true event held) (elim (cases_lt (checks_of event) 2) [
            | inl small ↦ absurd (elim (cases_eq (checks_of event) 0) [
              | inl z ↦ not_zero z
              | inr nz ↦ not_one (let pos : (checks_of event ≡ 0 → ⊥) = nz in one_of event small nz)
            ])
            | inr le ↦ le
          ])
        ]
      ]
      | inr no_format ↦ none (λ h. let held = format_is event h in cc)
    ]
  where
    one_of : (event : LogEvent) → checks_of event < 2 → (checks_of event ≡ 0 → ⊥) → checks_of event ≡ 1
    one_of event small nz = omega arith

-- ---- behind the magic

abbrev behind : Result (LogEvent × List ℕ) EventFault → Result LogValue LogFault
behind read = of_first read >>= λ first. describes first.0 >>= λ checked. Ok (record { in_use = eqb (first.0.flags % 2) 1; events = events_of checked first.1; left = length first.1 })

log-behind : (rest : List ℕ) → log_at (magic ++ rest) ≡ behind (event_at true rest)
unfolding log_at
log-behind rest = rw (begins_log rest) refl

log-encrypted : (rest : List ℕ) → log_at (encrypted_magic ++ rest) ≡ Err Encrypted
unfolding log_at
log-encrypted rest = rw (begins_other rest, begins_encrypted rest) refl

log-none : (bytes : List ℕ) → begins 0xfe bytes ≡ false → begins 0xfd bytes ≡ false → log_at bytes ≡ Err NoLog
unfolding log_at
log-none bytes e f = rw (e, f) refl

answers_described : (bytes first rest : List ℕ) (event : LogEvent) → bytes ≡ magic ++ (first ++ rest) → IsEvent true first event → Described event → AnswersLog bytes (behind (Ok (event, rest)))
answers_described bytes first rest event is h (has checked format checks) =
    rw (describes-is event checked format checks) (record {
      first = first;
      rest = rest;
      description = event;
      checked = checked;
      is = is;
      event = h;
      format = format;
      checks = checks;
      in_use = refl;
      events = spells-reading (IsEvent checked) (NoEvent checked) (event_at checked) (event_reader checked) rest;
      left = refl;
    })
answers_described bytes first rest event is h (none no_format) = rw (describes-not event (format_not event no_format)) (first, rest, event, is, h, no_format)
answers_described bytes first rest event is h (other format le) = rw (describes-other event format le) (first, rest, event, is, h, (format, le))

answers_behind : (bytes rest : List ℕ) (read : Result (LogEvent × List ℕ) EventFault) → bytes ≡ magic ++ rest → event_at true rest ≡ read → AnswersLog bytes (behind read)
answers_behind bytes rest (Err f) is e = (rest, is, (event_reader true).refused rest f e)
answers_behind bytes rest (Ok x) is e =
    let one = (event_reader true).found rest x e in
    let whole : bytes ≡ magic ++ (one.0 ++ x.1) = is ∙ ap (λ (xs : List ℕ). magic ++ xs) one.1 in
    answers_described bytes one.0 x.1 x.0 whole one.2 (described x.0)

-- ---- the log

not_begun : (first : ℕ) (bytes : List ℕ) → begins first bytes ≡ false → (rest : List ℕ) → begins first (first ∷ 0x62 ∷ 0x69 ∷ 0x6e ∷ rest) ≡ true → bytes ≢ first ∷ 0x62 ∷ 0x69 ∷ 0x6e ∷ rest
not_begun first bytes e rest held is = let same : begins first bytes ≡ true = rw is held in cc

pub log_answers : (bytes : List ℕ) → AnswersLog bytes (log_at bytes)
log_answers bytes =
    elim (cases_Bool (begins 0xfe bytes)) [
      | inl log ↦
          let is = begins_true 0xfe bytes log in
          let behind_is : log_at bytes ≡ behind (event_at true is.0) = ap log_at is.1 ∙ log-behind is.0 in
          rw behind_is (answers_behind bytes is.0 (event_at true is.0) is.1 refl)
      | inr no_log ↦ elim (cases_Bool (begins 0xfd bytes)) [
        | inl secret ↦
            let is = begins_true 0xfd bytes secret in
            let refused : log_at bytes ≡ Err Encrypted = ap log_at is.1 ∙ log-encrypted is.0 in
            rw refused (is.0, is.1)
        | inr no_secret ↦
            rw (log-none bytes no_log no_secret) (λ rest. not_begun 0xfe bytes no_log rest (begins_log rest), λ rest. not_begun 0xfd bytes no_secret rest (begins_encrypted rest))
      ]
    ]

pub log_only : (bytes : List ℕ) (log : LogValue) → IsLog bytes log → log_at bytes ≡ Ok log
log_only bytes log h =
    let one : event_at true (h.first ++ h.rest) ≡ Ok (h.description, h.rest) = (event_reader true).finds h.first h.rest h.description h.event in
    let events : events_of h.checked h.rest ≡ log.events = only_reading (IsEvent h.checked) (NoEvent h.checked) (event_at h.checked) (event_reader h.checked) h.rest log.events.items log.events.fault h.events in
    ap log_at h.is ∙ log-behind (h.first ++ h.rest) ∙ ap behind one ∙ rw (describes-is h.description h.checked h.format h.checks) (rw (events, ← h.in_use, ← h.left) refl)

pub log_refuses : (bytes : List ℕ) (fault : LogFault) → NoLogFile bytes fault → log_at bytes ≡ Err fault
log_refuses bytes NoLog h =
    log-none bytes
    (elim (cases_Bool (begins 0xfe bytes)) [ inl held ↦ let is = begins_true 0xfe bytes held in absurd (h.0 is.0 is.1) | inr e ↦ e ])
    (elim (cases_Bool (begins 0xfd bytes)) [ inl held ↦ let is = begins_true 0xfd bytes held in absurd (h.1 is.0 is.1) | inr e ↦ e ])
log_refuses bytes Encrypted h = ap log_at h.1 ∙ log-encrypted h.0
log_refuses bytes (First fault) h = ap log_at h.1 ∙ log-behind h.0 ∙ ap behind ((event_reader true).refuses h.0 fault h.2)
log_refuses bytes NoDescription (first, rest, event, is, begins_by, unlike) =
    ap log_at is ∙ log-behind (first ++ rest) ∙ ap behind ((event_reader true).finds first rest event begins_by) ∙ rw (describes-not event (format_not event unlike)) refl
log_refuses bytes OtherSum (first, rest, event, is, begins_by, unlike) =
    ap log_at is ∙ log-behind (first ++ rest) ∙ ap behind ((event_reader true).finds first rest event begins_by) ∙ rw (describes-other event unlike.0 unlike.1) refl
