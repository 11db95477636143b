-- The text of a set, interval after interval.
use Rattle.std.proofs.Common.{◌≡◌, ℕ, refl, sym, ◌∙◌, ap, List, [], ◌∷◌, ◌++◌, append_assoc, append-nil, Option, Some, None}
use Rattle.gtid_set.specs.declared.interval.Interval.{Interval}
use Rattle.gtid_set.specs.Printed.{interval_text, printed_behind, printed_position}

-- the uuid of the last interval, or what stands before the list
abbrev pub uuid_after : Option ℕ → List Interval → Option ℕ
uuid_after before [] = before
uuid_after before (i ∷ set) = uuid_after (Some i.uuid) set

abbrev pub last_uuid : List Interval → Option ℕ
last_uuid set = uuid_after None set

printed_behind-push : (before : Option ℕ) (set : List Interval) (i : Interval) → printed_behind before (set ++ i ∷ []) ≡ printed_behind before set ++ interval_text (uuid_after before set) i
printed_behind-push before [] i = append-nil (interval_text before i)
printed_behind-push before (j ∷ set) i =
    ap (λ (t : List ℕ). interval_text before j ++ t) (printed_behind-push (Some j.uuid) set i)
    ∙ sym (append_assoc (interval_text before j) (printed_behind (Some j.uuid) set) (interval_text (uuid_after (Some j.uuid) set) i))

pub printed-push : (set : List Interval) (i : Interval) → printed_position set ++ interval_text (last_uuid set) i ≡ printed_position (set ++ i ∷ [])
printed-push set i = sym (printed_behind-push None set i)

uuid_after-push : (before : Option ℕ) (set : List Interval) (i : Interval) → uuid_after before (set ++ i ∷ []) ≡ Some i.uuid
uuid_after-push before [] i = refl
uuid_after-push before (j ∷ set) i = uuid_after-push (Some j.uuid) set i

pub last_uuid-push : (set : List Interval) (i : Interval) → last_uuid (set ++ i ∷ []) ≡ Some i.uuid
last_uuid-push set i = uuid_after-push None set i
