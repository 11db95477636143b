-- Worked rows: what small inputs say, and what they don't.
use Rattle.std.proofs.Common.{◌≡◌, ℕ, Bool, true, false, [], ◌∷◌, Some, None, refl, inl, arith}
use Rattle.std.specs.Prelude.{◌||◌}
use Rattle.std.proofs.lemmas.Bool.{false≢true}
use Rattle.gtid_set.specs.Position.{has}
use Rattle.filter_text.specs.FilterText.{every_row}
use Rattle.item_readers.specs.Reading.{reading_of, reading_within}
use Rattle.proto_wire.specs.Varint.{IsVarint, varint_at, varint_within}
use Rattle.proto_wire.specs.Field.{sized_at, payload_at, field_behind, field_at}
use Rattle.proto_wire.specs.Frame.{frame_at}
use Rattle.row_view.specs.Row.{row_of_message, row_with}
use Rattle.vevent.specs.Event.{accepted_at, event_at}
use Rattle.vevent.specs.EventValue.{Begin, Commit, Rollback}
use Rattle.source_feed.specs.Groups.{Block}
use Rattle.source_feed.specs.SourceValue.{SourceValue}
use Rattle.vevent.specs.Response.{response_of}
use Rattle.vindex.specs.declared.vindexes.Vindex.TheVariants.{Binary}
use Rattle.filter_rule.specs.declared.decision.Decision.TheVariants.{NoRule}
use Rattle.run_says.specs.Wire.{AreAll}
use Rattle.run_says.specs.Messages.{SaysRow, HoldEvent, HasEvents}
use Rattle.run_says.specs.Filter.{IsId, Answers}
use Rattle.run_says.specs.Positions.{IsDecimal}
use Rattle.run_says.specs.Rules.{a_mark, AreTokens, SaysFilter, says_nothing}
use Rattle.run_says.specs.Transactions.{AreBlocks, no_more, rolled_back, IsRepeat, AreChanges, no_block, left_out, fresh}
use Rattle.run_says.proofs.MessageLaws.{row_says, feed_says}

-- the two bytes of 300
varint_of_300 : IsVarint (172 ∷ 2 ∷ []) 300
varint_of_300 = (172 ∷ [], 2, refl, (omega arith, tt), omega arith, omega arith, λ e. absurd (omega (arith, e)), refl)

-- two varints, one behind the other
two_varints : AreAll IsVarint (172 ∷ 2 ∷ 1 ∷ []) (300 ∷ 1 ∷ [])
two_varints = (172 ∷ 2 ∷ [], 1 ∷ [], refl, varint_of_300, (1 ∷ [], [], refl, ([], 1, refl, tt, omega arith, omega arith, λ e. absurd (omega (arith, e)), refl), refl))

-- nothing is no varint
no_varints : AreAll IsVarint (172 ∷ []) [] → ⊥
no_varints e = cc

-- the packed lengths 1 and -1, and the value `x`: a column and NULL
row_of_two : SaysRow (10 ∷ 2 ∷ 2 ∷ 1 ∷ 18 ∷ 1 ∷ 120 ∷ []) (Some (120 ∷ []) ∷ None ∷ [])
unfolding row_of_message row_with reading_of reading_within field_at field_behind payload_at sized_at varint_at varint_within
row_of_two = row_says (10 ∷ 2 ∷ 2 ∷ 1 ∷ 18 ∷ 1 ∷ 120 ∷ []) (Some (120 ∷ []) ∷ None ∷ []) refl

-- a message of eight bytes: a BEGIN and a COMMIT
feed_of_two : HasEvents (8 ∷ 10 ∷ 2 ∷ 8 ∷ 2 ∷ 10 ∷ 2 ∷ 8 ∷ 3 ∷ []) (Begin ∷ Commit ∷ [])
unfolding response_of event_at accepted_at reading_of reading_within frame_at field_at field_behind payload_at sized_at varint_at varint_within
feed_of_two = feed_says (8 ∷ 10 ∷ 2 ∷ 8 ∷ 2 ∷ 10 ∷ 2 ∷ 8 ∷ 3 ∷ []) refl

-- a message without a type is no BEGIN
no_begin : HoldEvent [] Begin → ⊥
no_begin e = cc

-- no row passes where no rule matches
none_passes : Answers NoRule [] true → ⊥
none_passes e = cc

other_id : IsId Binary (1 ∷ []) (2 ∷ []) → ⊥
other_id e = cc

-- a blank and a star
star : AreTokens (a_mark 42 ∷ []) (32 ∷ 42 ∷ [])
star = (32 ∷ [], 42 ∷ [], [], refl, refl, refl, refl)

-- an empty filter is for every row
every : SaysFilter [] (record { columns = None; rows = every_row })
every = says_nothing refl refl

-- digits, and none
twelve : IsDecimal (49 ∷ 50 ∷ []) 12
twelve = ((omega arith, (omega arith, (omega arith, tt))), refl)

no_digits : IsDecimal [] 0 → ⊥
no_digits (number, value) = absurd (omega (arith, number.0))

-- a transaction that is rolled back is no block
rolled : (source : SourceValue) → AreBlocks source (Begin ∷ Rollback ∷ []) []
rolled source = rolled_back [] [] [] tt no_more

-- number 1 of a uuid, and a block of it
abbrev first_number : Block
first_number = record { position = record { uuid = 7; first = 1; last = 1 } ∷ []; changes = record { table = []; before = None; after = Some [] } ∷ [] }

-- the first of its kind is no repeat, and the second is one
not_yet : IsRepeat [] first_number → ⊥
not_yet h = false≢true (h 7 1 refl)

again : IsRepeat (first_number ∷ []) first_number
again = λ uuid number has. or_first (has_first uuid number) has
  where
    has_first : ℕ → ℕ → Bool
    has_first uuid number = has first_number.position uuid number

    or_first : (b : Bool) → b ≡ true → (b || false) ≡ true
    or_first true e = refl
    or_first false e = absurd cc

-- so its changes count once
once : AreChanges None [] (first_number ∷ first_number ∷ []) first_number.changes
once = fresh [] first_number (first_number ∷ []) [] not_yet tt (left_out (first_number ∷ []) first_number [] [] (inl again) (no_block (first_number ∷ first_number ∷ [])))
