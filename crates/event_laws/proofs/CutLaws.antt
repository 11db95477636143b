-- Behind a group's last event a feed can be cut.
use Rattle.std.proofs.Common.{◌≡◌, ◌+◌, List, [], ◌∷◌, ◌++◌, length, Bool, true, false, cond, Option, None, Some, refl, sym, ap, ◌∙◌, inl, inr}
use Rattle.std.proofs.lemmas.Bool.{cases_Bool, cond-false, false≢true}
use Rattle.std.proofs.lemmas.Option.{none-some}
use Rattle.gtid_set.specs.Position.{IsCanonical, IsWithin, within_of}
use Rattle.vevent.specs.EventValue.{EventValue, Gtid, Begin, Commit, Rollback, Row, Field, Vgtid, Ignored}
use Rattle.source_feed.specs.GroupValue.{Position, GroupValue}
use Rattle.source_feed.specs.SourceValue.{SourceValue}
use Rattle.source_feed.specs.PastEvents.{PastEvents, is_open, position_of}
use Rattle.source_feed.specs.Groups.{Block, block_at, block_at_position, with_block, seen, group_of_block, groups_of, fault_at, first_fault}
use Rattle.source_feed.specs.Private.SetLaws.{SetLaws}
use Rattle.source_feed.proofs.Options.{option_or-nothing}
use Rattle.source_feed.proofs.OrderLaws.{Grown, grown, as_group, EndsWell, ends_well, around}
use Rattle.event_laws.specs.Cuts.{EndsGroup, IsCut}

-- ---- a block's last event leaves no transaction open

outside_of : (b : Bool) (here : Option Block) (block : Block) → cond b None here ≡ Some block → b ≡ false
outside_of true here block e = absurd (none-some block e)
outside_of false here block e = refl

never : {P : Type 0} (b : Bool) (block : Block) → cond b None None ≡ Some block → P
never true block e = absurd (none-some block e)
never false block e = absurd (none-some block e)

closes : (source : SourceValue) (earlier : PastEvents) (event : EventValue) (block : Block) → block_at source earlier event ≡ Some block → is_open (event ∷ earlier) ≡ false
closes source earlier Commit block e = refl
closes source earlier Rollback block e = refl
closes source earlier Begin block e = never (is_open earlier) block e
closes source earlier (Gtid text) block e = outside_of (is_open earlier) (block_at_position (position_of source (Gtid text)) []) block e
closes source earlier (Vgtid entries) block e = outside_of (is_open earlier) (block_at_position (position_of source (Vgtid entries)) []) block e
closes source earlier (Row name rows) block e = never (is_open earlier) block e
closes source earlier (Field name columns) block e = never (is_open earlier) block e
closes source earlier (Ignored kind) block e = never (is_open earlier) block e

-- ---- what isn't within all earlier positions isn't empty

not_empty : SetLaws → (all position : Position) → IsCanonical all → IsCanonical position → within_of position all ≡ false → within_of position [] ≡ false
not_empty laws all position a p beyond = elim (cases_Bool (within_of position [])) [
  | inl within ↦ (
      let none : IsWithin position [] = laws.subset position [] p tt within in
      let inside : within_of position all ≡ true = laws.computed position all p a (λ uuid number held. absurd (false≢true (none uuid number held))) in
      absurd (false≢true (sym beyond ∙ inside))
      )
  | inr apart ↦ apart
]

-- ---- the cut

pub is_cut : SetLaws → (source : SourceValue) (earlier : PastEvents) (event : EventValue) (block : Block) → EndsGroup source earlier event block → IsCut source (event ∷ earlier) block
is_cut laws source earlier event block h =
    let none = option_or-nothing (first_fault source earlier) (fault_at source earlier event) h.faultless in
    let well : EndsWell source earlier block = ends_well laws source earlier event block h.here none.1 in
    let before : Grown (groups_of source earlier) (seen source earlier) = grown laws source earlier none.0 in
    let wider : within_of (seen source earlier) block.position ≡ true = around source earlier block.position well.faultless h.more in
    let groups : List GroupValue = groups_of source earlier in
    let last : GroupValue = as_group groups block in
    record {
      outside = closes source earlier event block h.here;
      last = record {
        before = groups;
        last = last;
        groups = ap (λ (o : Option Block). groups ++ group_of_block (seen source earlier) (length groups + 1) o) h.here
            ∙ ap (λ (gs : List GroupValue). groups ++ gs) (cond-false (within_of block.position (seen source earlier)) [] (last ∷ []) h.more);
        at = refl;
      };
      reached = ap (with_block (seen source earlier)) h.here ∙ laws.union_around (seen source earlier) block.position before.canonical well.canonical wider;
      from_empty = not_empty laws (seen source earlier) block.position before.canonical well.canonical h.more;
    }
