-- How a mark is seen.
use Rattle.pk_copy.specs.Marks.{MarkValue, waiting, up_to, copied}
use Rattle.pk_copy.specs.declared.mark.Mark.{Mark}
use Rattle.pk_copy.specs.declared.mark.Mark.TheVariants.{Waiting, Upto, Done}

-- the mark, whatever memory its key lies in
abbrev pub mark_value : Mark → MarkValue
mark_value Waiting = waiting
mark_value (Upto key) = up_to key.now
mark_value Done = copied
