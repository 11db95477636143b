use Rattle.des.proofs.Mixing.{mixed_is}
use Rattle.des.proofs.rounds.mixed.Goals as goal

pub returns : goal.returns
returns c = λ right key small is_half is_odd is_even.
    rw (
      c.value_of.ensures,
      c.value_of-2.ensures,
      c.value_of-3.ensures,
      c.value_of-4.ensures,
      c.value_of-5.ensures,
      c.value_of-6.ensures,
      c.value_of-7.ensures,
      c.value_of-8.ensures,
    )
    (mixed_is c.args.half c.rotate_left.result c.args.odd c.args.even right key small is_half c.rotate_left.ensures is_odd is_even)
