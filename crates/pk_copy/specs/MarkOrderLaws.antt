-- The order of marks is total.
use Rattle.std.specs.Cmp.{IsTotalOrder, nat_cmp_total, on_total, then_total}
use Rattle.std.specs.Cmp.Lexicographic.{options_total}
use Rattle.pk_copy.specs.KeyOrderLaws.{key_cmp_total}
use Rattle.pk_copy.specs.Marks.{marks_cmp}

pub marks_cmp_total : IsTotalOrder marks_cmp
marks_cmp_total = then_total (on_total (λ marks. marks.done) nat_cmp_total) (on_total (λ marks. marks.upto) (options_total key_cmp_total))
