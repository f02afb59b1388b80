-- No fields are no numbers.
use Rattle.std.proofs.Common.{refl}
use Rattle.text.specs.Ranges.{numbers_in}
use Rattle.store_read.proofs.line.numbers_left.Goals as goal

pub returns-in-None : goal.returns-in-None
unfolding numbers_in
returns-in-None c = rw c.in-None.is refl
