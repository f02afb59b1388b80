-- What differs from itself is a NaN, any other a number (Patterns).
use lib.Ieee.{to_bits}
use Rattle.rust_answers.proofs.Patterns.{differs_nan, same_number}
use Rattle.rust_answers.proofs.doubles.to_bits.Goals as goal

pub returns-then-x : goal.returns-then-x
unfolding to_bits
returns-then-x c = rw (differs_nan c.args.x c.if-x.true)

pub float_to_bits-result : goal.float_to_bits-result
float_to_bits-result c = same_number c.args.x c.if-x.false
