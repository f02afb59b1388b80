-- A pattern above infinity's is a NaN, any other a number (Patterns).
use Rattle.std.proofs.Common.{sym}
use lib.Ieee.{div, of_bits}
use Rattle.rust_answers.proofs.Patterns.{pattern_nan, pattern_number}
use Rattle.rust_answers.proofs.doubles.from_bits.Goals as goal

pub returns-then-bits-gt9218868437227405312 : goal.returns-then-bits-gt9218868437227405312
unfolding div of_bits
returns-then-bits-gt9218868437227405312 c = sym (pattern_nan c.args.bits c.if-bits-gt9218868437227405312.true)

pub float_from_bits-result : goal.float_from_bits-result
float_from_bits-result c = pattern_number c.args.bits c.if-bits-gt9218868437227405312.false
