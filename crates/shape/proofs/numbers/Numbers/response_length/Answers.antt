-- Where the numbers pass their tests nothing passes 64 bits.
use Rattle.std.proofs.Common.{◌-◌, ◌≤◌, add-one, arith}
use Rattle.sums.proofs.Numbers.{span_fits, span_some, product_fits}
use Rattle.shape.proofs.Ways.{passing}
use Rattle.shape.proofs.numbers.Numbers.response_length.Goals as goal

pub overflow_cast-self : goal.overflow_cast-self
overflow_cast-self c = record { fits = omega (arith, (passing c.args.self c.in_ok-check.ensures).short) }

pub overflow_sub-steps : goal.overflow_sub-steps
overflow_sub-steps c =
    let s = c.args.self in rw c.span-r.ensures (span_some s.rate s.delay (passing s c.in_ok-check.ensures).some)

pub overflow_mul-steps : goal.overflow_mul-steps
overflow_mul-steps c =
    let s = c.args.self in
    let ok = passing s c.in_ok-check.ensures in
    let most : c.span-r.result - 1 ≤ 524288 = omega (arith, span_fits s.rate s.delay ok.slow ok.short, c.span-r.ensures, add-one s.rate) in
    product_fits s.order (c.span-r.result - 1) 8 524288 ok.few most (omega arith)
