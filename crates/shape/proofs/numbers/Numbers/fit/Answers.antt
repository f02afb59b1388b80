-- 17 by the definition's tests in their order; then the capped power compares as the gain does.
use Rattle.std.proofs.Common.{◌-◌, ◌^◌, ◌≤◌, sym, ◌∙◌, arith, le-ltb, ne_eqb, pow_mono, refl}
use Rattle.sums.specs.Calls.{gain_of, fit_number_of, fits_of}
use Rattle.sums.proofs.Numbers.{span_some, capped_leb, width-most}
use Rattle.blocks.proofs.Refusals.{accepted, taken_number}
use Rattle.shape.specs.Powers.{power_cap}
use Rattle.shape.proofs.Ways.{passing}
use Rattle.shape.proofs.numbers.Numbers.fit.Goals as goal

pub overflow_cast-self : goal.overflow_cast-self
overflow_cast-self c = record { fits = omega (arith, (passing _ c.in_ok-check.ensures).short) }

pub power-gain-requires : goal.power-gain-requires
power-gain-requires c = let s = c.args.self in rw c.span.ensures (span_some s.rate s.delay (passing _ c.in_ok-check.ensures).some)

pub power_of_two-requires : goal.power_of_two-requires
power_of_two-requires c = omega (arith, width-most _ (sym c.is_width.ensures ∙ c.if-not-is_width.false))

pub returns : goal.returns
unfolding fit_number_of fits_of gain_of
returns c =
    let s = c.args.self in
    let z = taken_number _ tt tt c.in_ok-check.ensures in
    let room : c.args.width - c.args.b ≤ 63 = omega (arith, width-most _ (sym c.is_width.ensures ∙ c.if-not-is_width.false)) in
    rw (
      z,
      ne_eqb c.args.b 0 (λ z. omega arith),
      le-ltb _ _ c.if-width-b.false,
      ← c.is_width.ensures,
      c.if-not-is_width.false,
      c.power_of_two.ensures,
      capped_leb (gain_of s.order s.delay s.rate) c.power-gain.result power_cap (2 ^ (c.args.width - c.args.b)) (rw c.span.ensures at c.power-gain.ensures)
          (omega (arith, pow_mono {i = c.args.width - c.args.b} {j = 63} room)),
    ) (accepted 0 _ refl)
