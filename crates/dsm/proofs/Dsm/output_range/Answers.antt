use Rattle.std.proofs.Common.{◌≡◌, ℕ, suc, ◌-◌, ◌^◌, pos, ◌-ℤ◌, Ok, SFits, arith}
use mir.Syntax.{w16}
use mir.ValLaws.{to_z-of_z}
use Rattle.std.proofs.lemmas.Result.{err_from_is_err_and}
use Rattle.std.specs.Prelude.{Result}
use Rattle.blocks.specs.declared.refusal.Refusal.{Refusal}
use Rattle.blocks.specs.Refusals.{answer}
use Rattle.blocks.proofs.Refusals.{taken_number, refused_too}
use Rattle.dsm.specs.declared.OutputRange.{OutputRange}
use Rattle.dsm.specs.Calls.{state_number, range_at}
use Rattle.dsm.proofs.Ranges.{low-size}
use Rattle.dsm.proofs.Refusals.{none-order}
use Rattle.dsm.proofs.Dsm.output_range.Goals as goal

pub returns-in_err-accepted : goal.returns-in_err-accepted
returns-in_err-accepted c =
    let p = err_from_is_err_and c.from_residual.result c.from_residual.ensures.1 in
    rw (p.1, p.2) (refused_too (state_number c.args.self) tt _ _ c.in_err-accepted.ensures)

pub returns-then-self-eq0 : goal.returns-then-self-eq0
unfolding answer
returns-then-self-eq0 c = rw (taken_number (state_number c.args.self) tt _ c.in_ok-accepted.ensures, c.if-self-eq0.true)

pub top-high-requires : goal.top-high-requires
top-high-requires c =
    let h = none-order c.args.self (taken_number (state_number c.args.self) tt _ c.in_ok-accepted.ensures) in omega arith

-- both ends at an order above 0
ranged : (order k : ℕ) → order ≡ suc k
    → ◌≡◌ {A = Result OutputRange Refusal} (Ok (record { least = pos 1 -ℤ pos (2 ^ k); greatest = pos (2 ^ k) })) (range_at 0 order)
unfolding answer
ranged order k e = rw e

pub returns : goal.returns
returns c =
    let ok = taken_number (state_number c.args.self) tt _ c.in_ok-accepted.ensures in
    let h = none-order c.args.self ok in
    let k = c.args.self.order - 1 in
    let high : SFits w16 (pos (2 ^ k)) = record { sfits = rw c.top-high.ensures at c.top-high.type_inv } in
    let low : SFits w16 (pos 1 -ℤ pos (2 ^ k)) = record { sfits = omega (arith, low-size k (pos 0) (omega arith)) } in
    rw (c.top-high.ensures, to_z-of_z w16 (pos (2 ^ k)) high, to_z-of_z w16 (pos 1 -ℤ pos (2 ^ k)) low, ok) (ranged c.args.self.order k (omega arith))
