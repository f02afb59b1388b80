-- A shift by four bits a section divides by 16 to their number (Nibbles).
use Rattle.std.proofs.Common.{◌≡◌, ◌/◌, ◌*◌, ◌^◌, lt-ltb, le-ltb, eq-eqb, ne_eqb}
use Rattle.blocks.specs.Refusals.{answer, refusal_at}
use Rattle.wdf.specs.Calls.{sections_number}
use Rattle.wdf.proofs.Nibbles.{four_bits}
use Rattle.wdf.proofs.filter.refusal.Goals as goal

pub returns-then-sections-gt8 : goal.returns-then-sections-gt8
unfolding sections_number answer refusal_at
returns-then-sections-gt8 c = rw (lt-ltb 8 c.args.sections c.if-sections-gt8.true)

pub returns-then-architecture-sections-ne0 : goal.returns-then-architecture-sections-ne0
unfolding sections_number answer refusal_at
returns-then-architecture-sections-ne0 c =
    let s = c.args.sections in let m = c.args.architecture in
    let k : m / 2 ^ (4 * s) ≡ 0 → ⊥ = c.if-architecture-sections-ne0.true in
    rw (le-ltb 8 s c.if-sections-gt8.false, ne_eqb (m / 16 ^ s) 0 (rw (four_bits s) at k))

pub returns : goal.returns
unfolding sections_number answer
returns c =
    let s = c.args.sections in let m = c.args.architecture in
    let k : m / 2 ^ (4 * s) ≡ 0 = c.if-architecture-sections-ne0.false in
    rw (le-ltb 8 s c.if-sections-gt8.false, eq-eqb (m / 16 ^ s) 0 (rw (four_bits s) at k))
