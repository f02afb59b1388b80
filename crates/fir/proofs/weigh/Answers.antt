-- What is summed and what is left to weigh (Summing), over the inputs kept after the first `taken`; number n is at row · 10 + place.
use Rattle.std.proofs.Common.{◌≡◌, ℕ, ◌+◌, ◌*◌, ◌%◌, ℤ, pos, ◌+ℤ◌, ◌*ℤ◌, take, get_or, rules, arith, ap, subst, ◌∙◌, w32, to_z, of_z}
use Rattle.words.specs.Words.{wrap}
use Rattle.words.proofs.Std.{add_both, mul_bits, rest_fits_32, casts}
use Rattle.fir.specs.Ways.{ways}
use Rattle.fir.specs.Inner.{kept}
use Rattle.fir.proofs.Summing.{Sums, sums-start, sums_turn, sums_end}
use Rattle.fir.proofs.Standing.{kept-length}
use Rattle.fir.proofs.weigh.Goals as goal

pub loop-row-init : goal.loop-row-init
loop-row-init c = sums-start _

pub loop-place-preserved : goal.loop-place-preserved
loop-place-preserved c =
    let l = kept c.args.cells.now (take c.args.taken c.args.input.now) in
    let row = c.loop-row.row in
    let place = c.loop-place.place in
    let n = row * 10 + place in
    let t = c.cast_signed-tap.result in
    let x = c.input_back-x.result in
    let bits = c.loop-place.sum-bits in
    let e : t ≡ wrap w32 (pos (ways 64 3 n)) = c.cast_signed-tap.ensures ∙ search (rules, casts, c.table-taps.ensures.0 row place c.loop-row-test.true c.loop-place-test.true) in
    let f : to_z w32 ((bits + of_z w32 t * of_z w32 x % 4294967296) % 4294967296) ≡ wrap w32 (to_z w32 bits +ℤ wrap w32 (t *ℤ get_or l n (pos 0))) =
    add_both w32 bits (of_z w32 t * of_z w32 x % 4294967296) c.loop-place.auto.sum (rest_fits_32 (of_z w32 t * of_z w32 x))
    ∙ ap (λ (y : ℤ). wrap w32 (to_z w32 bits +ℤ y)) (mul_bits w32 t x (record { sfits = omega arith }) (record { sfits = omega arith }) ∙ ap (λ (y : ℤ). wrap w32 (t *ℤ y)) c.input_back-x.ensures) in
    subst (λ (m : ℕ). Sums l m (to_z w32 ((bits + of_z w32 t * of_z w32 x % 4294967296) % 4294967296))) (let h : n + 1 ≡ row * 10 + (place + 1) = omega arith in h)
    (sums_turn l n (to_z w32 bits) t _ (omega arith) (kept-length c.args.cells.now (take c.args.taken c.args.input.now) c.told-cells) c.loop-place.invariant e f)

pub returns : goal.returns
returns c =
    let l = kept c.args.cells.now (take c.args.taken c.args.input.now) in
    sums_end l (c.loop-row.row * 10) (to_z w32 c.loop-row.sum-bits) (omega arith)
    (kept-length c.args.cells.now (take c.args.taken c.args.input.now) c.told-cells) c.loop-row.invariant
