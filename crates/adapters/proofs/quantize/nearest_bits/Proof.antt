-- The scaled double is exact (Halves), so that the whole part of twice the size gives the nearest.
use Rattle.std.proofs.Common.{◌≡◌, ℕ, ◌+◌, ◌*◌, ◌/◌, ◌^◌, ◌≤◌, T, pos, neg_ℤ, sym, ap, ◌∙◌, subst, arith, w32, w64, to_z}
use lib.Ieee.{of_bits}
use lib.Ieee.Positive.{num, den, den_pos}
use mir.ValLaws.{to_z-of_z, to_z_pos}
use Rattle.adapters.specs.Quantize.{nearest_bits}
use Rattle.adapters.proofs.Halves.{doubled, Whole, whole, halved, few, least_fits, wide_fits, half_few, turned}
use Rattle.adapters.proofs.quantize.nearest_bits.Statement.{statement}
use Rattle.adapters.proofs.quantize.nearest_bits.Tie as tie

in-range : (c : tie.Start) → Whole c.args.a
in-range c = whole c.args.a (subst T (sym c.well_formed.0.1) tt) c.requires

truncating-f64-to-u64-requires : tie.Need-truncating_f64_to_u64-halves-requires
unfolding of_bits doubled
truncating-f64-to-u64-requires c κs = let w = in-range c in (w.above, w.under)

-- what the call gave: twice the size, cut
abbrev cut_at : tie.After-truncating_f64_to_u64-halves → ℕ
cut_at c = c.truncating_f64_to_u64-halves.result

module _ (c : tie.After-truncating_f64_to_u64-halves) where
  told : cut_at c ≡ num c.before.args.a * 2 ^ 33 / den c.before.args.a
  unfolding of_bits doubled
  told = c.truncating_f64_to_u64-halves.ensures ∙ (in-range c.before).cut

  small : cut_at c ≤ 2 ^ 32
  small = let a = c.before.args.a in rw told (few (num a) (den a) (den_pos a) (in-range c.before).small)

  size : to_z w64 ((cut_at c + 1) / 2) ≡ pos ((cut_at c + 1) / 2)
  size = let s = small in to_z_pos w64 ((cut_at c + 1) / 2) (omega arith)

add-result : tie.Need-overflow_add-result
add-result c = let s = small c in record { fits = omega arith }

cast-result : tie.Need-overflow_cast-result
cast-result c = let s = small c in record { sfits = omega arith }

sub-result : tie.Need-overflow_sub-result
sub-result c = rw (size c) (wide_fits ((cut_at c + 1) / 2) (half_few (cut_at c) (small c)))

cast-result-2 : tie.Need-overflow_cast-result-2
cast-result-2 c =
    let n = cut_at c in
    let k = half_few n (small c) in
    rw (size c, turned ((n + 1) / 2) k) (least_fits w32 ((n + 1) / 2) k)

returns : tie.Need-returns
unfolding nearest_bits
returns c =
    let n = cut_at c in
    let k = half_few n (small c) in
    let a = c.before.args.a in
    rw (size c, turned ((n + 1) / 2) k, to_z-of_z w32 (neg_ℤ (pos ((n + 1) / 2))) (least_fits w32 ((n + 1) / 2) k))
    (ap (λ (x : ℕ). neg_ℤ (pos ((x + 1) / 2))) (told c) ∙ ap (λ (x : ℕ). neg_ℤ (pos x)) (halved (num a) (den a) (den_pos a)))

pub nearest_bits_spec : {M : Type 1} → statement M
nearest_bits_spec =
    tie.close (tie.spec truncating-f64-to-u64-requires add-result cast-result sub-result cast-result-2 returns)
