-- A sum of wrapped sums, where `using` does not reach.
use lib.Signed.{mag}
use mir.ValLaws.{to_z-of_z}
use Rattle.std.proofs.Common.{◌≡◌, ◌+◌, ◌-◌, ◌%◌, ◌<◌, ℤ, SFits, to_z, of_z, w32, ◌∙◌}
use Rattle.words.proofs.Std.{add_bits, sub_bits, add_both, rest_fits_32}
use Rattle.adapters.specs.Adapters.{plus, minus, adapted}
use Rattle.adapters.proofs.tpa.Tpa.adapt.Goals as goal

module _ (s x p q : ℤ) (f : SFits w32 s) (g : SFits w32 x) (h : SFits w32 p) (k : SFits w32 q) where
  on_sum : to_z w32 (((of_z w32 s + of_z w32 x) % 4294967296 + (of_z w32 p + (4294967296 - of_z w32 q)) % 4294967296) % 4294967296)
      ≡ plus (plus s x) (minus p q)
  on_sum =
      add_both w32 ((of_z w32 s + of_z w32 x) % 4294967296) ((of_z w32 p + (4294967296 - of_z w32 q)) % 4294967296)
      (rest_fits_32 (of_z w32 s + of_z w32 x)) (rest_fits_32 (of_z w32 p + (4294967296 - of_z w32 q)))
      ∙ rw (add_bits w32 s x f g, sub_bits w32 p q h k)

  on_difference : to_z w32 (((of_z w32 s + (4294967296 - of_z w32 x)) % 4294967296 + (of_z w32 p + (4294967296 - of_z w32 q)) % 4294967296) % 4294967296)
      ≡ plus (minus s x) (minus p q)
  on_difference =
      add_both w32 ((of_z w32 s + (4294967296 - of_z w32 x)) % 4294967296) ((of_z w32 p + (4294967296 - of_z w32 q)) % 4294967296)
      (rest_fits_32 (of_z w32 s + (4294967296 - of_z w32 x))) (rest_fits_32 (of_z w32 p + (4294967296 - of_z w32 q)))
      ∙ rw (sub_bits w32 s x f g, sub_bits w32 p q h k)

fits : (z : ℤ) → mag z < 2147483648 → SFits w32 z
fits z h = record { sfits = h }

pub returns-in-A : goal.returns-in-A
unfolding adapted
returns-in-A c =
    let s = c.scale.result in let x0 = c.args.x0 in let x1 = c.args.x1 in let r = c.ranges in
    let f = fits s c.scale.type_inv in
    rw (c.in-A.is, on_sum s x1 x1 x0 f r.x1 r.x1 r.x0, add_bits w32 s x1 f r.x1, c.scale.ensures, sub_bits w32 x1 x0 r.x1 r.x0, to_z-of_z w32 c.args.a r.a)

pub returns-in-B : goal.returns-in-B
unfolding adapted
returns-in-B c =
    let s = c.scale-in-B.result in let x0 = c.args.x0 in let x1 = c.args.x1 in let r = c.ranges in
    let f = fits s c.scale-in-B.type_inv in
    rw (c.in-B.is, on_sum s x1 x0 x1 f r.x1 r.x0 r.x1, add_bits w32 s x1 f r.x1, c.scale-in-B.ensures, sub_bits w32 x0 x1 r.x0 r.x1, to_z-of_z w32 c.args.a r.a)

pub returns-in-C : goal.returns-in-C
unfolding adapted
returns-in-C c =
    let s = c.scale-in-C.result in let x0 = c.args.x0 in let x1 = c.args.x1 in let r = c.ranges in
    let f = fits s c.scale-in-C.type_inv in
    rw (c.in-C.is, on_difference s x1 x1 x0 f r.x1 r.x1 r.x0, sub_bits w32 s x1 f r.x1, c.scale-in-C.ensures, sub_bits w32 x1 x0 r.x1 r.x0, to_z-of_z w32 c.args.a r.a)

pub returns-in-D : goal.returns-in-D
unfolding adapted
returns-in-D c =
    let s = c.scale-in-D.result in let x0 = c.args.x0 in let x1 = c.args.x1 in let r = c.ranges in
    let f = fits s c.scale-in-D.type_inv in
    rw (c.in-D.is, on_difference s x1 x0 x1 f r.x1 r.x0 r.x1, sub_bits w32 s x1 f r.x1, c.scale-in-D.ensures, sub_bits w32 x0 x1 r.x0 r.x1, to_z-of_z w32 c.args.a r.a)
