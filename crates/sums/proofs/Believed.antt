-- The settled part of a block's slice: the outputs past the count told with the first are those that are told 0.
use mathlib.Core.Path.{◌≡◌, refl, sym, ap, ◌∙◌}
use mathlib.Core.Bool.{false, cond}
use mathlib.Core.List.{List, [], ◌∷◌}
use mathlib.Core.Option.{some}
use Prim.Native.Nat.{ℕ, zero, suc, ◌+◌, ◌*◌, ◌-◌, ◌<◌}
use native.Mathlib.Omega.{arith}
use lib.Dec.{ltb, eqb-suc-zero}
use lib.IntN.{ℤ}
use lib.ListN.{length, get_or, get_elem?, take, drop, length-append}
use lib.Seq.{take-append_seam}
use borrow.Author.Tests.{le-ltb}
use Rattle.sums.specs.Ops.{Ops}
use Rattle.sums.specs.Machine.{Output}
use Rattle.sums.specs.Runs.{values, first_told, over, outputs, settled_number, settled_part}
use Rattle.sums.specs.Counted.{Counted, Numbered, block_number, plain, first_number, taken_outputs, block_out}
use Rattle.sums.specs.Demands.{believed}
use Rattle.sums.proofs.Steps.{Fit}
use Rattle.sums.proofs.Counts.{outputs-told}
use Rattle.sums.proofs.Numbering.{block_room, taken_tagged, plain-taken, plain_tagged, elem_tagged, first_tagged}
use Rattle.sums.proofs.Settling.{elem_below, outputs_tell}
use Rattle.sums.proofs.Blocks.{values_length}

-- a list whose outputs tell u, then one fewer each
believed_is : (ys : List (Output ℤ)) (u : ℕ) → ((k : ℕ) (d : Output ℤ) → k < length ys → (get_or ys k d).told ≡ u - k)
    → drop u (values ys) ≡ believed ys
believed_is [] zero h = refl
believed_is [] (suc u) h = refl
believed_is (y ∷ ys) zero h =
    let none : y.told ≡ 0 = omega (arith, h 0 y (omega arith)) in
    rw none (ap (λ l. y.value ∷ l) (believed_is ys 0 (λ k d b. omega (arith, h (suc k) d (omega arith)))))
believed_is (y ∷ ys) (suc u) h =
    let more : y.told ≡ suc u = omega (arith, h 0 y (omega arith)) in
    rw (more, eqb-suc-zero u) (believed_is ys u (λ k d b. omega (arith, h (suc k) d (omega arith))))

believed-first : (ys : List (Output ℤ)) (u : ℕ) → ((k : ℕ) (d : Output ℤ) → k < length ys → (get_or ys k d).told ≡ u - k)
    → drop (first_told ys) (values ys) ≡ believed ys
believed-first [] u h = refl
believed-first (y ∷ ys) u h =
    let e : y.told ≡ u = omega (arith, h 0 y (omega arith)) in
    ap (λ k. drop k (values (y ∷ ys))) e ∙ believed_is (y ∷ ys) u h

-- the output i places after the first of a list
first-less : (ys : List (Output ℤ)) (u : ℕ) → ((k : ℕ) (y : Output ℤ) → get_elem? ys k ≡ some y → y.told ≡ u - k)
    → (i : ℕ) (y : Output ℤ) → get_elem? ys i ≡ some y → y.told ≡ first_told ys - i
first-less [] u h i y e = let z : ◌≡◌ {A = ℕ} 0 1 = cc in absurd (omega arith)
first-less (x ∷ ys) u h i y e = omega (arith, h 0 x refl, h i y e)

module _ (o : Ops ℤ) (c : Counted ℤ) (f : Fit c.state) (xs out : List ℤ) (e : block_number c xs out ≡ 0) where
  abbrev ys : List (Output ℤ)
  ys = outputs o c.state xs

  pub settled_part_law : settled_part (block_out o c xs out) (length (plain (taken_outputs o c xs))) (first_told (plain (taken_outputs o c xs)))
      ≡ believed (plain (taken_outputs o c xs))
  unfolding block_out settled_part settled_number
  settled_part_law =
      let l : length (values ys) ≡ length ys = values_length ys in
      let room : ltb (length (over (values ys) out)) (length ys) ≡ false =
      le-ltb (length (over (values ys) out)) (length ys) (rw length-append (omega arith)) in
      rw (e, plain-taken o c f xs (block_room c xs out e), room)
      (ap (λ n. drop (first_told ys) (take n (over (values ys) out))) (sym l)
      ∙ ap (drop (first_told ys)) (take-append_seam (values ys) (drop (length (values ys)) out))
      ∙ believed-first ys c.state.unsettled (λ k d b. outputs-told o c.state f xs k d b))

  -- what the output i places after the first tells
  pub in_block : (i : ℕ) (y : Numbered ℤ) → get_elem? (taken_outputs o c xs) i ≡ some y
      → (y.told ≡ first_told (plain (taken_outputs o c xs)) - i)
      × (y.number ≡ first_number (taken_outputs o c xs) + i * suc c.state.rate)
  in_block i y h =
      let s = c.state in let R : ℕ = suc s.rate in let first : ℕ = c.inputs + s.countdown + 1 in
      let is = taken_tagged o c f xs (block_room c xs out e) in
      let t = elem_tagged first R ys i y (ap (λ l. get_elem? l i) (sym is) ∙ h) in
      rw (is, plain_tagged first R ys) (
        first-less ys s.unsettled (outputs_tell o s f xs) i _ t.there,
        t.number ∙ ap (λ n. n + i * R) (sym (first_tagged first R ys (omega (arith, elem_below ys i _ t.there)))),
      )
