-- Demands 2 and 3 of an accepted state over words: when its outputs fall, their numbers, what each tells, and that those told 0 are the
-- moving sum; first from any contents with N M outputs unsettled, then from zero.
use mathlib.Core.Path.{◌≡◌, refl, sym, ap, ◌∙◌}
use mathlib.Core.List.{List, [], ◌∷◌}
use mathlib.Core.Option.{some, some-injective}
use Prim.Native.Nat.{ℕ, zero, suc, ◌+◌, ◌-◌, ◌*◌, ◌≤◌, ◌<◌}
use native.Mathlib.Omega.{arith}
use native.Mathlib.Nat.{zero-add}
use lib.Dec.{ltb, leb-zero, leb-suc-zero, leb-suc-suc}
use lib.IntN.{ℤ}
use lib.ListN.{length, get_or, get_elem?}
use mir.Syntax.{Width}
use Rattle.sums.specs.Ops.{Ops}
use Rattle.sums.specs.Signed.{signed_ops, exact_ops}
use Rattle.sums.specs.Machine.{Output}
use Rattle.sums.specs.Moving.{moving}
use Rattle.sums.specs.State.{State, view}
use Rattle.sums.specs.Runs.{needed, outputs}
use Rattle.sums.specs.Counted.{Numbered}
use Rattle.sums.specs.Demands.{input, modulo, Decimates}
use Rattle.sums.proofs.Arrays.{view_shaped}
use Rattle.sums.proofs.Steps.{Fit, room}
use Rattle.sums.proofs.Counts.{needed-none, needed_wait, needed_give, outputs-length, outputs-told}
use Rattle.sums.proofs.Numbering.{numbering, numbering_is, tagged, tagged_length, Tags, elem_tagged}
use Rattle.sums.proofs.Cascade.{seg}
use Rattle.sums.proofs.Traces.{output, outcome, outputs_are, output_settled}
use Rattle.sums.proofs.Carried.{exact_laws, output-modulo}

-- the count, read backwards: output k is there exactly when input c + k R is
pub needed-falls : (L c r k : ℕ) → ltb k (needed L c r) ≡ ltb (c + k * suc r) L
needed-falls zero c r k = rw needed-none (leb-suc-zero k ∙ sym (leb-suc-zero (c + k * suc r)))
needed-falls (suc L) (suc c) r k =
    let e : needed (suc L) (suc c) r ≡ needed L c r = needed_wait L (suc c) r (omega arith) ∙ ap (λ n. needed L n r) (omega arith) in
    let f : suc c + k * suc r ≡ suc (c + k * suc r) = omega arith in
    rw (e, f) (needed-falls L c r k ∙ sym (leb-suc-suc (suc (c + k * suc r)) L))
needed-falls (suc L) zero r zero =
    let f : 0 + 0 * suc r ≡ 0 = omega arith in
    rw (needed_give L 0 r refl, f) (leb-suc-suc 0 (needed L r r) ∙ leb-zero (needed L r r) ∙ sym (leb-suc-suc 0 L ∙ leb-zero L))
needed-falls (suc L) zero r (suc k) =
    let f : 0 + suc k * suc r ≡ suc (r + k * suc r) = omega arith in
    rw (needed_give L 0 r refl, f) (leb-suc-suc (suc k) (needed L r r) ∙ needed-falls L r r k ∙ sym (leb-suc-suc (suc (r + k * suc r)) L))

-- an element of a list
pub elem_below : {A : Type 0} (l : List A) (k : ℕ) (y : A) → get_elem? l k ≡ some y → k < length l
elem_below [] k y e = let z : ◌≡◌ {A = ℕ} 0 1 = cc in absurd (omega arith)
elem_below (a ∷ l) zero y e = omega arith
elem_below (a ∷ l) (suc k) y e = let h = elem_below l k y e in omega arith

elem_get_or : {A : Type 0} (l : List A) (k : ℕ) (y d : A) → get_elem? l k ≡ some y → get_or l k d ≡ y
elem_get_or [] k y d e = let z : ◌≡◌ {A = ℕ} 0 1 = cc in absurd (omega arith)
elem_get_or (a ∷ l) zero y d e = some-injective a y e
elem_get_or (a ∷ l) (suc k) y d e = elem_get_or l k y d e

pub elem_seg : {A : Type 0} (f : ℕ → A) (n m k : ℕ) (y : A) → get_elem? (seg f n m) k ≡ some y → y ≡ f (n + k)
unfolding seg
elem_seg f n zero k y e = let z : ◌≡◌ {A = ℕ} 0 1 = cc in absurd (omega arith)
elem_seg f n (suc m) zero y e = sym (some-injective (f n) y e) ∙ ap f (omega arith)
elem_seg f n (suc m) (suc k) y e = elem_seg f (suc n) m k y e ∙ ap f (omega arith)

-- output k of the steps in turn tells the unsettled count before them less k
pub outputs_tell : {A : Type 0} (o : Ops A) (s : State A) → Fit s → (xs : List A) (k : ℕ) (y : Output A)
    → get_elem? (outputs o s xs) k ≡ some y → y.told ≡ s.unsettled - k
outputs_tell o s f xs k y e =
    ap (λ q. q.told) (sym (elem_get_or (outputs o s xs) k y y e)) ∙ outputs-told o s f xs k y (elem_below (outputs o s xs) k y e)

module _ (w : Width) (s : State ℤ) (f : Fit s) (xs : List ℤ) where
  -- output k over words is output k over the whole numbers, modulo 2 ^ w
  pub value_is : (k : ℕ) (y : Output ℤ) → get_elem? (outputs (signed_ops w) s xs) k ≡ some y → y.value
      ≡ modulo w s.order (output exact_ops (view s) (input xs) k)
  unfolding outcome view
  value_is k y e =
      let is : y ≡ outcome (signed_ops w) (view s) (input xs) (0 + k) =
      elem_seg (outcome (signed_ops w) (view s) (input xs)) 0 (needed (length xs) s.countdown s.rate) k y
      (ap (λ l. get_elem? l k) (sym (outputs_are (signed_ops w) s f xs)) ∙ e) in
      ap (λ q. q.value) is
      ∙ ap (output (signed_ops w) (view s) (input xs)) (zero-add k)
      ∙ output-modulo w s.order (view s) (view_shaped s (room s f)).order (view_shaped s (room s f)).lines_order (input xs) k

  -- with numbers from n + 1 on; what is left to show is that settled outputs over the whole numbers are the moving sum
  pub decimates : (n : ℕ) → ((k : ℕ) → s.unsettled ≤ k
      → output exact_ops (view s) (input xs) k ≡ moving exact_ops (suc s.rate * s.delay) s.order (input xs)
      (s.countdown + k * suc s.rate))
      → Decimates w s.order s.delay s.rate s.countdown s.unsettled n xs (numbering (signed_ops w) n s xs)
  decimates n settled =
      let o : Ops ℤ = signed_ops w in
      let first : ℕ = n + s.countdown + 1 in
      let tags : (k : ℕ) (y : Numbered ℤ) → get_elem? (tagged first (suc s.rate) (outputs o s xs)) k ≡ some y
      → Tags first (suc s.rate) (outputs o s xs) k y = elem_tagged first (suc s.rate) (outputs o s xs) in
      rw (numbering_is o n s f xs) (record {
        falls = λ k. ap (ltb k) (tagged_length first (suc s.rate) (outputs o s xs) ∙ outputs-length o s f xs)
            ∙ needed-falls (length xs) s.countdown s.rate k;
        numbers = λ k y e. (tags k y e).number ∙ omega arith;
        tells = λ k y e. outputs_tell o s f xs k _ (tags k y e).there;
        sums = λ k y e t. value_is k _ (tags k y e).there
            ∙ ap (modulo w s.order) (settled k (omega (arith, outputs_tell o s f xs k _ (tags k y e).there, t)));
      })

  -- from any contents, where N M outputs or more are unsettled
  pub decimates_settled : (n : ℕ) → s.order * s.delay ≤ s.unsettled
      → Decimates w s.order s.delay s.rate s.countdown s.unsettled n xs (numbering (signed_ops w) n s xs)
  unfolding view
  decimates_settled n enough =
      decimates n (λ k l. output_settled exact_ops exact_laws s.order s.delay (view s) (view_shaped s (room s f)) (input xs) k
      (omega arith))
