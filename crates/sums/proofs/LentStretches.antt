-- A stretch of a decimator's block on lent arrays, from what its calls promise: a jump to the next output.
use mathlib.Core.Path.{◌≡◌, refl, sym, ap, ap₂, ◌∙◌}
use mathlib.Core.List.{List}
use mathlib.Core.Option.{some}
use Prim.Native.Nat.{ℕ, ◌+◌, ◌-◌, ◌*◌, ◌<◌, ◌≤◌}
use native.Mathlib.Numerals.{add-one}
use native.Mathlib.Omega.{arith}
use lib.ListN.{length, get_or}
use lib.Seq.{slice}
use Rattle.sums.specs.Ops.{Ops}
use Rattle.sums.proofs.Loops.{part_cells, part_comb}
use Rattle.sums.proofs.Stretches.{ran, last_of, jump_gives}
use Rattle.sums.proofs.Rings.{turned, turned-next, stores_length, ring_last, ring_cells}
use Rattle.sums.proofs.Lent.{Figures, Ready, Stores, Follows, Ring, ringed, DecimateStretch, InterpolateSample}
use Rattle.sums.proofs.LentSteps.{fit}

-- the combs of a state, one step in their rings
module _ {A : Type 0} (o : Ops A) (n at : ℕ) (s : Figures A) (ks : List A) (r : Ring n at s ks) (v y : A) (next : ℕ) (a : List A)
    (st : Stores o n at ks v a y) (f : Follows at s.delay next) where
  long : n * 8 ≤ length ks
  long = omega (arith, r.few, r.long)

  pub ring_gives : y ≡ part_comb o s.delay s.order (turned s.delay at s.order ks) v
  ring_gives = st.last ∙ sym (ring_last s.delay r.short o at r.inside n v ks long)
      ∙ ap (λ k. part_comb o s.delay k (turned s.delay at k ks) v) r.order

  pub ring_leaves : turned s.delay next s.order a ≡ part_cells o s.delay s.order (turned s.delay at s.order ks) v
  ring_leaves =
      ap (λ k. turned s.delay next k a) (sym r.order)
      ∙ turned-next s.delay r.short n at next a f.is
      ∙ ap (turned s.delay (at + 1) n) st.cells
      ∙ sym (ring_cells s.delay r.short o at r.inside n v ks long)
      ∙ ap (λ k. part_cells o s.delay k (turned s.delay at k ks) v) r.order

  pub ring_long : length a ≡ 64
  ring_long = ap length st.cells ∙ stores_length s.delay r.short o at n v ks long ∙ r.long

-- the numbers after an output
abbrev pub gave : {A : Type 0} → Figures A → ℕ → A → Figures A
gave s u y = record { order = s.order; delay = s.delay; rate = s.rate; countdown = s.rate; unsettled = u; hold = y }

module _ {A : Type 0} (o : Ops A) (n at : ℕ) (s : Figures A) (is ks : List A) (r : Ring n at s ks) (ok : Ready (ringed s is ks at))
    (xs : List A) (i : ℕ) (q : i + s.countdown < length xs) where
  pub reaches : (is' ks' : List A) (x v y : A) (u next : ℕ) → is' ≡ ran o n (slice i (i + s.countdown + 1) xs) is
      → x ≡ get_or xs (i + s.countdown) o.nil → v ≡ last_of o n x is' → Stores o n at ks v ks' y → u ≡ s.unsettled - 1
      → Follows at s.delay next
      → DecimateStretch o n xs (ringed s is ks at) i (gave s u y) is' ks' next (some (record { value = y; told = s.unsettled }))
      (i + s.countdown + 1)
  reaches is' ks' x v y u next ei ex ev st eu f = record {
    ring =
        record { order = r.order; few = r.few; short = r.short; inside = f.inside; long = ring_long o n at s ks r v y next ks' st f };
    jump = jump_gives o xs i (ringed s is ks at) (fit (ringed s is ks at) ok) (omega arith) q is'
        (ei ∙ ap (λ k. ran o k (slice i (i + s.countdown + 1) xs) is) r.order) v y u (turned s.delay next s.order ks')
        (ev ∙ ap₂ (λ k z. last_of o k z is') r.order ex)
        (ring_gives o n at s ks r v y next ks' st f) (ring_leaves o n at s ks r v y next ks' st f) eu;
    further = omega arith;
  }

-- the numbers after a sample
abbrev pub took : {A : Type 0} → Figures A → A → Figures A
took s y = record { order = s.order; delay = s.delay; rate = s.rate; countdown = s.rate + 1; unsettled = s.unsettled; hold = y }

pub feeds : {A : Type 0} (o : Ops A) (n at : ℕ) (s : Figures A) (ks : List A) → Ring n at s ks → (x y : A) (next : ℕ) (a : List A)
    → Stores o n at ks x a y → Follows at s.delay next
    → InterpolateSample o n at s ks x (took s y) a next
feeds o n at s ks r x y next a st f = record {
  ring = record { order = r.order; few = r.few; short = r.short; inside = f.inside; long = ring_long o n at s ks r x y next a st f };
  same = refl;
  state = λ is. rw (add-one s.rate, ring_leaves o n at s ks r x y next a st f, ring_gives o n at s ks r x y next a st f);
}
