-- What a state that is not refused has: the numbers of 01's refusals 10 to 13 and 15, read backwards.
use mathlib.Core.Path.{◌≡◌, refl, sym, ap, ◌∙◌}
use mathlib.Core.Bool.{Bool, true, false, cond, ◌||◌}
use Prim.Native.Nat.{ℕ, zero, suc, ◌*◌, ◌≤◌}
use native.Mathlib.Nat.{mul-le-mul}
use native.Mathlib.Omega.{arith}
use lib.Dec.{ltb, eqb, eqb-suc-zero}
use borrow.Author.Tests.{ltb-false, eqb-false, le-ltb, ne_eqb}
use Rattle.sums.specs.State.{State, refusal_of, refusal}
use Rattle.blocks.specs.Blocks.{unless}

pub record Sound (order delay rate countdown unsettled : ℕ) : Type 0 where
  pub few : order ≤ 8
  pub some : 1 ≤ delay
  pub short : delay ≤ 8
  pub slow : rate ≤ 65535
  pub near : countdown ≤ 65535
  pub owed : unsettled ≤ order * delay

-- an unsettled count is at most 8 · 8
pub owed_most : (N M r c u : ℕ) → Sound N M r c u → u ≤ 64
owed_most N M r c u q = omega (arith, q.owed, mul-le-mul {n₁ = N} {m₁ = M} {n₂ = 8} {m₂ = 8} q.few q.short)

abbrev pub Good : {A : Type 0} → State A → Type 0
Good s = Sound s.order s.delay s.rate s.countdown s.unsettled

-- a test that gave none was false, and the rest gave none
pub passed : (b : Bool) (k n : ℕ) → cond b (suc k) n ≡ 0 → b ≡ false
passed true k n e = absurd (omega arith)
passed false k n e = refl

rest : (b : Bool) (k n : ℕ) → cond b (suc k) n ≡ 0 → n ≡ 0
rest true k n e = absurd (omega arith)
rest false k n e = e

pub first : (a b : Bool) → a || b ≡ false → a ≡ false
first true b e = e
first false b e = refl

pub second : (a b : Bool) → a || b ≡ false → b ≡ false
second true true e = e
second true false e = refl
second false b e = e

pub sound : (o d r c u : ℕ) → refusal_of o d r c u ≡ 0 → Sound o d r c u
unfolding refusal_of
sound o d r c u e =
    let e1 = rest (ltb 8 o) 9 _ e in
    let e2 = rest (eqb d 0 || ltb 8 d) 10 _ e1 in
    let e3 = rest (ltb 65535 r) 11 _ e2 in
    let e4 = rest (ltb 65535 c) 12 _ e3 in
    let both = passed (eqb d 0 || ltb 8 d) 10 _ e1 in
    let nz : d ≡ 0 → ⊥ = eqb-false d 0 (first (eqb d 0) (ltb 8 d) both) in
    record {
      few = ltb-false 8 o (passed (ltb 8 o) 9 _ e);
      some = omega arith;
      short = ltb-false 8 d (second (eqb d 0) (ltb 8 d) both);
      slow = ltb-false 65535 r (passed (ltb 65535 r) 11 _ e2);
      near = ltb-false 65535 c (passed (ltb 65535 c) 12 _ e3);
      owed = ltb-false (o * d) u (passed (ltb (o * d) u) 14 _ e4);
    }

pub accepts : (o d r c u : ℕ) → Sound o d r c u → refusal_of o d r c u ≡ 0
unfolding refusal_of
accepts o d r c u h =
    let nz : d ≡ 0 → ⊥ = λ e. omega (arith, h.some) in
    simp (
      le-ltb 8 o h.few,
      ne_eqb d 0 nz,
      le-ltb 8 d h.short,
      le-ltb 65535 r h.slow,
      le-ltb 65535 c h.near,
      le-ltb (o * d) u h.owed,
    )

module _ {A : Type 0} (s : State A) where
  pub good : refusal s ≡ 0 → Good s
  good e = sound s.order s.delay s.rate s.countdown s.unsettled e

  pub good_accepts : Good s → refusal s ≡ 0
  good_accepts g = accepts s.order s.delay s.rate s.countdown s.unsettled g

-- a call that asks the state and then more: its number is 0 where both are
pub both_zero : (k n : ℕ) → unless k k n ≡ 0 → (k ≡ 0) × (n ≡ 0)
both_zero zero n e = (refl, e)
both_zero (suc k) n e = absurd (let f : suc k ≡ 0 = sym (ap (λ b. cond b n (suc k)) (eqb-suc-zero k)) ∙ e in omega arith)
