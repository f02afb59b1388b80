-- What an accepted configuration is: refused by none of 60, 61 and 62.
use mathlib.Core.Path.{◌≡◌, refl}
use mathlib.Core.Bool.{Bool, true, false, cond, ◌||◌, true≢false}
use Prim.Native.Nat.{ℕ, suc, ◌+◌, ◌<◌, ◌≤◌}
use native.Mathlib.Omega.{arith}
use borrow.Author.Tests.{ltb-false, leb-false}
use Rattle.rpll.specs.declared.RPLLConfig.{RPLLConfig}
use Rattle.rpll.specs.Loops.{config_number}

pub record Accepted (c : RPLLConfig) : Type 0 where
  pub dt2_small : c.dt2 ≤ 30
  pub frequency_above : c.dt2 < c.shift_frequency
  pub frequency_small : c.shift_frequency ≤ 32
  pub phase_above : c.dt2 ≤ c.shift_phase
  pub phase_small : c.shift_phase ≤ c.dt2 + 31

-- a test that gives no number failed, and so for what follows
past : (b : Bool) (n m : ℕ) → cond b (suc n) m ≡ 0 → (b ≡ false) × (m ≡ 0)
past true n m e = absurd (omega arith)
past false n m e = (refl, e)

neither : (a b : Bool) → (a || b) ≡ false → (a ≡ false) × (b ≡ false)
neither true b e = (e, absurd (true≢false e))
neither false b e = (refl, e)

pub accepted : (c : RPLLConfig) → config_number c ≡ 0 → Accepted c
unfolding config_number
accepted c e =
    let a = past _ _ _ e in
    let b = past _ _ _ a.1 in
    let d = past _ _ _ b.1 in
    let f = neither _ _ b.0 in
    let p = neither _ _ d.0 in
    record {
      dt2_small = ltb-false _ _ a.0;
      frequency_above = leb-false _ _ f.0;
      frequency_small = ltb-false _ _ f.1;
      phase_above = ltb-false _ _ p.0;
      phase_small = ltb-false _ _ p.1;
    }
