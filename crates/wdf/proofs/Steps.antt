-- How a step ends, refused or not, and what it leaves as it was.
use mathlib.Core.Path.{◌≡◌, refl}
use mathlib.Core.Bool.{Bool, true, false}
use Prim.Native.Nat.{ℕ, ◌/◌, ◌^◌, ◌≤◌}
use native.Mathlib.Omega.{arith}
use borrow.Author.Tests.{eqb-true, ltb-false}
use lib.Dec.{eqb, ltb}
use lib.IntN.{ℤ}
use Rattle.blocks.proofs.Ways.{never, kept}
use Rattle.wdf.specs.declared.filter.Wdf.{Wdf}
use Rattle.std.specs.Prelude.{Result, Ok, Err}
use Rattle.blocks.specs.declared.refusal.Refusal.{Refusal}
use Rattle.blocks.proofs.Refusals.{accepted, refused_too}
use Rattle.wdf.specs.Calls.{sections_number, number, answer, next, told, Steps, stepped}

-- a filter that is not refused has at most 8 sections
pub few : (n m : ℕ) → sections_number n m ≡ 0 → n ≤ 8
unfolding sections_number
few n m e = pick (ltb 8 n) refl
  where
    pick : (b : Bool) → ltb 8 n ≡ b → n ≤ 8
    pick true t = absurd (let z : ◌≡◌ {A = ℕ} 50 0 = rw t at e in omega arith)
    pick false t = let k = ltb-false 8 n t in omega arith

-- and no nibble beyond them
pub clean : (n m : ℕ) → sections_number n m ≡ 0 → m / 16 ^ n ≡ 0
unfolding sections_number
clean n m e = pick (ltb 8 n) refl (eqb (m / 16 ^ n) 0) refl
  where
    pick : (b : Bool) → ltb 8 n ≡ b → (d : Bool) → eqb (m / 16 ^ n) 0 ≡ d → m / 16 ^ n ≡ 0
    pick true t d u = absurd (let z : ◌≡◌ {A = ℕ} 50 0 = rw t at e in omega arith)
    pick false t true u = eqb-true (m / 16 ^ n) 0 u
    pick false t false u = absurd (let z : ◌≡◌ {A = ℕ} 51 0 = rw (t, u) at e in omega arith)

module _ (s : Wdf) (x : ℤ) where
  -- r is the filter's refusal
  pub refuses : (r : Refusal) → ◌≡◌ {A = Result (Unit {0}) Refusal} (Err r) (told (number s)) → Steps s x s (Err r)
  unfolding stepped
  refuses r e = (kept (number s) s (next s x) (never (number s) tt r e), refused_too (number s) tt (answer s x) r e)

  pub gives : number s ≡ 0 → Steps s x (next s x) (Ok (answer s x))
  unfolding stepped
  gives e = (rw e, accepted (number s) (answer s x) e)
