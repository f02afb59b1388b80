-- 02, A13: the retired adapters compute what B and C compute (adapters `SameAdapters`), so b and c may stand in the places of e and f.
use Rattle.std.specs.Prelude.{◌≡◌, cond, List, ℕ, zero, suc, ◌+◌, ◌*◌, ◌/◌, ◌%◌, eqb, ℤ, Result, Ok, Err}
use Rattle.blocks.specs.declared.refusal.Refusal.{Refusal}
use Rattle.blocks.specs.Blocks.{Blocked}
use Rattle.wdf.specs.declared.filter.Wdf.{Wdf}
use Rattle.wdf.specs.Calls.{number, filter, made, made_form1, answer, next, Stepped, stepped}

-- b in the place of e and c in the place of f
unfoldable pub current : ℕ → ℕ
current nibble = cond (eqb nibble 0xe) 0xb (cond (eqb nibble 0xf) 0xc nibble)

-- the architecture with them in the places of its first n nibbles
unfoldable pub moved : ℕ → ℕ → ℕ
moved zero m = m
moved (suc n) m = current (m % 16) + 16 * moved n (m / 16)

-- a filter so moved: its coefficients and cells are the same
abbrev pub moved_wdf : Wdf → Wdf
moved_wdf s = filter s.sections (moved s.sections s.architecture) s.a s.z

abbrev pub moved_answer : Result Wdf Refusal → Result Wdf Refusal
moved_answer (Ok s) = Ok (moved_wdf s)
moved_answer (Err r) = Err r

abbrev pub moved_stepped : Stepped → Stepped
moved_stepped r = record { state = moved_wdf r.state; out = r.out }

-- A filter so moved gives the same outputs and cells as before on every input, by steps and by blocks, and is refused as before;
-- it may be made anew. Proved in proofs/Retired.antt.
pub record SameFilter : Type 0 where
  pub new : (n m : ℕ) (a : List ℤ) → made n (moved n m) a ≡ moved_answer (made_form1 n m a)
  pub step : (s : Wdf) (x : ℤ) → stepped (moved_wdf s) x ≡ moved_stepped (stepped s x)
  pub block : (s t u : Wdf) (xs ys zs ws : List ℤ) (v w : Result (Unit {0}) Refusal)
      → Blocked (number s) answer next s xs ys t v zs
      → Blocked (number (moved_wdf s)) answer next (moved_wdf s) xs ys u w ws
      → (u ≡ moved_wdf t) × ((w ≡ v) × (ws ≡ zs))
