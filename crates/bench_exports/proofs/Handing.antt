-- A block that is handed on: what it leaves in the slice, told by the coefficients and the state that were asked for.
use mathlib.Core.Path.{◌≡◌, sym}
use mathlib.Core.List.{List}
use Prim.Native.Nat.{ℕ}
use lib.IntN.{ℤ}
use mir.Syntax.{w32}
use mir.Val.{to_z, of_z, SFits}
use mir.ValLaws.{to_z-of_z}
use Rattle.std.specs.Prelude.{Result}
use Rattle.blocks.specs.declared.refusal.Refusal.{Refusal}
use Rattle.blocks.specs.Blocks.{Blocked}
use Rattle.bench_exports.specs.Fresh.{block_left_by, word_biquad, word_clamp}

module _ {C S A B : Type 0} (k : C → ℕ) (out : C → S → A → B) (next : C → S → A → S) (xs : List A) (ys : List B) where
  pub handed : (c d : C) (s : S) (t : S) (v : Result (Unit {0}) Refusal) (zs : List B) → c ≡ d → Blocked (k c) (out c) (next c) s xs ys t v zs
      → zs ≡ block_left_by k out next d s xs ys
  handed c d s t v zs e b = rw (sym e) b.written

-- words that were handed over are the numbers that they stand for
abbrev sent : ℤ → ℤ
sent z = to_z w32 (of_z w32 z)

pub biquad_sent : {b0 b1 b2 a1 a2 : ℤ} (f : ℕ) → SFits w32 b0 → SFits w32 b1 → SFits w32 b2 → SFits w32 a1 → SFits w32 a2
    → word_biquad (sent b0) (sent b1) (sent b2) (sent a1) (sent a2) f ≡ word_biquad b0 b1 b2 a1 a2 f
biquad_sent {b0} {b1} {b2} {a1} {a2} f p q r s t =
    rw (to_z-of_z w32 b0 p, to_z-of_z w32 b1 q, to_z-of_z w32 b2 r, to_z-of_z w32 a1 s, to_z-of_z w32 a2 t)

pub clamp_sent : {u min max : ℤ} → SFits w32 u → SFits w32 min → SFits w32 max → (c : _)
    → word_clamp c (sent u) (sent min) (sent max) ≡ word_clamp c u min max
clamp_sent {u} {min} {max} p q r c = rw (to_z-of_z w32 u p, to_z-of_z w32 min q, to_z-of_z w32 max r)
