-- Phases and frequencies grow side by side over the steps' timestamps, each by a step a turn (blocks Turns).
use mathlib.Core.Path.{◌≡◌, refl, sym, ap, ◌∙◌}
use mathlib.Core.Bool.{Bool, true, false}
use mathlib.Core.List.{List, [], ◌∷◌}
use Prim.Native.Nat.{ℕ, zero, suc, ◌+◌, ◌<◌, ◌≤◌}
use native.Mathlib.Omega.{arith}
use borrow.Author.Tests.{eq-eqb}
use lib.IntN.{ℤ, pos}
use lib.ListN.{length, get_or, set, length-set}
use mir.Syntax.{w32}
use Rattle.words.specs.Words.{wrap}
use Rattle.blocks.specs.Scan.{scan, ends}
use Rattle.blocks.specs.declared.refusal.Refusal.{Refusal}
use Rattle.blocks.specs.Refusals.{refusal_at, answer}
use Rattle.blocks.proofs.Turns as turns
use Rattle.blocks.proofs.Ways as ways
use Rattle.blocks.proofs.Refusals.{accepted}
use Rattle.rpll.specs.declared.RPLL.{RPLL}
use Rattle.rpll.specs.declared.RPLLConfig.{RPLLConfig}
use Rattle.std.specs.Bool.{then_some}
use Rattle.std.specs.Prelude.{None, Result, Ok, Err}
use Rattle.rpll.specs.Loops.{config_number, updated_of}
use Rattle.rpll.specs.Blocks.{stamp_of, stamps, phase_after, frequency_after, block_number, LoopBlocked}

pub as_many : (there : List Bool) (xs : List ℤ) → length there ≡ length xs → length (stamps there xs) ≡ length xs
as_many [] [] e = refl
as_many [] (x ∷ xs) e = absurd (omega (arith, e))
as_many (b ∷ there) [] e = absurd (omega (arith, e))
as_many (b ∷ there) (x ∷ xs) e = ap suc (as_many there xs (omega (arith, e)))

pub stamp_at : (there : List Bool) (xs : List ℤ) (i : ℕ) → i < length there → i < length xs
    → get_or (stamps there xs) i None ≡ stamp_of (get_or there i false) (get_or xs i (pos 0))
stamp_at [] xs i h l = absurd (omega (arith, h))
stamp_at (b ∷ there) [] i h l = absurd (omega (arith, l))
stamp_at (b ∷ there) (x ∷ xs) zero h l = refl
stamp_at (b ∷ there) (x ∷ xs) (suc i) h l = stamp_at there xs i (omega (arith, h)) (omega (arith, l))

pub stamped : (b : Bool) (x : ℤ) → then_some b x ≡ stamp_of b x
stamped true x = refl
stamped false x = refl

module _ (c : RPLLConfig) (s₀ : RPLL) (there : List Bool) (xs : List ℤ) where
  pub record Locking (ys fs : List ℤ) (s : RPLL) (i : ℕ) : Type 0 where
    pub small : i ≤ length xs
    pub even : length there ≡ length xs
    pub room : length ys ≡ length xs
    pub space : length fs ≡ length xs
    pub phases : turns.Going (phase_after c) (updated_of c) s₀ (stamps there xs) ys s i
    pub frequencies : turns.Going (frequency_after c) (updated_of c) s₀ (stamps there xs) fs s i

  pub start : (ys fs : List ℤ) → length there ≡ length xs → length xs ≡ length ys → length ys ≡ length fs → Locking ys fs s₀ 0
  start ys fs e l m =
      let n = as_many there xs e in
      record {
        small = omega arith;
        even = e;
        room = sym l;
        space = sym m ∙ sym l;
        phases = turns.start _ _ _ _ ys (sym l ∙ sym n);
        frequencies = turns.start _ _ _ _ fs (sym m ∙ sym l ∙ sym n);
      }

  pub turn : (ys fs : List ℤ) (s t : RPLL) (i : ℕ) → i < length xs → t ≡ updated_of c s (stamp_of (get_or there i false) (get_or xs i (pos 0)))
      → Locking ys fs s i → Locking (set ys i t.y) (set fs i (wrap w32 (pos t.f))) t (i + 1)
  turn ys fs s t i h e g =
      let n = as_many there xs g.even in
      let l : i < length there = omega (arith, g.even) in
      let b : i < length (stamps there xs) = omega (arith, n) in
      let x = stamp_at there xs i l h in
      rw e
      (record {
        small = omega arith;
        even = g.even;
        room = length-set ys i _ ∙ g.room;
        space = length-set fs i _ ∙ g.space;
        phases = rw x at (turns.turn (phase_after c) (updated_of c) s₀ (stamps there xs) ys s i None b g.phases);
        frequencies = rw x at (turns.turn (frequency_after c) (updated_of c) s₀ (stamps there xs) fs s i None b g.frequencies);
      })

  pub done : (ys fs : List ℤ) (s : RPLL) (i : ℕ) → length xs ≤ i → Locking ys fs s i
      → (s ≡ ends (phase_after c) (updated_of c) s₀ (stamps there xs)) × (ys ≡ scan (phase_after c) (updated_of c) s₀ (stamps there xs))
      × (fs ≡ scan (frequency_after c) (updated_of c) s₀ (stamps there xs))
  done ys fs s i h g =
      let n = as_many there xs g.even in
      let b : length (stamps there xs) ≤ i = omega (arith, n) in
      let p = turns.done _ _ _ _ ys s i b g.phases in
      (p.0, p.1, (turns.done _ _ _ _ fs s i b g.frequencies).1)

-- slices of one length leave the configuration's number
pub number_is : (c : RPLLConfig) (there : List Bool) (xs ys fs : List ℤ) → length there ≡ length xs → length xs ≡ length ys → length ys ≡ length fs
    → block_number c there xs ys fs ≡ config_number c
number_is c there xs ys fs e f g = rw (eq-eqb _ _ e, eq-eqb _ _ f, eq-eqb _ _ g) refl

-- how a block call ends
module _ (c : RPLLConfig) (s : RPLL) (there : List Bool) (xs ys fs : List ℤ) where
  pub refused : (r : Refusal) → ◌≡◌ {A = Result (Unit {0}) Refusal} (Err r) (answer (block_number c there xs ys fs) tt)
      → LoopBlocked c s there xs ys fs s (Err r) ys fs
  refused r e =
      let b = ways.never (block_number c there xs ys fs) tt r e in
      record { verdict = e; state = ways.kept _ _ _ b; phases = ways.kept _ _ _ b; frequencies = ways.kept _ _ _ b }

  pub unlike : block_number c there xs ys fs ≡ 31 → LoopBlocked c s there xs ys fs s (Err Refusal.Lengths) ys fs
  unfolding answer refusal_at
  unlike e = refused Refusal.Lengths (rw e refl)

  pub taken : (t : RPLL) (zs gs : List ℤ) → block_number c there xs ys fs ≡ 0
      → (t ≡ ends (phase_after c) (updated_of c) s (stamps there xs)) × (zs ≡ scan (phase_after c) (updated_of c) s (stamps there xs))
      × (gs ≡ scan (frequency_after c) (updated_of c) s (stamps there xs)) → LoopBlocked c s there xs ys fs t (Ok tt) zs gs
  taken t zs gs e p = record {
    verdict = accepted _ tt e;
    state = p.0 ∙ ways.came _ _ _ e;
    phases = p.1 ∙ ways.came _ _ _ e;
    frequencies = p.2 ∙ ways.came _ _ _ e;
  }

-- two results that the block's promise allows are one
pub settled : {c : RPLLConfig} {s t u : RPLL} {there : List Bool} {xs ys fs zs gs ws hs : List ℤ} {v w : Result (Unit {0}) Refusal}
    → LoopBlocked c s there xs ys fs t v zs gs → LoopBlocked c s there xs ys fs u w ws hs
    → (t ≡ u) × (v ≡ w) × (zs ≡ ws) × (gs ≡ hs)
settled p q =
    (p.state ∙ sym q.state, p.verdict ∙ sym q.verdict, p.phases ∙ sym q.phases, p.frequencies ∙ sym q.frequencies)
