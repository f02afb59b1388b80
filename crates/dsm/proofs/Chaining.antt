-- The step's two halves as chains over their cells: a loop hands on a value with the carries so far, or y with the carries that are left.
use mathlib.Core.Path.{◌≡◌, refl, ap, ◌∙◌}
use mathlib.Core.List.{List, [], ◌∷◌, ◌++◌, append_assoc, append-nil}
use Prim.Native.Nat.{ℕ, zero, suc, ◌+◌, ◌*◌, ◌/◌, ◌%◌, ◌^◌, ◌<◌, ◌≤◌}
use native.Mathlib.Nat.{two-pow-succ}
use native.Mathlib.Numerals.{add-one}
use native.Mathlib.Omega.{arith}
use lib.IntN.{ℤ, pos, ◌+ℤ◌, ◌-ℤ◌}
use lib.ListN.{length, take, drop, get_or, set}
use Rattle.blocks.specs.Scan.{scan, ends}
use Rattle.blocks.proofs.Chains.{Chain, begin, onward, finish}
use Rattle.dsm.specs.Modulator.{accumulated, carries, combined, retaining}
use Rattle.dsm.specs.Cells.{bits_of, Accumulates}
use mathlib.Core.Bool.{Bool, true, false}
use Rattle.std.specs.Bool.{FalseIff}
use Rattle.std.specs.Int.{from_bool}

-- an accumulator: the value before it, and the carries so far, the last one first
abbrev pub sum : ℕ × List ℕ → ℕ → ℕ
sum s a = (a + s.0) % 2 ^ 32

abbrev pub handed : ℕ × List ℕ → ℕ → ℕ × List ℕ
handed s a = (sum s a, (a + s.0) / 2 ^ 32 ∷ s.1)

pub sums : (x : ℕ) (cs l : List ℕ) → scan sum handed (x, cs) l ≡ accumulated x l
unfolding accumulated
sums x cs [] = refl
sums x cs (a ∷ l) = ap (λ (t : List ℕ). (a + x) % 2 ^ 32 ∷ t) (sums ((a + x) % 2 ^ 32) ((a + x) / 2 ^ 32 ∷ cs) l)

pub carried : (x : ℕ) (cs l : List ℕ) → (ends sum handed (x, cs) l).1 ≡ carries x l ++ cs
unfolding carries
carried x cs [] = refl
carried x cs (a ∷ l) = rw append_assoc (carried ((a + x) % 2 ^ 32) ((a + x) / 2 ^ 32 ∷ cs) l)

-- a carry is one more bit
pub bits-more : (n d c : ℕ) → c < 2 → bits_of (suc n) (d * 2 + c) ≡ c ∷ bits_of n d
unfolding bits_of
bits-more n d c h =
    let e : (d * 2 + c) % 2 ≡ c = omega arith in
    let f : (d * 2 + c) / 2 ≡ d = omega arith in
    rw (e, f)

-- the carry of a sum of two words, by the flag that it is past the word
carry-flag : (b : Bool) (n : ℕ) → n < 2 ^ 33 → FalseIff b (n < 2 ^ 32) → (from_bool b ≡ n / 2 ^ 32) × (from_bool b < 2)
carry-flag true n h f = let k : 2 ^ 32 ≤ n = omega (arith, f) in (omega arith, omega arith)
carry-flag false n h f = (omega arith, omega arith)

-- at accumulator i: what the loop holds
pub record Adds (n x : ℕ) (l₀ l : List ℕ) (value d i : ℕ) : Type 0 where
  pub small : d < 2 ^ i
  pub word : value < 2 ^ 32
  pub chain : Chain sum handed n (x, []) l₀ l (value, bits_of i d) i

module _ (n x : ℕ) (l₀ : List ℕ) (fits : n ≤ length l₀) where
  pub adds_start : x < 2 ^ 32 → Adds n x l₀ l₀ x 0 0
  unfolding bits_of
  adds_start h = record { small = omega arith; word = h; chain = begin sum handed n (x, []) l₀ fits }

  pub adds_turn : (l : List ℕ) (value d i v c : ℕ) (b : Bool) → i < n → get_or l i 0 < 2 ^ 32 → Adds n x l₀ l value d i
      → v ≡ (get_or l i 0 + value) % 2 ^ 32 → FalseIff b (get_or l i 0 + value < 2 ^ 32) → c ≡ from_bool b
      → Adds n x l₀ (set l i v) v (d * 2 + c) (i + 1)
  adds_turn l value d i v c b h k g e f z =
      let p = g.small in
      let q = g.word in
      let t = two-pow-succ i in
      let w = carry-flag b (get_or l i 0 + value) (omega arith) f in
      record {
        small = rw (add-one, two-pow-succ) (omega arith);
        word = omega arith;
        chain = rw (add-one i, bits-more i d c (omega arith), e, z ∙ w.0)
            (rw (add-one i) at (onward sum handed n (x, []) l₀ fits l (value, bits_of i d) i 0 h g.chain));
      }

  pub adds_end : (l : List ℕ) (value d i : ℕ) → n ≤ i → Adds n x l₀ l value d i → Accumulates n l₀ x l d
  adds_end l value d i h g =
      let e : i ≡ n = omega (arith, g.chain.small) in
      let f = finish sum handed n (x, []) l₀ fits l (value, bits_of i d) i h g.chain in
      record {
        cells = rw sums at f.0;
        carried = rw (e, carried, append-nil) at (ap (λ (s : ℕ × List ℕ). s.1) f.1);
        small = rw e at g.small;
      }

-- a retained cell: y, and the carries from y's own on
abbrev pub old : ℤ × ℕ → ℤ → ℤ
old s cell = s.0

abbrev pub joins : ℤ × ℕ → ℤ → ℤ × ℕ
joins s cell = (pos (s.1 / 2 % 2) +ℤ s.0 -ℤ cell, s.1 / 2)

pub combining : (n d : ℕ) (y : ℤ) (l : List ℤ) → (ends old joins (y, d) (take n l)).0 ≡ combined y (bits_of n (d / 2)) l
unfolding combined bits_of
combining zero d y l = refl
combining (suc n) d y [] = refl
combining (suc n) d y (cell ∷ l) = combining n (d / 2) (pos (d / 2 % 2) +ℤ y -ℤ cell) l

pub olds : (n d : ℕ) (y : ℤ) (l : List ℤ) → scan old joins (y, d) (take n l) ++ drop n l ≡ retaining y (bits_of n (d / 2)) l
unfolding retaining bits_of
olds zero d y l = refl
olds (suc n) d y [] = refl
olds (suc n) d y (cell ∷ l) = ap (λ (t : List ℤ). y ∷ t) (olds n (d / 2) (pos (d / 2 % 2) +ℤ y -ℤ cell) l)
