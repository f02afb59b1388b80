-- A filter's block is that of its chain, and a chain of more sections, whose nibbles are zero, is the same (sections Padded).
use mathlib.Core.Path.{◌≡◌, refl, ap, ◌∙◌}
use mathlib.Core.List.{List, [], ◌∷◌}
use Prim.Native.Nat.{ℕ, ◌+◌, ◌-◌, ◌/◌, ◌^◌, ◌≤◌}
use native.Mathlib.Omega.{arith}
use borrow.Author.Tests.{eq-eqb}
use lib.IntN.{ℤ}
use lib.ListN.{length}
use Rattle.std.specs.Prelude.{Result}
use Rattle.blocks.specs.declared.refusal.Refusal.{Refusal}
use Rattle.blocks.specs.Scan.{scan, ends}
use Rattle.blocks.specs.Blocks.{Blocked}
use Rattle.sections.specs.Sections.{chain_answer, chain_next}
use Rattle.sections.proofs.Padded.{same-scan, same_ends}
use Rattle.wdf.specs.Calls.{sections_number, number, filter, answer, next}

module _ (n m : ℕ) (cs : List ℤ) where
  chain_scan : (zs xs : List ℤ) → scan (chain_answer n m cs) (chain_next n m cs) zs xs ≡ scan answer next (filter n m cs zs) xs
  chain_scan zs [] = refl
  chain_scan zs (x ∷ xs) = rw (chain_scan (chain_next n m cs zs x) xs)

  chain_ends : (zs xs : List ℤ) → filter n m cs (ends (chain_answer n m cs) (chain_next n m cs) zs xs) ≡ ends answer next (filter n m cs zs) xs
  chain_ends zs [] = refl
  chain_ends zs (x ∷ xs) = chain_ends (chain_next n m cs zs x) xs

-- a filter that is not refused and ran as l sections
pub ran_as : (l n m : ℕ) (cs zs xs ys w ws : List ℤ) (v : Result (Unit {0}) Refusal) → n ≤ l → l ≤ length zs
    → sections_number n m ≡ 0 → m / 16 ^ n ≡ 0 → length xs ≡ length ys
    → Blocked 0 (chain_answer l m cs) (chain_next l m cs) zs xs ys w v ws
    → Blocked (number (filter n m cs zs)) answer next (filter n m cs zs) xs ys (filter n m cs w) v ws
ran_as l n m cs zs xs ys w ws v h k z e s b =
    let f : n + (l - n) ≡ l = omega arith in
    let t = eq-eqb (length xs) (length ys) s in
    let r : n + (l - n) ≤ length zs = omega arith in
    record {
      verdict = rw z b.verdict;
      state = rw (t, z) (ap (filter n m cs) (rw t at b.state ∙ rw f at (same_ends n (l - n) m cs e zs xs r)) ∙ chain_ends n m cs zs xs);
      written = rw (t, z) (rw t at b.written ∙ rw f at (same-scan n (l - n) m cs e zs xs r) ∙ chain_scan n m cs zs xs);
    }
