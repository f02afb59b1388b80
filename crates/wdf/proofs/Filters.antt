-- What a filter's answers rest on: its sections alone; and a block is its steps in turn.
use mathlib.Core.Path.{◌≡◌, refl, sym, ap, ◌∙◌}
use mathlib.Core.List.{List, [], ◌∷◌, map}
use Prim.Native.Nat.{ℕ, zero, suc}
use native.Mathlib.Omega.{arith}
use borrow.Author.Tests.{eq-eqb}
use lib.IntN.{ℤ, pos}
use lib.ListN.{length, take, drop}
use lib.Seq.{take-nil, get_or-take, take_at, drop_at}
use Rattle.std.specs.Prelude.{Result, Ok}
use Rattle.blocks.specs.declared.refusal.Refusal.{Refusal}
use Rattle.blocks.specs.Scan.{scan, ends}
use Rattle.blocks.specs.Blocks.{lengths_number, Blocked}
use Rattle.wdf.specs.declared.filter.Wdf.{Wdf}
use Rattle.sections.specs.Sections.{Section, sections_of, Passed, passed}
use Rattle.wdf.specs.Calls.{number, filter, run, answer, next, stepped}
use Rattle.sections.proofs.Padded.{sections-length, cells-length}
use Rattle.wdf.proofs.Steps.{gives}

-- 01: no sections, the input is the answer; nothing changes
pub no_sections : (m : ℕ) (cs zs : List ℤ) (x : ℤ) → (answer (filter 0 m cs zs) x ≡ x) × (next (filter 0 m cs zs) x ≡ filter 0 m cs zs)
unfolding sections_of passed
no_sections m cs zs x = (refl, refl)

run_length : (s : Wdf) (x : ℤ) → length (run s x).cells ≡ s.sections
run_length s x =
    cells-length (sections_of s.sections s.architecture s.a s.z) x
    ∙ sections-length s.sections s.architecture s.a s.z

-- the cells beyond the sections stay
pub beyond_stays : (s : Wdf) (x : ℤ) → drop s.sections (next s x).z ≡ drop s.sections s.z
beyond_stays s x = drop_at (run s x).cells (drop s.sections s.z) s.sections (run_length s x)

drop-take : (n : ℕ) (l : List ℤ) → drop 1 (take (suc n) l) ≡ take n (drop 1 l)
drop-take n [] = sym (take-nil n)
drop-take n (c ∷ l) = refl

-- n sections are made of the first n coefficients and cells
front : (n m : ℕ) (cs zs : List ℤ) → sections_of n m (take n cs) (take n zs) ≡ sections_of n m cs zs
unfolding sections_of
front zero m cs zs = refl
front (suc n) m cs zs =
    rw (
      get_or-take (suc n) cs 0 (pos 0) (omega arith),
      get_or-take (suc n) zs 0 (pos 0) (omega arith),
      drop-take n cs,
      drop-take n zs,
      front n,
    )

-- two filters that have the same sections
pub record Alike (s t : Wdf) : Type 0 where
  pub sections : s.sections ≡ t.sections
  pub architecture : s.architecture ≡ t.architecture
  pub coefficients : take s.sections s.a ≡ take s.sections t.a
  pub cells : take s.sections s.z ≡ take s.sections t.z

module _ (s t : Wdf) (h : Alike s t) (x : ℤ) where
  alike-run : run s x ≡ run t x
  alike-run =
      let f = rw (h.coefficients, h.cells) at (front s.sections s.architecture s.a s.z) in
      let g = front s.sections s.architecture t.a t.z in
      ap (λ (l : List Section). passed l x) (rw (← h.sections, ← h.architecture) (sym f ∙ g))

  pub alike-answer : answer s x ≡ answer t x
  alike-answer = ap (λ (r : Passed). r.back) alike-run

  pub alike_next : Alike (next s x) (next t x)
  alike_next = record {
    sections = h.sections;
    architecture = h.architecture;
    coefficients = h.coefficients;
    cells = take_at (run s x).cells (drop s.sections s.z) s.sections (run_length s x)
        ∙ ap (λ (r : Passed). r.cells) alike-run
        ∙ sym (take_at (run t x).cells (drop t.sections t.z) s.sections (run_length t x ∙ sym h.sections));
  }

-- cells and coefficients beyond the sections never reach an answer
pub alike-scan : (s t : Wdf) → Alike s t → (xs : List ℤ) → scan answer next s xs ≡ scan answer next t xs
alike-scan s t h [] = refl
alike-scan s t h (x ∷ xs) = rw (alike-answer s t h x, alike-scan (next s x) (next t x) (alike_next s t h x) xs)

-- a step's output and state, to be run in turn
abbrev pub step_out : Wdf → ℤ → Result ℤ Refusal
step_out s x = (stepped s x).out

abbrev pub step_state : Wdf → ℤ → Wdf
step_state s x = (stepped s x).state

abbrev pub given : ℤ → Result ℤ Refusal
given y = Ok y

module _ (s : Wdf) (e : number s ≡ 0) where
  step-out : (x : ℤ) → step_out s x ≡ given (answer s x)
  step-out x = sym (gives s x e).1

  step-state : (x : ℤ) → step_state s x ≡ next s x
  step-state x = sym (gives s x e).0

steps_out : (s : Wdf) (xs : List ℤ) → number s ≡ 0 → scan step_out step_state s xs ≡ map given (scan answer next s xs)
steps_out s [] e = refl
steps_out s (x ∷ xs) e = rw (step-out s e x, step-state s e x, steps_out (next s x) xs e)

steps_state : (s : Wdf) (xs : List ℤ) → number s ≡ 0 → ends step_out step_state s xs ≡ ends answer next s xs
steps_state s [] e = refl
steps_state s (x ∷ xs) e = rw (step-state s e x) (steps_state (next s x) xs e)

-- a block gives what its steps in turn would give
pub block_steps : (s : Wdf) (xs ys : List ℤ) (t : Wdf) (v : Result (Unit {0}) Refusal) (zs : List ℤ) → number s ≡ 0 → length xs ≡ length ys
    → Blocked (number s) answer next s xs ys t v zs
    → (map given zs ≡ scan step_out step_state s xs) × (t ≡ ends step_out step_state s xs)
block_steps s xs ys t v zs e l b =
    let k : lengths_number (number s) xs ys ≡ 0 = rw (eq-eqb (length xs) (length ys) l) e in
    (ap (map given) (rw k at b.written) ∙ sym (steps_out s xs e), rw k at b.state ∙ sym (steps_state s xs e))
