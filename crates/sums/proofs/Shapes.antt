-- The shape of a machine: N integrators and N delay lines of M cells each. A step keeps it, either way.
use mathlib.Core.Path.{◌≡◌, refl, ap, ◌∙◌}
use mathlib.Core.List.{List, [], ◌∷◌}
use Prim.Native.Nat.{ℕ, zero, suc, ◌<◌}
use native.Mathlib.Omega.{arith}
use lib.ListN.{length, length-append}
use Rattle.sums.specs.Ops.{Ops}
use Rattle.sums.specs.Machine.{Machine, pushed, integrated, summed, less, combed, differed, decimated_at, decimated, interpolated_at}
use Rattle.sums.specs.Machine.{interpolated}

-- each line has M cells
abbrev pub Lines : {A : Type 0} → ℕ → List (List A) → Type 0
Lines M [] = Unit {0}
Lines M (line ∷ rest) = (length line ≡ M) × Lines M rest

pub record Shaped {A : Type 0} (N M : ℕ) (s : Machine A) : Type 0 where
  pub order : length s.integrators ≡ N
  pub lines_order : length s.lines ≡ N
  pub delay : Lines M s.lines

pub pushed-length : {A : Type 0} (l : List A) (x : A) → 0 < length l → length (pushed l x) ≡ length l
unfolding pushed
pushed-length [] x h = absurd (omega arith)
pushed-length (a ∷ l) x h = omega (arith, length-append l (x ∷ []))

module _ {A : Type 0} (o : Ops A) where
  pub integrated-length : (l : List A) (x : A) → length (integrated o l x) ≡ length l
  unfolding integrated
  integrated-length [] x = refl
  integrated-length (a ∷ l) x = ap suc (integrated-length l (o.add a x))

  pub combed-length : (ls : List (List A)) (x : A) → length (combed o ls x) ≡ length ls
  unfolding combed
  combed-length [] x = refl
  combed-length (l ∷ ls) x = ap suc (combed-length ls (less o l x))

  pub combed-lines : (M : ℕ) (ls : List (List A)) (x : A) → 0 < M → Lines M ls → Lines M (combed o ls x)
  unfolding combed
  combed-lines M [] x c h = tt
  combed-lines M (l ∷ ls) x c h = (pushed-length l x (omega (arith, h.0)) ∙ h.0, combed-lines M ls (less o l x) c h.1)

  module _ (N M : ℕ) (c : 0 < M) (s : Machine A) (x : A) (h : Shaped N M s) where
    decimated_at_shaped : (n : ℕ) → Shaped N M (decimated_at o s x n)
    unfolding decimated_at
    decimated_at_shaped zero = record {
      order = integrated-length s.integrators x ∙ h.order;
      lines_order = combed-length s.lines (summed o s.integrators x) ∙ h.lines_order;
      delay = combed-lines M s.lines (summed o s.integrators x) c h.delay;
    }
    decimated_at_shaped (suc n) =
        record { order = integrated-length s.integrators x ∙ h.order; lines_order = h.lines_order; delay = h.delay }

    pub decimated_shaped : Shaped N M (decimated o s x)
    unfolding decimated
    decimated_shaped = decimated_at_shaped s.countdown

    interpolated_at_shaped : (n : ℕ) → Shaped N M (interpolated_at o s x n)
    unfolding interpolated_at
    interpolated_at_shaped zero = record {
      order = integrated-length s.integrators (differed o s.lines x) ∙ h.order;
      lines_order = combed-length s.lines x ∙ h.lines_order;
      delay = combed-lines M s.lines x c h.delay;
    }
    interpolated_at_shaped (suc n) =
        record { order = integrated-length s.integrators s.hold ∙ h.order; lines_order = h.lines_order; delay = h.delay }

    pub interpolated_shaped : Shaped N M (interpolated o s x)
    unfolding interpolated
    interpolated_shaped = interpolated_at_shaped s.countdown
