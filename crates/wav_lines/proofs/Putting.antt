-- A line is put together from its fields, and lines stand one behind the other.
use native.Mathlib.Omega.{arith}
use native.Mathlib.Numerals.{add-one}
use mathlib.Core.Path.{◌≡◌, sym, ap, ◌∙◌}
use mathlib.Core.List.{List, [], ◌∷◌, ◌++◌, append_assoc, append-nil}
use Prim.Native.Nat.{ℕ, ◌+◌, ◌*◌, ◌/◌, ◌≤◌, ◌<◌}
use lib.IntN.{ℤ, pos}
use lib.ListN.{length, take, drop, get_or, length-append}
use lib.Seq.{take-suc, take_all}
use mir.Syntax.{w32}
use mir.Val.{SFits}
use borrow.Author.Tests.{le-leb}
use Rattle.text.specs.Numbers.{signed_of}
use Rattle.text.specs.Writing.{Wrote, Puts}
use Rattle.text.proofs.Putting.{written, then, then_puts, wrote-same}
use Rattle.text.proofs.Spelling.{signed-most}
use Rattle.wav.proofs.Headers.{put_front}
use Rattle.wav_lines.specs.Lines.{input_line, input_lines, lines_number}

pub line_wrote : (o : List ℕ) (at : ℕ) (v : ℤ) (a b r : ℕ) (o₁ o₂ o₃ : List ℕ) → SFits w32 v → at + 14 ≤ length o
    → Puts o at (120 ∷ 9 ∷ []) a o₁ → Puts o₁ a (signed_of v) b o₂ → Puts o₂ b (10 ∷ []) r o₃
    → Wrote o at (input_line v) r o₃ × (r ≤ at + 14)
unfolding input_line
line_wrote o at v a b r o₁ o₂ o₃ f h x y z =
    let n = signed-most v f in
    let w₁ : Wrote o at (120 ∷ 9 ∷ []) a o₁ = written o at (120 ∷ 9 ∷ []) a o₁ (omega arith) x in
    let w₂ : Wrote o at (120 ∷ 9 ∷ signed_of v) b o₂ = then_puts (omega arith) w₁ y in
    let w₃ : Wrote o at (120 ∷ 9 ∷ (signed_of v ++ (10 ∷ []))) r o₃ = then_puts (omega arith) w₂ z in
    (w₃, omega (arith, w₃.next, length-append (signed_of v) (10 ∷ [])))

lines-append : (xs : List ℤ) (x : ℤ) → input_lines xs ++ input_line x ≡ input_lines (xs ++ (x ∷ []))
lines-append [] x = sym (append-nil (input_line x))
lines-append (y ∷ xs) x =
    append_assoc (input_line y) (input_lines xs) (input_line x) ∙ ap (λ (l : List ℕ). input_line y ++ l) (lines-append xs x)

-- one line more
pub lines_on : (o o₁ o₂ : List ℕ) (xs : List ℤ) (i at r : ℕ) → i < length xs → Wrote o 0 (input_lines (take i xs)) at o₁
    → Wrote o₁ at (input_line (get_or xs i (pos 0))) r o₂ → Wrote o 0 (input_lines (take (i + 1) xs)) r o₂
lines_on o o₁ o₂ xs i at r h w v =
    let t : take (i + 1) xs ≡ take i xs ++ (get_or xs i (pos 0) ∷ []) = rw add-one (take-suc xs i (pos 0) h) in
    wrote-same (lines-append (take i xs) (get_or xs i (pos 0)) ∙ ap input_lines (sym t)) (then (omega arith) w v)

pub lines_done : (o o₁ : List ℕ) (xs : List ℤ) (i at : ℕ) → length xs ≤ i → Wrote o 0 (input_lines (take i xs)) at o₁
    → Wrote o 0 (input_lines xs) at o₁
lines_done o o₁ xs i at h w = wrote-same (ap input_lines (take_all i xs h)) w

-- the call's number, and what stands in the slice
module _ (xs : List ℤ) (out : List ℕ) where
  pub lines_none : length xs ≤ length out / 14 → lines_number xs out ≡ 0
  unfolding lines_number
  lines_none h = rw (le-leb (14 * length xs) (length out) (omega arith))

pub wrote_front : (o o₁ bs : List ℕ) (r : ℕ) → Wrote o 0 bs r o₁ → (r ≡ length bs) × (o₁ ≡ bs ++ drop (length bs) o)
wrote_front o o₁ bs r w = (omega (arith, w.next), w.text ∙ put_front o bs)
