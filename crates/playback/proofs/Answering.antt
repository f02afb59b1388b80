-- The output's lines: how long they are, and that they are put together from their fields.
use native.Mathlib.Omega.{arith}
use mathlib.Core.Path.{◌≡◌, refl, sym, ap, ◌∙◌}
use mathlib.Core.List.{List, [], ◌∷◌, ◌++◌}
use Prim.Native.Nat.{ℕ, ◌+◌, ◌^◌, ◌≤◌, ◌<◌}
use lib.IntN.{ℤ}
use lib.ListN.{length, drop, length-append}
use mir.Syntax.{w64}
use mir.Val.{SFits}
use borrow.Author.Tests.{lt-ltb, le-ltb}
use Rattle.text.specs.Letters.{bytes, tab, newline}
use Rattle.text.specs.Numbers.{spelt, decimal_of, signed_of}
use Rattle.text.specs.Writing.{overlaid, Wrote, Puts}
use Rattle.text.proofs.Putting.{written, then, then_puts}
use Rattle.text.proofs.Spelling.{spelt-short, spelt-most, decimal_most, signed_most64}
use Rattle.playback.specs.Replays.{last_field, output_line, end_line, bad_line}
use Rattle.playback.specs.Places as Places
use Rattle.playback.specs.Places.{front_written, answer_number}
use Rattle.std.specs.Prelude.{Result, Ok, Err}
use Rattle.blocks.specs.declared.refusal.Refusal.{Refusal}
use Rattle.blocks.specs.Refusals.{answer, refusal_at}

pub short : (n : ℕ) → length (decimal_of n) ≤ 20
short n = spelt-short 20 n

-- a place is a byte, of at most 3 digits
pub place-most : (n : ℕ) → n < 256 → length (decimal_of n) ≤ 3
place-most n h = spelt-most 2 20 n (omega arith)

module _ (o : List ℕ) (at : ℕ) where
  -- an output that tells 0, and one that tells more
  pub settled_wrote : (v : ℤ) (told a b r : ℕ) (o₁ o₂ o₃ : List ℕ) → SFits w64 v → told ≡ 0 → at + 24 + length (decimal_of told) ≤ length o
      → Puts o at (bytes "y\t") a o₁ → Puts o₁ a (signed_of v) b o₂ → Puts o₂ b (bytes "\t0\n") r o₃
      → Wrote o at (output_line v told) r o₃ × (r ≤ at + 24 + length (decimal_of told))
  unfolding output_line spelt
  settled_wrote v told a b r o₁ o₂ o₃ f e h x y z =
      let n = signed_most64 v f in
      let d : length (decimal_of told) ≡ 1 = ap (λ (k : ℕ). length (decimal_of k)) e in
      let w₁ : Wrote o at (bytes "y\t") a o₁ = written o at (bytes "y\t") a o₁ (omega arith) x in
      let w₂ : Wrote o at (bytes "y\t" ++ signed_of v) b o₂ = then_puts (omega arith) w₁ y in
      let w₃ : Wrote o at (bytes "y\t" ++ (signed_of v ++ bytes "\t0\n")) r o₃ = then_puts (omega arith) w₂ z in
      (rw e w₃, omega (arith, w₃.next, length-append (signed_of v) (bytes "\t0\n")))

  pub zero-wrote : (v : ℤ) (a b r : ℕ) (o₁ o₂ o₃ : List ℕ) → SFits w64 v → at + 25 ≤ length o
      → Puts o at (bytes "y\t") a o₁ → Puts o₁ a (signed_of v) b o₂ → Puts o₂ b (bytes "\t0\n") r o₃
      → Wrote o at (output_line v 0) r o₃ × (r ≤ at + 25)
  unfolding spelt
  zero-wrote v a b r o₁ o₂ o₃ f h x y z =
      let d : length (decimal_of 0) ≡ 1 = refl in
      let w = settled_wrote v 0 a b r o₁ o₂ o₃ f refl (omega (arith, h, d)) x y z in
      (w.0, omega (arith, w.1, d))

  pub last-wrote : (n a b r : ℕ) (o₁ o₂ o₃ : List ℕ) → at + 2 + length (decimal_of n) ≤ length o
      → Puts o at (tab ∷ []) a o₁ → Puts o₁ a (decimal_of n) b o₂ → Puts o₂ b (newline ∷ []) r o₃ → Wrote o at (last_field n) r o₃
  last-wrote n a b r o₁ o₂ o₃ h x y z =
      let w₁ : Wrote o at (tab ∷ []) a o₁ = written o at (tab ∷ []) a o₁ (omega arith) x in
      let w₂ : Wrote o at ((tab ∷ []) ++ decimal_of n) b o₂ = then_puts (omega arith) w₁ y in
      then_puts (omega arith) w₂ z

  pub output-wrote : (v : ℤ) (told a b r : ℕ) (o₁ o₂ o₃ : List ℕ) → SFits w64 v → at + 24 + length (decimal_of told) ≤ length o
      → Puts o at (bytes "y\t") a o₁ → Puts o₁ a (signed_of v) b o₂ → Wrote o₂ b (last_field told) r o₃
      → Wrote o at (output_line v told) r o₃ × (r ≤ at + 24 + length (decimal_of told))
  unfolding output_line
  output-wrote v told a b r o₁ o₂ o₃ f h x y z =
      let n = signed_most64 v f in
      let w₁ : Wrote o at (bytes "y\t") a o₁ = written o at (bytes "y\t") a o₁ (omega arith) x in
      let w₂ : Wrote o at (bytes "y\t" ++ signed_of v) b o₂ = then_puts (omega arith) w₁ y in
      let w₃ : Wrote o at (bytes "y\t" ++ (signed_of v ++ last_field told)) r o₃ = then (omega arith) w₂ z in
      (w₃, omega (arith, w₃.next, length-append (signed_of v) (last_field told), length-append (decimal_of told) (newline ∷ [])))

  -- where the part before the last field ends
  pub field_place : (v : ℤ) (a b : ℕ) (o₁ o₂ : List ℕ) → SFits w64 v → at + 24 ≤ length o → Puts o at (bytes "y\t") a o₁
      → Puts o₁ a (signed_of v) b o₂ → b ≤ at + 22
  field_place v a b o₁ o₂ f h x y =
      let n = signed_most64 v f in
      let w₁ : Wrote o at (bytes "y\t") a o₁ = written o at (bytes "y\t") a o₁ (omega arith) x in
      let w₂ : Wrote o at (bytes "y\t" ++ signed_of v) b o₂ = then_puts (omega arith) w₁ y in
      omega (arith, w₂.next)

  pub end_wrote : (n a b r : ℕ) (o₁ o₂ o₃ : List ℕ) → at + 36 ≤ length o
      → Puts o at (bytes "end\t") a o₁ → Puts o₁ a (decimal_of n) b o₂ → Puts o₂ b (newline ∷ []) r o₃ → Wrote o at (end_line n) r o₃
      × (r ≤ at + 36)
  unfolding end_line
  end_wrote n a b r o₁ o₂ o₃ h x y z =
      let k = short n in
      let w₁ : Wrote o at (bytes "end\t") a o₁ = written o at (bytes "end\t") a o₁ (omega arith) x in
      let w₂ : Wrote o at (bytes "end\t" ++ decimal_of n) b o₂ = then_puts (omega arith) w₁ y in
      let w₃ : Wrote o at (bytes "end\t" ++ (decimal_of n ++ (newline ∷ []))) r o₃ = then_puts (omega arith) w₂ z in
      (w₃, omega (arith, w₃.next, length-append (decimal_of n) (newline ∷ [])))

  -- a refusal: its line, then its number and place
  pub number-wrote : (number place a b r : ℕ) (o₁ o₂ o₃ : List ℕ) → number < 2 ^ 32 → place < 256 → at + 16 ≤ length o
      → Puts o at (tab ∷ []) a o₁ → Puts o₁ a (decimal_of number) b o₂ → Wrote o₂ b (last_field place) r o₃
      → Wrote o at (tab ∷ (decimal_of number ++ last_field place)) r o₃
  number-wrote number place a b r o₁ o₂ o₃ f g h x y z =
      let k = decimal_most number f in
      let l = place-most place g in
      let w₁ : Wrote o at (tab ∷ []) a o₁ = written o at (tab ∷ []) a o₁ (omega arith) x in
      let w₂ : Wrote o at ((tab ∷ []) ++ decimal_of number) b o₂ = then_puts (omega arith) w₁ y in
      then (omega arith) w₂ z

  pub number-place : (number a b : ℕ) (o₁ o₂ : List ℕ) → number < 2 ^ 32 → at + 16 ≤ length o → Puts o at (tab ∷ []) a o₁
      → Puts o₁ a (decimal_of number) b o₂ → b ≤ at + 11
  number-place number a b o₁ o₂ f h x y =
      let k = decimal_most number f in
      let w₁ : Wrote o at (tab ∷ []) a o₁ = written o at (tab ∷ []) a o₁ (omega arith) x in
      let w₂ : Wrote o at ((tab ∷ []) ++ decimal_of number) b o₂ = then_puts (omega arith) w₁ y in
      omega (arith, w₂.next)

  pub bad_wrote : (line number place a b r : ℕ) (o₁ o₂ o₃ : List ℕ) → number < 2 ^ 32 → place < 256 → at + 40 ≤ length o
      → Puts o at (bytes "bad\t") a o₁ → Puts o₁ a (decimal_of line) b o₂ → Wrote o₂ b (tab ∷ (decimal_of number ++ last_field place)) r o₃
      → Wrote o at (bad_line line number place) r o₃ × (r ≤ at + 40)
  unfolding bad_line
  bad_wrote line number place a b r o₁ o₂ o₃ f g h x y z =
      let k = short line in
      let l = decimal_most number f in
      let m = place-most place g in
      let t : List ℕ = tab ∷ (decimal_of number ++ last_field place) in
      let n : length t ≡ 1 + (length (decimal_of number) + (1 + (length (decimal_of place) + 1))) = omega
      (arith, length-append (decimal_of number) (last_field place), length-append (decimal_of place) (newline ∷ [])) in
      let w₁ : Wrote o at (bytes "bad\t") a o₁ = written o at (bytes "bad\t") a o₁ (omega arith) x in
      let w₂ : Wrote o at (bytes "bad\t" ++ decimal_of line) b o₂ = then_puts (omega arith) w₁ y in
      let w₃ : Wrote o at (bytes "bad\t" ++ (decimal_of line ++ t)) r o₃ = then (omega arith) w₂ z in
      (w₃, omega (arith, w₃.next, n, length-append (decimal_of line) t))

  pub bad_place : (line a b : ℕ) (o₁ o₂ : List ℕ) → at + 40 ≤ length o → Puts o at (bytes "bad\t") a o₁ → Puts o₁ a (decimal_of line) b o₂
      → b ≤ at + 24
  bad_place line a b o₁ o₂ h x y =
      let k = short line in
      let w₁ : Wrote o at (bytes "bad\t") a o₁ = written o at (bytes "bad\t") a o₁ (omega arith) x in
      let w₂ : Wrote o at (bytes "bad\t" ++ decimal_of line) b o₂ = then_puts (omega arith) w₁ y in
      omega (arith, w₂.next)

-- at the front of a slice
pub front : (o bs o' : List ℕ) (r : ℕ) → Wrote o 0 bs r o' → (r ≡ length bs) × (o' ≡ bs ++ drop (length bs) o)
unfolding overlaid
front o bs o' r w = (w.next ∙ omega arith, w.text ∙ rw (zero-add (length bs)))
  where
    zero-add : (n : ℕ) → 0 + n ≡ n
    zero-add n = omega arith

module _ (number : ℕ) (bs o : List ℕ) where
  pub refused_20 : number ≡ 20 → (◌≡◌ {A = Result ℕ Refusal} (Err Refusal.ShortOutput) (Places.written number bs))
      × (o ≡ front_written number bs o)
  unfolding answer refusal_at
  refused_20 e = (sym (rw e), sym (rw e))

  pub done : (o' : List ℕ) (r : ℕ) → number ≡ 0 → Wrote o 0 bs r o'
      → (◌≡◌ {A = Result ℕ Refusal} (Ok r) (Places.written number bs)) × (o' ≡ front_written number bs o)
  unfolding answer
  done o' r e w =
      let f = front o bs o' r w in
      (ap Ok f.0 ∙ sym (rw e), f.1 ∙ sym (rw e))

pub answer-short : (o : List ℕ) → length o < 44 → answer_number o ≡ 20
answer-short o h = rw (lt-ltb _ _ h)

pub answer-fits : (o : List ℕ) → 44 ≤ length o → answer_number o ≡ 0
answer-fits o h = rw (le-ltb _ _ h)
