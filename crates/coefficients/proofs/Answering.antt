-- A line's parts are found by its first tab; an answer's bytes are put together from their fields.
use native.Mathlib.Omega.{arith}
use mathlib.Core.Path.{◌≡◌, sym, ap, ◌∙◌}
use mathlib.Core.List.{List, [], ◌∷◌, ◌++◌, append_assoc}
use Prim.Native.Nat.{ℕ, ◌+◌, ◌-◌, ◌^◌, ◌≤◌, ◌<◌}
use lib.IntN.{ℤ}
use lib.ListN.{length, take, drop, length-append, length-drop, drop_of_length-le}
use lib.Seq.{take_all}
use mir.Syntax.{w32}
use mir.Val.{SFits}
use borrow.Author.Tests.{lt-ltb, le-ltb}
use Rattle.text.specs.Letters.{bytes, tab, newline}
use Rattle.text.specs.Numbers.{decimal_of, signed_of}
use Rattle.text.specs.Hex.{pattern_of}
use Rattle.text.specs.Parts.{before, end_of}
use Rattle.text.specs.Writing.{Wrote, Puts}
use Rattle.std.specs.Prelude as std
use Rattle.std.specs.Prelude.{Some, None}
use Rattle.text.proofs.Parting.{before-take}
use Rattle.text.proofs.Putting.{written, then_puts, wrote-same}
use Rattle.text.proofs.Spelling.{spelt-short, decimal_most, signed-most}
use Rattle.std.specs.Prelude.{ℤ, Result, Err}
use Rattle.blocks.specs.declared.refusal.Refusal.{Refusal}
use Rattle.coefficient_lines.specs.declared.adapter.Adapter.{Adapter}
use Rattle.coefficient_lines.specs.Lines.{adapter_of, pole_bits, line_bits, bits_line, refused_line}

module _ (l : List ℕ) where
  pub line-long : 64 < length l → ◌≡◌ {A = Result ℤ Refusal} (Err Refusal.LongLine) (line_bits l)
  unfolding line_bits
  line-long h = sym (rw (lt-ltb 64 (length l) h))

  module _ (e : ℕ) (short : length l ≤ 64) (found : e ≡ end_of tab l 0) where
    first : e ≡ length (before tab l)
    first = found ∙ omega arith

    named_part : take e l ≡ before tab l
    named_part = ap (λ (k : ℕ). take k l) first ∙ before-take tab l

    -- no tab: the name is the whole line
    pub line_untabbed : (named : Adapter) → length l ≤ e → named ≡ adapter_of (take e l) → pole_bits named None ≡ line_bits l
    unfolding line_bits
    line_untabbed named h n =
        let past : length l ≤ length (before tab l) + 1 = omega (arith, first) in
        let none : drop (length (before tab l) + 1) l ≡ [] = drop_of_length-le l past in
        rw (n, named_part) (sym (rw (le-ltb 64 (length l) short, none)))

    pub line_tabbed : (named : Adapter) (digits : std.Option ℕ) → e < length l → named ≡ adapter_of (take e l)
        → digits ≡ pattern_of (take (length l - (e + 1)) (drop (e + 1) l)) → pole_bits named digits ≡ line_bits l
    unfolding line_bits
    line_tabbed named digits h n d =
        let rest = drop (e + 1) l in
        let all : take (length l - (e + 1)) rest ≡ rest = take_all (length l - (e + 1)) rest (simp length-drop (omega arith)) in
        rw (n, d, all, named_part, first) (sym (rw (le-ltb 64 (length l) short)))

module _ (o : List ℕ) (at : ℕ) where
  pub bits-wrote : (v : ℤ) (a r : ℕ) (o₁ o₂ : List ℕ) → SFits w32 v → at + 36 ≤ length o
      → Puts o at (signed_of v) a o₁ → Puts o₁ a (newline ∷ []) r o₂ → Wrote o at (bits_line v) r o₂ × (r ≤ at + 12)
  unfolding bits_line
  bits-wrote v a r o₁ o₂ f h x y =
      let n = signed-most v f in
      let w₁ : Wrote o at (signed_of v) a o₁ = written o at (signed_of v) a o₁ (omega arith) x in
      let w₂ : Wrote o at (signed_of v ++ (newline ∷ [])) r o₂ = then_puts (omega arith) w₁ y in
      (w₂, omega (arith, w₂.next, length-append (signed_of v) (newline ∷ [])))

  pub refused-wrote : (line number a b c d r : ℕ) (o₁ o₂ o₃ o₄ o₅ : List ℕ) → number < 2 ^ 32 → at + 36 ≤ length o
      → Puts o at (bytes "bad\t") a o₁ → Puts o₁ a (decimal_of line) b o₂ → Puts o₂ b (tab ∷ []) c o₃
      → Puts o₃ c (decimal_of number) d o₄ → Puts o₄ d (newline ∷ []) r o₅
      → Wrote o at (refused_line line number) r o₅ × (r ≤ at + 36)
  unfolding refused_line
  refused-wrote line number a b c d r o₁ o₂ o₃ o₄ o₅ f h x y z u v =
      let k = spelt-short 20 line in
      let l = decimal_most number f in
      let p₂ : List ℕ = bytes "bad\t" ++ decimal_of line in
      let p₃ : List ℕ = p₂ ++ (tab ∷ []) in
      let n₃ : length p₃ ≡ length p₂ + 1 = length-append p₂ (tab ∷ []) in
      let p₄ : List ℕ = p₃ ++ decimal_of number in
      let n₄ : length p₄ ≡ length p₃ + length (decimal_of number) = length-append p₃ (decimal_of number) in
      let w₁ : Wrote o at (bytes "bad\t") a o₁ = written o at (bytes "bad\t") a o₁ (omega arith) x in
      let w₂ : Wrote o at p₂ b o₂ = then_puts (omega arith) w₁ y in
      let w₃ : Wrote o at p₃ c o₃ = then_puts (omega arith) w₂ z in
      let w₄ : Wrote o at p₄ d o₄ = then_puts (omega arith) w₃ u in
      let w₅ : Wrote o at (p₄ ++ (newline ∷ [])) r o₅ = then_puts (omega arith) w₄ v in
      (wrote-same (simp append_assoc) w₅, omega (arith, w₅.next, length-append p₄ (newline ∷ [])))
