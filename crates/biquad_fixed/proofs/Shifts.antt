-- The code's shifts by what they mean, once over the fraction bits f with g = 32 - f: a sum moved g bits up has its quotient by 2 ^ f in
-- its high word and its remainder, moved g bits up, in its low word.
use mathlib.Core.Path.{◌≡◌, refl, sym, ap, ◌∙◌}
use Prim.Native.Nat.{ℕ, ◌+◌, ◌-◌, ◌*◌, ◌/◌, ◌^◌, ◌<◌}
use native.Mathlib.Nat.{mul-div_left, mul-lt-mul_of_pos_right}
use native.Mathlib.Omega.{arith}
use lib.Pow.{pow_pos, pow-add}
use lib.IntN.{ℤ, pos, ◌+ℤ◌, ◌*ℤ◌}
use mir.Syntax.{w32, w64}
use Rattle.words.specs.Words as W
use Rattle.words.specs.Words.{mod_ℤ, word, wrap, floor_div}
use Rattle.words.proofs.Products.{spread, group}
use Rattle.words.proofs.Floors.{floor_rest, floor_is, mod_high, mod_scaled}
use Rattle.words.proofs.Reading.{mod_below, word_narrow, word-wrap, wrap-fits}
use Rattle.words.proofs.Sizes.{high_fits}
use Rattle.words.proofs.Sums.{same_is}
use Rattle.biquad_fixed.specs.declared.coefficients.Biquad.{Biquad}
use Rattle.biquad_fixed.specs.Forms.{aligned}
use Rattle.biquad_fixed.specs.Answers.{fraction_number}
use Rattle.biquad_fixed.proofs.Numbers.{in_range_law}

-- the two words of a wrapped number
low_word : (z : ℤ) → word w32 (wrap w64 z) ≡ word w32 z
low_word z =
    sym (word_narrow w32 w64 32 (wrap w64 z) refl) ∙ ap (λ (n : ℕ). word w32 (pos n)) (word-wrap w64 z) ∙ word_narrow w32 w64 32 z refl

word-high : (z : ℤ) → word w32 (floor_div z (2 ^ 32)) ≡ word w64 z / 2 ^ 32
unfolding W.word
word-high z = sym (mod_high (2 ^ 32) (2 ^ 32) (pow_pos 32) (pow_pos 32) z)

high_word : (z : ℤ) → floor_div (wrap w64 z) (2 ^ 32) ≡ wrap w32 (floor_div z (2 ^ 32))
high_word z =
    same_is
    (record {
      same = word-high (wrap w64 z) ∙ ap (λ (n : ℕ). n / 2 ^ 32) (word-wrap w64 z) ∙ sym (word-high z) ∙ sym (word-wrap w32 (floor_div z (2 ^ 32)));
    })
    (high_fits (wrap w64 z) (wrap-fits w64 z)) (wrap-fits w32 (floor_div z (2 ^ 32)))

module _ (f g : ℕ) (all : f + g ≡ 32) (z : ℤ) where
  word_parts : 2 ^ 32 ≡ 2 ^ f * 2 ^ g
  word_parts = ap (λ (n : ℕ). 2 ^ n) (sym all) ∙ pow-add 2 f g

  low_is : word w32 (wrap w64 (z *ℤ pos (2 ^ g))) ≡ mod_ℤ z (2 ^ f) * 2 ^ g
  unfolding W.word
  low_is = low_word (z *ℤ pos (2 ^ g)) ∙ ap (mod_ℤ (z *ℤ pos (2 ^ g))) word_parts ∙ mod_scaled z (2 ^ f) (2 ^ g) (pow_pos f) (pow_pos g)

  quotient : floor_div (z *ℤ pos (2 ^ g)) (2 ^ 32) ≡ floor_div z (2 ^ f)
  quotient =
      let q = floor_div z (2 ^ f) in
      let r = mod_ℤ z (2 ^ f) in
      let small : r * 2 ^ g < 2 ^ 32 = rw word_parts (mul-lt-mul_of_pos_right (mod_below z (2 ^ f) (pow_pos f)) (pow_pos g)) in
      let moved : z *ℤ pos (2 ^ g) ≡ q *ℤ pos (2 ^ 32) +ℤ pos (r * 2 ^ g) =
      ap (λ (u : ℤ). u *ℤ pos (2 ^ g)) (sym (floor_rest z (2 ^ f) (pow_pos f)))
      ∙ spread (pos r) (pos (2 ^ g)) (q *ℤ pos (2 ^ f))
      ∙ ap (λ (u : ℤ). u +ℤ pos (r * 2 ^ g)) (group (pos (2 ^ f)) (pos (2 ^ g)) q ∙ ap (λ (n : ℕ). q *ℤ pos n) (sym word_parts)) in
      ap (λ (u : ℤ). floor_div u (2 ^ 32)) moved ∙ floor_is q (r * 2 ^ g) (2 ^ 32) small

  high_is : floor_div (wrap w64 (z *ℤ pos (2 ^ g))) (2 ^ 32) ≡ wrap w32 (floor_div z (2 ^ f))
  high_is = high_word (z *ℤ pos (2 ^ g)) ∙ ap (wrap w32) quotient

-- of an accepted filter, whose fraction bits and shift make up a word
module _ (least : ℕ) (c : Biquad) (ok : fraction_number least c ≡ 0) (sum : ℤ) where
  together : c.f + (32 - c.f) ≡ 32
  together = let h = in_range_law least c ok in omega arith

  pub output : floor_div (aligned c sum) (2 ^ 32) ≡ wrap w32 (floor_div sum (2 ^ c.f))
  output = high_is c.f (32 - c.f) together sum

  pub rest : word w32 (aligned c sum) ≡ mod_ℤ sum (2 ^ c.f) * 2 ^ (32 - c.f)
  rest = low_is c.f (32 - c.f) together sum

  -- moved back down
  pub error : word w32 (aligned c sum) / 2 ^ (32 - c.f) ≡ mod_ℤ sum (2 ^ c.f)
  error = ap (λ (n : ℕ). n / 2 ^ (32 - c.f)) rest ∙ mul-div_left (mod_ℤ sum (2 ^ c.f)) (pow_pos (32 - c.f))
