-- A sum is its quotient's turns of 2 ^ F and what is left; the quotient counts modulo 2 ^ 32, so the sum modulo 2 ^ (32 + F).
use mathlib.Core.Path.{◌≡◌, refl, sym, ap, ◌∙◌}
use mathlib.Core.List.{[], ◌∷◌}
use Prim.Native.Nat.{ℕ, ◌+◌, ◌-◌, ◌*◌, ◌/◌, ◌%◌, ◌^◌, ◌<◌}
use lib.Pow.{pow_pos, pow-add}
use lib.IntN.{ℤ, pos, ◌+ℤ◌, ◌*ℤ◌}
use mir.Syntax.{w32}
use Rattle.words.specs.Words as W
use Rattle.words.specs.Words.{mod_ℤ, word, wrap, floor_div}
use Rattle.words.proofs.Remainders.{is, rep_mod, rep_to, rep_add, rep_scaled}
use Rattle.words.proofs.Floors.{floor_rest}
use Rattle.words.proofs.Reading.{mod_below, word-wrap}
use Rattle.biquad_fixed.specs.declared.coefficients.Biquad.{Biquad}
use Rattle.biquad_fixed.specs.declared.coefficients.BiquadClamp.{BiquadClamp}
use Rattle.biquad_fixed.specs.declared.wide.DirectForm1Wide.{DirectForm1Wide}
use Rattle.biquad_fixed.specs.Forms.{wide_sum, wide_out, wide_next, wide_held, wide_onward, dither_sum, dither_next, dither_onward}
use Rattle.biquad_fixed.specs.Answers.{fraction_number}
use Rattle.dither_error.specs.Keeping.{DitherKept, ClampKept, BlockBelow, ClampBlockBelow}
use Rattle.biquad_fixed.proofs.Halves.{high_is, low_stays}
use Rattle.biquad_fixed.proofs.Shifts.{output, rest, error}

-- k turns of 2 ^ f and r, k counted modulo 2 ^ 32
turned : (f r : ℕ) (k : ℤ) → (word w32 k * 2 ^ f + r) % (2 ^ 32 * 2 ^ f) ≡ mod_ℤ (k *ℤ pos (2 ^ f) +ℤ pos r) (2 ^ 32 * 2 ^ f)
unfolding W.word
turned f r k =
    let m = 2 ^ 32 * 2 ^ f in
    let h : 0 < m = rw (sym (pow-add 2 32 f)) (pow_pos (32 + f)) in
    rep_to m h (k *ℤ pos (2 ^ f) +ℤ pos r) (word w32 k * 2 ^ f + r)
    (rep_add m h (k *ℤ pos (2 ^ f)) (pos r) (word w32 k * 2 ^ f) r (rep_scaled (2 ^ 32) (2 ^ f) h k (word w32 k) (rep_mod (2 ^ 32) (pow_pos 32) k))
    (is refl))

-- z = y 2 ^ f + e modulo 2 ^ (32 + f)
kept : (f : ℕ) (z : ℤ)
    → mod_ℤ z (2 ^ (32 + f)) ≡ mod_ℤ (wrap w32 (floor_div z (2 ^ f)) *ℤ pos (2 ^ f) +ℤ pos (mod_ℤ z (2 ^ f))) (2 ^ (32 + f))
kept f z =
    let q = floor_div z (2 ^ f) in
    let r = mod_ℤ z (2 ^ f) in
    rw (pow-add 2 32 f)
    (ap (λ (u : ℤ). mod_ℤ u (2 ^ 32 * 2 ^ f)) (sym (floor_rest z (2 ^ f) (pow_pos f)))
    ∙ sym (turned f r q)
    ∙ ap (λ (n : ℕ). (n * 2 ^ f + r) % (2 ^ 32 * 2 ^ f)) (sym (word-wrap w32 q))
    ∙ turned f r (wrap w32 q))

pub dither_kept : DitherKept
dither_kept c s x = record {
  sum = kept c.f (dither_sum c s x);
  below = mod_below (dither_sum c s x) (2 ^ c.f) (pow_pos c.f);
}

-- offset and clamp come after: they leave the error
pub clamp-kept : ClampKept
clamp-kept c s x = let k = dither_kept c.coeff s x in record { sum = k.sum; below = k.below }

-- a block ends with a step, or where it began
pub block-below : BlockBelow
block-below c s [] h = h
block-below c s (x ∷ xs) h = block-below c (dither_next c s x) xs (dither_kept c s x).below

pub clamp-block-below : ClampBlockBelow
clamp-block-below c s [] h = h
clamp-block-below c s (x ∷ xs) h = clamp-block-below c (dither_onward c s x) xs (clamp-kept c s x).below

-- wide: the low word that is kept is the sum's F bits below the output, at its top; with the output they make up the sum
module _ (c : Biquad) (ok : fraction_number 0 c ≡ 0) (s : DirectForm1Wide) (x : ℤ) where
  pub wide_low : word w32 (wide_next c s x).y1 ≡ mod_ℤ (wide_sum c s x) (2 ^ c.f) * 2 ^ (32 - c.f)
  wide_low = rest 0 c ok (wide_sum c s x)

  pub wide_kept : mod_ℤ (wide_sum c s x) (2 ^ (32 + c.f))
      ≡ mod_ℤ (wide_out c s x *ℤ pos (2 ^ c.f) +ℤ pos (word w32 (wide_next c s x).y1 / 2 ^ (32 - c.f))) (2 ^ (32 + c.f))
  wide_kept = rw (output 0 c ok (wide_sum c s x), error 0 c ok (wide_sum c s x)) (kept c.f (wide_sum c s x))

-- wide, clamped: the state's high word is the output, and its low word stays as it was before offset and clamp
module _ (c : BiquadClamp) (s : DirectForm1Wide) (x : ℤ) where
  pub wide_held_law : floor_div (wide_onward c s x).y1 (2 ^ 32) ≡ wide_held c s x
  wide_held_law = high_is (wide_next c.coeff s x).y1 (wide_held c s x)

  pub wide_stays : word w32 (wide_onward c s x).y1 ≡ word w32 (wide_next c.coeff s x).y1
  wide_stays = low_stays (wide_next c.coeff s x).y1 (wide_held c s x)
