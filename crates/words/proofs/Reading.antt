-- Reading and writing words, over the width: bits and numbers, and that a number in range is its own word.
use Rattle.std.proofs.Common.{◌≡◌, ℕ, suc, ◌+◌, ◌-◌, ◌*◌, ◌^◌, ◌<◌, Bool, true, false, T, ℤ, pos, negsuc, nat_abs, sym, ap, ◌∙◌, subst, true≢false, mod-lt, mod-eq_of_lt, arith, pow_pos, pow-add, Fits, SFits, to_z, of_z, ltb-true}
use lib.Signed.{mag, lt_z, non_neg}
use mir.Syntax.{Width}
use mir.Val.{bits, hbits}
use mir.ValLaws.{to_z-of_z, to_z_pos, half_full, of_z-to_z, to_z-Fits}
use Rattle.words.specs.Words.{mod_ℤ, word, wrap}
use Rattle.words.proofs.Remainders.{rep_mod, rep_to, rep_narrow}

-- a signed number, as a caller reads it back from its bits
pub read : (w : Width) (z : ℤ) → mag z < 2 ^ hbits w → to_z w (of_z w z) ≡ z
read w z h = to_z-of_z w z (record { sfits = h })

-- a remainder is below what it is taken by
pub mod_below : (z : ℤ) (m : ℕ) → 0 < m → mod_ℤ z m < m
mod_below (pos n) m h = mod-lt n h
mod_below (negsuc n) m h = omega arith

pub word_fits : (w : Width) (z : ℤ) → Fits w (word w z)
unfolding word
word_fits w z = record { fits = mod_below z (2 ^ bits w) (pow_pos (bits w)) }

pub wrap-fits : (w : Width) (z : ℤ) → SFits w (wrap w z)
unfolding wrap
wrap-fits w z = to_z-Fits w (word w z) (word_fits w z)

-- the identity in range
pub word_is : (w : Width) (n : ℕ) → Fits w n → word w (pos n) ≡ n
unfolding word
word_is w n h = mod-eq_of_lt h.fits

-- the bits of a signed number are its word
pub bits-word : (w : Width) (z : ℤ) → SFits w z → of_z w z ≡ word w z
unfolding word
bits-word w (pos n) h = sym (mod-eq_of_lt (half_full w h.sfits))
bits-word w (negsuc n) h = rw (mod-eq_of_lt (half_full w h.sfits))

pub wrap_is : (w : Width) (z : ℤ) → SFits w z → wrap w z ≡ z
unfolding wrap
wrap_is w z h = ap (to_z w) (sym (bits-word w z h)) ∙ to_z-of_z w z h

-- bits read as signed
pub wrap-bits : (w : Width) (n : ℕ) → Fits w n → to_z w n ≡ wrap w (pos n)
unfolding wrap
wrap-bits w n h = ap (to_z w) (sym (word_is w n h))

-- each reading of z has the word of z
pub word-word : (w : Width) (z : ℤ) → word w (pos (word w z)) ≡ word w z
word-word w z = word_is w (word w z) (word_fits w z)

pub word-wrap : (w : Width) (z : ℤ) → word w (wrap w z) ≡ word w z
unfolding wrap
word-wrap w z = sym (bits-word w (wrap w z) (wrap-fits w z)) ∙ of_z-to_z w (word w z) (word_fits w z)

pub wrap-word : (w : Width) (z : ℤ) → wrap w (pos (word w z)) ≡ wrap w z
unfolding wrap
wrap-word w z = ap (to_z w) (word-word w z)

pub wrap-wrap : (w : Width) (z : ℤ) → wrap w (wrap w z) ≡ wrap w z
wrap-wrap w z = wrap_is w (wrap w z) (wrap-fits w z)

-- the low word of a word: v is the narrower width, k bits shorter
pub word_narrow : (v w : Width) (k : ℕ) (z : ℤ) → bits w ≡ k + bits v → word v (pos (word w z)) ≡ word v z
unfolding word
word_narrow v w k z e =
    let f : 2 ^ bits w ≡ 2 ^ k * 2 ^ bits v = ap (λ (n : ℕ). 2 ^ n) e ∙ pow-add 2 k (bits v) in
    rep_to (2 ^ bits v) (pow_pos (bits v)) z (mod_ℤ z (2 ^ bits w))
    (rep_narrow (2 ^ bits v) (2 ^ k) z (mod_ℤ z (2 ^ bits w)) (rw f (rep_mod (2 ^ k * 2 ^ bits v) (rw f at (pow_pos (bits w))) z)))

-- the machine's casts go by the sign: of a number below zero the bits are turned over
turned : (w : Width) (n : ℕ) → n < 2 ^ hbits w → (2 ^ bits w - 1) - (2 ^ bits w - suc n) ≡ n
turned w n h = let p = half_full w h in omega arith

pub below-zero : (w : Width) (z : ℤ) → SFits w z → lt_z z (pos 0) ≡ true
    → (T (non_neg (to_z w ((2 ^ bits w - 1) - of_z w z))) × Fits w (nat_abs (to_z w ((2 ^ bits w - 1) - of_z w z))))
    × ((2 ^ bits w - 1) - nat_abs (to_z w ((2 ^ bits w - 1) - of_z w z)) ≡ word w z)
below-zero w (pos n) h e = absurd (let k = ltb-true n 0 e in omega arith)
below-zero w (negsuc n) h e =
    let p = half_full w h.sfits in
    let q : (2 ^ bits w - 1) - n ≡ 2 ^ bits w - suc n = omega arith in
    rw (turned w n h.sfits, to_z_pos w n h.sfits) ((tt, record { fits = p }), q ∙ bits-word w (negsuc n) h)

pub from_zero : (w : Width) (z : ℤ) → SFits w z → lt_z z (pos 0) ≡ false
    → (T (non_neg z) × Fits w (nat_abs z)) × (nat_abs z ≡ word w z)
from_zero w (pos n) h e = ((tt, record { fits = half_full w h.sfits }), bits-word w (pos n) h)
from_zero w (negsuc n) h e = absurd (true≢false e)

-- a test on a signed number, as the machine has it and as a reader has it
pub tested : (w : Width) (z : ℤ) (n : ℤ) {b : Bool} → SFits w z → lt_z (to_z w (of_z w z)) n ≡ b → lt_z z n ≡ b
tested w z n {b} h e = subst (λ (y : ℤ). lt_z y n ≡ b) (to_z-of_z w z h) e
