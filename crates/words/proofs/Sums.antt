-- Wrapping goes through sums, differences and products, once over the width: a wrapped number may stand for what was wrapped.
use Rattle.std.proofs.Common.{◌≡◌, ℕ, ◌+◌, ◌-◌, ◌*◌, ◌%◌, ◌^◌, ◌<◌, ℤ, pos, ◌+ℤ◌, ◌-ℤ◌, ◌*ℤ◌, neg_ℤ, sym, refl, ap, ◌∙◌, arith, pow_pos, SFits, to_z, of_z}
use lib.IntN.{*ℤ-zero}
use mir.Syntax.{Width}
use mir.Val.{bits}
use Rattle.words.specs.Words.{word, wrap}
use Rattle.words.proofs.Remainders.{Like, is, back, ◌then◌, multiple, rep_mod, rep_is, rep_to, rep_add, rep_neg, rep_mul, rep_minus}
use Rattle.words.proofs.Reading.{word_fits, bits-word, word-word, word-wrap, wrap_is}

-- a and b are the same modulo 2 ^ w. A record, so that the numbers are inferred.
pub record Same (w : Width) (a b : ℤ) : Type 0 where
  pub same : word w a ≡ word w b

pub equal : {w : Width} {a b : ℤ} → a ≡ b → Same w a b
equal {w} e = record { same = ap (word w) e }

pub turn : {w : Width} {a b : ℤ} → Same w a b → Same w b a
turn s = record { same = sym s.same }

infixr 5 ◌and◌
pub ◌and◌ : {w : Width} {a b c : ℤ} → Same w a b → Same w b c → Same w a c
s and t = record { same = s.same ∙ t.same }

-- both readings of z are z
pub wrapped : (w : Width) (z : ℤ) → Same w (wrap w z) z
wrapped w z = record { same = word-wrap w z }

pub worded : (w : Width) (z : ℤ) → Same w (pos (word w z)) z
worded w z = record { same = word-word w z }

-- and the same numbers have the same readings
pub wrap-same : {w : Width} {a b : ℤ} → Same w a b → wrap w a ≡ wrap w b
unfolding wrap
wrap-same {w} s = ap (to_z w) s.same

pub same_is : {w : Width} {a b : ℤ} → Same w a b → SFits w a → SFits w b → a ≡ b
same_is {w} {a} {b} s f g = sym (wrap_is w a f) ∙ wrap-same s ∙ wrap_is w b g

module _ (w : Width) where
  full : 0 < 2 ^ bits w
  full = pow_pos (bits w)

  -- the word of a sum, of a product and of a number turned about, from the words
  pub word-add : (a b : ℤ) → (word w a + word w b) % 2 ^ bits w ≡ word w (a +ℤ b)
  unfolding word
  word-add a b =
      rep_to (2 ^ bits w) full (a +ℤ b) (word w a + word w b)
      (rep_add (2 ^ bits w) full a b (word w a) (word w b) (rep_mod (2 ^ bits w) full a) (rep_mod (2 ^ bits w) full b))

  pub word-mul : (a b : ℤ) → (word w a * word w b) % 2 ^ bits w ≡ word w (a *ℤ b)
  unfolding word
  word-mul a b =
      rep_to (2 ^ bits w) full (a *ℤ b) (word w a * word w b)
      (rep_mul (2 ^ bits w) full a b (word w a) (word w b) (rep_mod (2 ^ bits w) full a) (rep_mod (2 ^ bits w) full b))

  pub word_neg : (a : ℤ) → (2 ^ bits w - word w a) % 2 ^ bits w ≡ word w (neg_ℤ a)
  unfolding word
  word_neg a =
      let h : word w a < 2 ^ bits w = (word_fits w a).fits in
      let e : 2 ^ bits w - word w a + word w a ≡ 1 * 2 ^ bits w + 0 = omega arith in
      rep_to (2 ^ bits w) full (neg_ℤ a) (2 ^ bits w - word w a)
      (rep_neg (2 ^ bits w) full a (word w a) (2 ^ bits w - word w a) (rep_mod (2 ^ bits w) full a) (is e then multiple (2 ^ bits w) 1 0))

  pub word_sub : (a b : ℤ) → (word w a + (2 ^ bits w - word w b)) % 2 ^ bits w ≡ word w (a -ℤ b)
  unfolding word
  word_sub a b =
      let h : word w b < 2 ^ bits w = (word_fits w b).fits in
      let e : 2 ^ bits w - word w b + word w b ≡ 1 * 2 ^ bits w + 0 = omega arith in
      rep_to (2 ^ bits w) full (a -ℤ b) (word w a + (2 ^ bits w - word w b))
      (rep_add (2 ^ bits w) full a (neg_ℤ b) (word w a) (2 ^ bits w - word w b) (rep_mod (2 ^ bits w) full a)
      (rep_neg (2 ^ bits w) full b (word w b) (2 ^ bits w - word w b) (rep_mod (2 ^ bits w) full b) (is e then multiple (2 ^ bits w) 1 0)))

  -- r is the word of a - b where b brings it to a
  pub word-minus : (a b r : ℕ) → r < 2 ^ bits w → (r + b) % 2 ^ bits w ≡ a % 2 ^ bits w → r ≡ word w (pos a -ℤ pos b)
  unfolding word
  word-minus a b r h e =
      rep_is (2 ^ bits w) full (pos a -ℤ pos b) r h (rep_minus (2 ^ bits w) full a b r (record { like = e }))

-- sums, differences and products of the same numbers are the same
module _ {w : Width} {a b c d : ℤ} (s : Same w a b) (t : Same w c d) where
  pub same_add : Same w (a +ℤ c) (b +ℤ d)
  same_add = record { same = sym (word-add w a c) ∙ rw (s.same, t.same) (word-add w b d) }

  pub same-mul : Same w (a *ℤ c) (b *ℤ d)
  same-mul = record { same = sym (word-mul w a c) ∙ rw (s.same, t.same) (word-mul w b d) }

pub same_neg : {w : Width} {a b : ℤ} → Same w a b → Same w (neg_ℤ a) (neg_ℤ b)
same_neg {w} {a} {b} s = record { same = sym (word_neg w a) ∙ rw s.same (word_neg w b) }

pub same-sub : {w : Width} {a b c d : ℤ} → Same w a b → Same w c d → Same w (a -ℤ c) (b -ℤ d)
same-sub s t = same_add s (same_neg t)

-- whole turns are nothing
pub turns : (w : Width) (k : ℤ) → Same w (k *ℤ pos (2 ^ bits w)) (pos 0)
unfolding word
turns w k = same-mul {a = k} (equal refl) whole and equal (*ℤ-zero k)
  where
    whole : Same w (pos (2 ^ bits w)) (pos 0)
    whole =
        let e : 2 ^ bits w ≡ 1 * 2 ^ bits w + 0 = omega arith in
        record { same = ap (λ (n : ℕ). n % 2 ^ bits w) e ∙ (multiple (2 ^ bits w) 1 0).like }

-- what is wrapped may be wrapped before: the laws that callers cite
module _ (w : Width) (a b : ℤ) where
  pub wrap-add : wrap w (wrap w a +ℤ wrap w b) ≡ wrap w (a +ℤ b)
  wrap-add = wrap-same (same_add (wrapped w a) (wrapped w b))

  pub wrap-sub : wrap w (wrap w a -ℤ wrap w b) ≡ wrap w (a -ℤ b)
  wrap-sub = wrap-same (same-sub (wrapped w a) (wrapped w b))

  pub wrap_left : wrap w (wrap w a +ℤ b) ≡ wrap w (a +ℤ b)
  wrap_left = wrap-same (same_add (wrapped w a) (equal refl))

  pub wrap_right : wrap w (a +ℤ wrap w b) ≡ wrap w (a +ℤ b)
  wrap_right = wrap-same (same_add {a = a} (equal refl) (wrapped w b))

-- the machine's sums of bits x and y, read as signed
module _ (w : Width) (a b : ℤ) (x y : ℕ) (e : x ≡ word w a) (f : y ≡ word w b) where
  x_is : Same w (pos x) a
  x_is = equal (ap pos e) and worded w a

  y_is : Same w (pos y) b
  y_is = equal (ap pos f) and worded w b

  pub bits-add : wrap w (pos (word w (pos x +ℤ pos y))) ≡ wrap w (a +ℤ b)
  bits-add = wrap-same (worded w (pos x +ℤ pos y) and same_add x_is y_is)

  pub bits-sub : wrap w (pos (word w (pos x -ℤ pos y))) ≡ wrap w (a -ℤ b)
  bits-sub = wrap-same (worded w (pos x -ℤ pos y) and same-sub x_is y_is)

  pub bits-mul : wrap w (pos (word w (pos x *ℤ pos y))) ≡ wrap w (a *ℤ b)
  bits-mul = wrap-same (worded w (pos x *ℤ pos y) and same-mul x_is y_is)

-- bits moved to the left, read as signed
pub bits_shl : (w : Width) (a : ℤ) (k : ℕ) → SFits w a → to_z w (of_z w a * 2 ^ k % 2 ^ bits w) ≡ wrap w (a *ℤ pos (2 ^ k))
unfolding wrap word
bits_shl w a k h = ap (to_z w) (ap (λ (n : ℕ). n * 2 ^ k % 2 ^ bits w) (bits-word w a h) ∙ (same-mul (worded w a) (equal refl)).same)

-- a product by halves of H: what lies past H H is a whole multiple of it
pub halves : (H h k p q : ℕ) → Like (H * H) (p * q + (p * k + h * q) * H) ((h * H + p) * (k * H + q))
halves H h k p q =
    let e : (h * H + p) * (k * H + q) ≡ h * k * (H * H) + (p * q + (p * k + h * q) * H) = omega arith in
    back (is e then multiple (H * H) (h * k) (p * q + (p * k + h * q) * H))
