-- What the standard library's methods give, in the words of specs/Words. A caller names one of the rulesets below, and mostly
-- needs no proof file: `#[tactic(auto, using(words::proofs::Std::signed))]` for `wrapping_add`, `wrapping_sub`, `wrapping_mul` and `<<`
-- at i32 and i64, `unsigned` for these at u32 and u64, `casts` for `cast_signed` and `cast_unsigned`.
use Rattle.std.proofs.Common.{◌≡◌, ℕ, ◌+◌, ◌-◌, ◌*◌, ◌%◌, ◌^◌, ℤ, pos, ◌+ℤ◌, ◌-ℤ◌, ◌*ℤ◌, Fits, SFits, to_z, of_z, refl, ap, sym, arith, ◌∙◌}
use Rattle.std.specs.Int.{Width, w32, w64, cast_unsigned}
use mir.Val.{bits}
use mir.ValLaws.{to_z-of_z, of_z-to_z, to_z-Fits}
use Rattle.words.specs.Words.{word, wrap}
use Rattle.words.proofs.Reading.{bits-word, wrap-bits, word_is, wrap_is, word_narrow}
use Rattle.words.proofs.Sums.{word-add, word-mul, word_sub, worded, equal, same-mul, wrap_left, wrap_right, wrap-add, wrap-sub}

pub cast_unsigned_word : (w : Width) (z : ℤ) → SFits w z → cast_unsigned w z ≡ word w z
cast_unsigned_word w z h = bits-word w z h

pub wrap_pos : (w : Width) (n : ℕ) → Fits w n → wrap w (pos n) ≡ to_z w n
wrap_pos w n h = sym (wrap-bits w n h)

pub add_bits : (w : Width) (a b : ℤ) → SFits w a → SFits w b → to_z w ((of_z w a + of_z w b) % 2 ^ bits w) ≡ wrap w (a +ℤ b)
unfolding wrap
add_bits w a b h k = rw (bits-word w a h, bits-word w b k) (ap (to_z w) (word-add w a b))

pub sub_bits : (w : Width) (a b : ℤ) → SFits w a → SFits w b → to_z w ((of_z w a + (2 ^ bits w - of_z w b)) % 2 ^ bits w) ≡ wrap w (a -ℤ b)
unfolding wrap
sub_bits w a b h k = rw (bits-word w a h, bits-word w b k) (ap (to_z w) (word_sub w a b))

pub mul_bits : (w : Width) (a b : ℤ) → SFits w a → SFits w b → to_z w ((of_z w a * of_z w b) % 2 ^ bits w) ≡ wrap w (a *ℤ b)
unfolding wrap
mul_bits w a b h k = rw (bits-word w a h, bits-word w b k) (ap (to_z w) (word-mul w a b))

-- where the left operand, the right one or both are bits: what another wrapping call gave
pub add_onto : (w : Width) (m : ℕ) (b : ℤ) → Fits w m → SFits w b → to_z w ((m + of_z w b) % 2 ^ bits w) ≡ wrap w (to_z w m +ℤ b)
add_onto w m b h k = ap (λ (n : ℕ). to_z w ((n + of_z w b) % 2 ^ bits w)) (sym (of_z-to_z w m h)) ∙ add_bits w (to_z w m) b (to_z-Fits w m h) k

pub add_from : (w : Width) (a : ℤ) (n : ℕ) → SFits w a → Fits w n → to_z w ((of_z w a + n) % 2 ^ bits w) ≡ wrap w (a +ℤ to_z w n)
add_from w a n h k = ap (λ (m : ℕ). to_z w ((of_z w a + m) % 2 ^ bits w)) (sym (of_z-to_z w n k)) ∙ add_bits w a (to_z w n) h (to_z-Fits w n k)

pub sub_onto : (w : Width) (m : ℕ) (b : ℤ) → Fits w m → SFits w b → to_z w ((m + (2 ^ bits w - of_z w b)) % 2 ^ bits w) ≡ wrap w (to_z w m -ℤ b)
sub_onto w m b h k = ap (λ (n : ℕ). to_z w ((n + (2 ^ bits w - of_z w b)) % 2 ^ bits w)) (sym (of_z-to_z w m h)) ∙ sub_bits w (to_z w m) b (to_z-Fits w m h) k

pub sub_from : (w : Width) (a : ℤ) (n : ℕ) → SFits w a → Fits w n → to_z w ((of_z w a + (2 ^ bits w - n)) % 2 ^ bits w) ≡ wrap w (a -ℤ to_z w n)
sub_from w a n h k = ap (λ (m : ℕ). to_z w ((of_z w a + (2 ^ bits w - m)) % 2 ^ bits w)) (sym (of_z-to_z w n k)) ∙ sub_bits w a (to_z w n) h (to_z-Fits w n k)

pub add_both : (w : Width) (m n : ℕ) → Fits w m → Fits w n → to_z w ((m + n) % 2 ^ bits w) ≡ wrap w (to_z w m +ℤ to_z w n)
add_both w m n h k = ap (λ (p : ℕ). to_z w ((p + n) % 2 ^ bits w)) (sym (of_z-to_z w m h)) ∙ add_from w (to_z w m) n (to_z-Fits w m h) k

pub sub_both : (w : Width) (m n : ℕ) → Fits w m → Fits w n → to_z w ((m + (2 ^ bits w - n)) % 2 ^ bits w) ≡ wrap w (to_z w m -ℤ to_z w n)
sub_both w m n h k = ap (λ (p : ℕ). to_z w ((p + (2 ^ bits w - n)) % 2 ^ bits w)) (sym (of_z-to_z w m h)) ∙ sub_from w (to_z w m) n (to_z-Fits w m h) k

pub rest_fits_32 : (n : ℕ) → Fits w32 (n % 4294967296)
rest_fits_32 n = record { fits = omega arith }

pub rest_fits_64 : (n : ℕ) → Fits w64 (n % 18446744073709551616)
rest_fits_64 n = record { fits = omega arith }

-- a shift to the left, by a number or by a numeral
pub shl_bits : (w : Width) (a : ℤ) (n : ℕ) → SFits w a → to_z w (of_z w a * n % 2 ^ bits w) ≡ wrap w (a *ℤ pos n)
unfolding wrap word
shl_bits w a n h = ap (to_z w) (ap (λ (m : ℕ). m * n % 2 ^ bits w) (bits-word w a h) ∙ (same-mul (worded w a) (equal refl)).same)

-- sums, differences and products of unsigned numbers, at the widths that have numerals
pub word_of_32 : (n : ℕ) → word w32 (pos n) ≡ n % 4294967296
unfolding word
word_of_32 n = refl

pub word_of_64 : (n : ℕ) → word w64 (pos n) ≡ n % 18446744073709551616
unfolding word
word_of_64 n = refl

sub-word : (w : Width) (a b : ℕ) → Fits w a → Fits w b → word w (pos a -ℤ pos b) ≡ (a + (2 ^ bits w - b)) % 2 ^ bits w
sub-word w a b h k =
    sym (
    ap (λ (n : ℕ). (n + (2 ^ bits w - b)) % 2 ^ bits w) (sym (word_is w a h))
    ∙ ap (λ (n : ℕ). (word w (pos a) + (2 ^ bits w - n)) % 2 ^ bits w) (sym (word_is w b k))
    ∙ word_sub w (pos a) (pos b)
    )

pub sub_word_32 : (a b : ℕ) → Fits w32 a → Fits w32 b → word w32 (pos a -ℤ pos b) ≡ (a + (4294967296 - b)) % 4294967296
sub_word_32 a b h k = sub-word w32 a b h k

pub sub_word_64 : (a b : ℕ) → Fits w64 a → Fits w64 b → word w64 (pos a -ℤ pos b) ≡ (a + (18446744073709551616 - b)) % 18446744073709551616
sub_word_64 a b h k = sub-word w64 a b h k

-- the low word of a word
pub low_word : (z : ℤ) → word w64 z % 4294967296 ≡ word w32 z
low_word z = sym (word_of_32 (word w64 z)) ∙ word_narrow w32 w64 32 z refl

pub wrap_low : (z : ℤ) → wrap w32 z ≡ to_z w32 (word w64 z % 4294967296)
unfolding wrap
wrap_low z = ap (to_z w32) (sym (low_word z))

pub ruleset unsigned = (word_of_32, word_of_64, sub_word_32, sub_word_64, low_word)

pub ruleset casts = (cast_unsigned_word, wrap_pos, to_z-of_z, wrap_is, word_is, low_word, wrap_low, word_of_32, word_of_64)

pub ruleset signed = (to_z-of_z, add_bits, sub_bits, mul_bits, add_onto, add_from, sub_onto, sub_from, add_both, sub_both, rest_fits_32, rest_fits_64, shl_bits, wrap_left, wrap_right, wrap-add, wrap-sub)
