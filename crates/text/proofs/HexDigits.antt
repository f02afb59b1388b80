-- What the next byte tells of a word in hex digits, and that sixteen digits stay within 64 bits.
use native.Mathlib.Omega.{arith}
use native.Mathlib.Numerals.{add-one}
use mathlib.Core.Path.{◌≡◌, refl}
use mathlib.Core.List.{List}
use Prim.Native.Nat.{ℕ, ◌+◌, ◌*◌, ◌^◌, ◌≤◌, ◌<◌}
use lib.ListN.{length, drop, get_or, drop_of_length-le}
use lib.Pow.{pow-add, pow_mono}
use lib.Seq.{drop-cons}
use borrow.Author.Tests.{lt-ltb, le-ltb, ltb-true, ltb-false}
use mathlib.Core.Bool.{Bool, true, false, cond}
use lib.Dec.{ltb}
use Rattle.text.specs.Hex.{hex_digit, digit_of, hex_from}
use Rattle.std.specs.Prelude.{Some, None}

-- what a digit's value, or its lack, says of the byte
pub digit_none : (b : ℕ) → digit_of b ≡ None → 15 < hex_digit b
digit_none b e = by (ltb 15 (hex_digit b)) refl e
  where
    by : (t : Bool) → ltb 15 (hex_digit b) ≡ t → cond t None (Some (hex_digit b)) ≡ None → 15 < hex_digit b
    by true f k = ltb-true 15 (hex_digit b) f
    by false f k = absurd (let z : ◌≡◌ {A = ℕ} 0 1 = cc in omega arith)

pub digit_some : (b v : ℕ) → digit_of b ≡ Some v → (hex_digit b ≤ 15) × (v ≡ hex_digit b)
digit_some b v e = by (ltb 15 (hex_digit b)) refl e
  where
    by : (t : Bool) → ltb 15 (hex_digit b) ≡ t → cond t None (Some (hex_digit b)) ≡ Some v → (hex_digit b ≤ 15) × (v ≡ hex_digit b)
    by true f k = absurd (let z : ◌≡◌ {A = ℕ} 0 1 = cc in omega arith)
    by false f k = (ltb-false 15 (hex_digit b) f, cc)

module _ (l : List ℕ) (i v : ℕ) (inside : i < length l) where
  pub no_digit : 15 < hex_digit (get_or l i 0) → hex_from v (drop i l) ≡ None
  unfolding hex_from
  no_digit h = rw (drop-cons l i 0 inside, lt-ltb 15 (hex_digit (get_or l i 0)) h)

  pub hex_on : hex_digit (get_or l i 0) ≤ 15 → hex_from v (drop i l) ≡ hex_from (v * 16 + hex_digit (get_or l i 0)) (drop (i + 1) l)
  unfolding hex_from
  hex_on h = rw (add-one, drop-cons l i 0 inside, le-ltb 15 (hex_digit (get_or l i 0)) h)

pub hex_over : (l : List ℕ) (i v : ℕ) → length l ≤ i → hex_from v (drop i l) ≡ Some v
unfolding hex_from
hex_over l i v h = rw (drop_of_length-le l h)

-- i digits are 4 i bits
pub grown : (v d i : ℕ) → v < 2 ^ (4 * i) → d ≤ 15 → v * 16 + d < 2 ^ (4 * (i + 1))
grown v d i h k =
    let e : 4 * (i + 1) ≡ 4 * i + 4 = omega arith in
    let p = 2 ^ (4 * i) in
    let n : v * 16 + d < p * 16 = omega arith in
    rw (e, pow-add 2 (4 * i) 4) n

pub sixteen : (v d i : ℕ) → v < 2 ^ (4 * i) → d ≤ 15 → i < 16 → v * 16 + d < 2 ^ 64
sixteen v d i h k l =
    let m : 4 * (i + 1) ≤ 64 = omega arith in
    let a : 2 ^ (4 * (i + 1)) ≤ 2 ^ 64 = pow_mono m in
    let b = grown v d i h k in
    omega arith
