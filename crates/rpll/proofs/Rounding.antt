-- The machine's words of 64 bits give the exact quotients: a word's high part is the floor's word, its low part the remainder.
use mathlib.Core.Path.{◌≡◌, refl, sym, ap, ◌∙◌}
use Prim.Native.Nat.{ℕ, ◌+◌, ◌-◌, ◌*◌, ◌/◌, ◌%◌, ◌^◌, ◌<◌, ◌≤◌}
use native.Mathlib.Omega.{arith}
use lib.Pow.{pow_pos, pow-add, pow-lt}
use native.Mathlib.Nat.{mod-lt, mod-eq_of_lt}
use lib.IntN.{ℤ, pos, neg_ℤ, ◌+ℤ◌, ◌-ℤ◌, ◌*ℤ◌, +ℤ_idl}
use mir.Syntax.{w32, w64}
use mir.Val.{SFits, to_z, of_z}
use Rattle.words.specs.Words as W
use Rattle.words.specs.Words.{mod_ℤ, word, wrap, floor_div}
use Rattle.words.proofs.Floors.{mod_low, mod_high}
use Rattle.words.proofs.Reading.{word-wrap}
use Rattle.words.proofs.Std.{sub_bits, sub_word_32}
use Rattle.words.proofs.Sums.{Same, equal, ◌and◌, worded, same_add, same-mul}
use Rattle.rpll.specs.Loops.{signal_phase, reference_phase, locked_of, elapsed, error_of}

-- a power of two within the word
bit : (b k : ℕ) → k < b → 1 * 2 ^ k % 2 ^ b ≡ 2 ^ k
bit b k h =
    let o : 1 * 2 ^ k ≡ 2 ^ k = omega arith in
    rw o (mod-eq_of_lt (pow-lt h))

-- a word of 64 bits shifted by up to 32 still holds the low word of the floor
shifted : (z : ℤ) (k : ℕ) → k ≤ 32 → word w32 (pos (word w64 z / 2 ^ k)) ≡ word w32 (floor_div z (2 ^ k))
unfolding W.word
shifted z k h =
    let i : 64 ≡ 64 - k + k = omega arith in
    let j : 64 - k ≡ 32 - k + 32 = omega arith in
    let a : 2 ^ 64 ≡ 2 ^ (64 - k) * 2 ^ k = ap (λ (t : ℕ). 2 ^ t) i ∙ pow-add 2 (64 - k) k in
    let b : 2 ^ (64 - k) ≡ 2 ^ (32 - k) * 2 ^ 32 = ap (λ (t : ℕ). 2 ^ t) j ∙ pow-add 2 (32 - k) 32 in
    ap (λ (t : ℕ). mod_ℤ z t / 2 ^ k % 2 ^ 32) a
    ∙ ap (λ (t : ℕ). t % 2 ^ 32) (mod_high (2 ^ (64 - k)) (2 ^ k) (pow_pos (64 - k)) (pow_pos k) z ∙ ap (mod_ℤ (floor_div z (2 ^ k))) b)
    ∙ mod_low (2 ^ 32) (2 ^ (32 - k)) (pow_pos 32) (rw b at (pow_pos (64 - k))) (floor_div z (2 ^ k))

-- the signal's phase, from the bias b: the product modulo 2 ^ 64, with the sign of dx copied upwards, is the product
signal : (ff : ℕ) (dx : ℤ) (k b : ℕ) → k ≤ 32 → b ≡ 2 ^ (k - 1)
    → word w32 (pos (word w64 (pos (word w64 (pos ff *ℤ pos (word w64 dx))) +ℤ pos b) / 2 ^ k)) ≡ signal_phase ff dx k
signal ff dx k b l f =
    let p : Same w64 (pos (word w64 (pos ff *ℤ pos (word w64 dx))) +ℤ pos b) (pos ff *ℤ dx +ℤ pos (2 ^ (k - 1))) =
    same_add (worded w64 (pos ff *ℤ pos (word w64 dx)) and same-mul {a = pos ff} (equal refl) (worded w64 dx)) (equal (ap pos f)) in
    rw p.same (shifted (pos ff *ℤ dx +ℤ pos (2 ^ (k - 1))) k l)

-- the time since a timestamp: the low bits of its negative
since : (x : ℤ) (dt2 : ℕ) → dt2 ≤ 30 → word w32 (wrap w32 (pos 0 -ℤ x)) % 2 ^ dt2 ≡ elapsed x dt2
unfolding W.word
since x dt2 h =
    let i : 32 ≡ 32 - dt2 + dt2 = omega arith in
    let a : 2 ^ 32 ≡ 2 ^ (32 - dt2) * 2 ^ dt2 = ap (λ (t : ℕ). 2 ^ t) i ∙ pow-add 2 (32 - dt2) dt2 in
    ap (λ (t : ℕ). t % 2 ^ dt2) (word-wrap w32 (pos 0 -ℤ x) ∙ ap (word w32) (+ℤ_idl (neg_ℤ x)))
    ∙ ap (λ (t : ℕ). mod_ℤ (neg_ℤ x) t % 2 ^ dt2) a
    ∙ mod_low (2 ^ dt2) (2 ^ (32 - dt2)) (pow_pos dt2) (rw a at (pow_pos 32)) (neg_ℤ x)

-- the frequency lock, from the reference's phase p and the signal's q
lock : (ff : ℕ) (dx : ℤ) (dt2 shift p q : ℕ) → p ≡ reference_phase dt2 shift → q ≡ signal_phase ff dx shift
    → word w32 (pos ff +ℤ pos (word w32 (pos p -ℤ pos q))) ≡ locked_of ff dx dt2 shift
unfolding locked_of
lock ff dx dt2 shift p q e f =
    (same_add {a = pos ff} (equal refl)
    (worded w32 (pos p -ℤ pos q)
    and equal (ap (λ (t : ℕ). pos t -ℤ pos q) e ∙ ap (λ (t : ℕ). pos (reference_phase dt2 shift) -ℤ pos t) f))
    ).same

-- the frequency lock by the machine's words, w being the bits of dx
pub locked : (ff : ℕ) (dx : ℤ) (dt2 shift w : ℕ) → dt2 < shift → shift ≤ 32 → w ≡ word w64 dx
    → (ff + (1 * 2 ^ (32 + dt2 - shift) % 2 ^ 32 + (2 ^ 32 - (ff * w % 2 ^ 64 + 1 * 2 ^ (shift - 1) % 2 ^ 64) % 2 ^ 64 / 2 ^ shift % 2 ^ 32)) % 2 ^ 32) % 2 ^ 32
    ≡ locked_of ff dx dt2 shift
unfolding W.word
locked ff dx dt2 shift w h k e =
    let p = 1 * 2 ^ (32 + dt2 - shift) % 2 ^ 32 in
    let b = 1 * 2 ^ (shift - 1) % 2 ^ 64 in
    let q = (ff * w % 2 ^ 64 + b) % 2 ^ 64 / 2 ^ shift % 2 ^ 32 in
    let signal_is : q ≡ signal_phase ff dx shift =
    ap (λ (t : ℕ). (ff * t % 2 ^ 64 + b) % 2 ^ 64 / 2 ^ shift % 2 ^ 32) e ∙ signal ff dx shift b k (bit 64 (shift - 1) (omega arith)) in
    ap (λ (t : ℕ). (ff + t) % 2 ^ 32)
    (sym (sub_word_32 p q (record { fits = mod-lt _ (omega arith) }) (record { fits = mod-lt _ (omega arith) })))
    ∙ lock ff dx dt2 shift p q (bit 32 (32 + dt2 - shift) (omega arith)) signal_is

-- the machine's negative
pub negative : (x : ℤ) → SFits w32 x → to_z w32 ((2 ^ 32 - of_z w32 x) % 2 ^ 32) ≡ wrap w32 (pos 0 -ℤ x)
negative x h =
    let e : 2 ^ 32 - of_z w32 x ≡ 0 + (2 ^ 32 - of_z w32 x) = omega arith in
    ap (λ (n : ℕ). to_z w32 (n % 2 ^ 32)) e ∙ sub_bits w32 (pos 0) x (record { sfits = omega arith }) h

-- the phase error, from the bits u of the machine's negative of x
pub miss : (f : ℕ) (x y : ℤ) (dt2 shift u : ℕ) → dt2 ≤ 30 → u ≡ word w32 (wrap w32 (pos 0 -ℤ x))
    → floor_div (wrap w32 (to_z w32 (f / 2 ^ dt2 * (u % (1 * 2 ^ dt2 % 2 ^ 32)) % 2 ^ 32) -ℤ y)) (2 ^ (shift - dt2)) ≡ error_of f x y dt2 shift
unfolding error_of W.wrap W.word
miss f x y dt2 shift u h e =
    let g : u % (1 * 2 ^ dt2 % 2 ^ 32) ≡ elapsed x dt2 = rw (bit 32 dt2 (omega arith), e) (since x dt2 h) in
    rw g refl
