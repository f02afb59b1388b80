-- A number of 64 bits by its halves: the product of a wide output, and a high word that is overwritten.
use mathlib.Core.Path.{◌≡◌, ap, ◌∙◌}
use Prim.Native.Nat.{suc, ◌+◌, ◌-◌, ◌*◌, ◌%◌, ◌^◌}
use native.Mathlib.Omega.{arith}
use lib.IntN.{ℤ, pos, negsuc, ◌+ℤ◌, ◌*ℤ◌, +ℤ_assoc, +ℤ_idl}
use borrow.Author.Tests.{lt-ltb}
use mir.Syntax.{w32, w64}
use mir.Val.{SFits, to_z, of_z}
use Rattle.words.specs.Words.{word, wrap, floor_div}
use Rattle.words.proofs.Reading.{word_fits, wrap_is}
use Rattle.words.proofs.Sums.{equal, ◌and◌, same_add, turns, worded, wrap_left}
use Rattle.words.proofs.Sizes.{widen}
use Rattle.words.proofs.Std.{add_onto, shl_bits, rest_fits_64}
use Rattle.words.proofs.Floors.{floor_is, parts}
use Rattle.biquad_fixed.specs.Forms.{overwritten}

-- an overwritten high word: what was written is read back, and the low word stays
pub high_is : (acc y : ℤ) → floor_div (overwritten acc y) (2 ^ 32) ≡ y
high_is acc y = floor_is y (word w32 acc) (2 ^ 32) (word_fits w32 acc).fits

pub low_stays : (acc y : ℤ) → word w32 (overwritten acc y) ≡ word w32 acc
low_stays acc y = (same_add (turns w32 y) (worded w32 acc) and equal (+ℤ_idl acc)).same

pub overwritten-fits : (acc y : ℤ) → SFits w32 y → SFits w64 (overwritten acc y)
overwritten-fits acc (pos n) h = let l = (word_fits w32 acc).fits in let k = h.sfits in record { sfits = omega arith }
overwritten-fits acc (negsuc n) h =
    let l = (word_fits w32 acc).fits in
    let k = h.sfits in
    let e : suc n * 2 ^ 32 ≡ suc (2 ^ 32 - 1 + n * 2 ^ 32) = omega arith in
    rw (e, lt-ltb (word w32 acc) (suc (2 ^ 32 - 1 + n * 2 ^ 32)) (omega arith)) (record { sfits = omega arith })

-- the machine's sums: what fed and overwrite find
pub fed_is : (acc y a : ℤ) → wrap w64 (acc +ℤ floor_div (pos (word w32 y) *ℤ a) (2 ^ 32) +ℤ floor_div y (2 ^ 32) *ℤ a)
    ≡ wrap w64 (acc +ℤ floor_div (y *ℤ a) (2 ^ 32))
fed_is acc y a =
    ap (wrap w64) (+ℤ_assoc acc (floor_div (pos (word w32 y) *ℤ a) (2 ^ 32)) (floor_div y (2 ^ 32) *ℤ a) ∙ ap (λ (z : ℤ). acc +ℤ z)
    (parts y a))

pub overwritten_is : (acc y : ℤ) → SFits w32 y
    → to_z w64 ((of_z w64 y * 4294967296 % 18446744073709551616 + of_z w64 (pos (word w32 acc))) % 18446744073709551616) ≡ overwritten acc y
overwritten_is acc y h =
    let low : SFits w64 (pos (word w32 acc)) = let l = (word_fits w32 acc).fits in record { sfits = omega arith } in
    add_onto w64 (of_z w64 y * 4294967296 % 18446744073709551616) (pos (word w32 acc)) (rest_fits_64 _) low
    ∙ ap (λ (z : ℤ). wrap w64 (z +ℤ pos (word w32 acc))) (shl_bits w64 y 4294967296 (widen h))
    ∙ wrap_left w64 (y *ℤ pos (2 ^ 32)) (pos (word w32 acc))
    ∙ wrap_is w64 (overwritten acc y) (overwritten-fits acc y h)
