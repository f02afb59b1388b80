-- How large digits, bytes and halves of a word are.
use mathlib.Core.Path.{◌≡◌, refl}
use mathlib.Core.Bool.{Bool, true, false}
use mathlib.Core.List.{List}
use Prim.Native.Nat.{ℕ, ◌+◌, ◌<◌}
use native.Mathlib.Omega.{arith}
use lib.Dec.{ltb}
use lib.ListN.{get_or}
use borrow.Author.Tests.{ltb-true, ltb-false}
use Rattle.rust_answers.specs.Lines.{nibble_of, byte_at, half_at}

pub nibble_small : (b : ℕ) → nibble_of b < 16
nibble_small b = first (ltb b 48) refl
  where
    fourth : (t : Bool) → ltb b 103 ≡ t → (u : Bool) → ltb b 97 ≡ u → (v : Bool) → ltb b 58 ≡ v
        → (w : Bool) → ltb b 48 ≡ w → nibble_of b < 16
    fourth t e u f v g true h = rw h (omega arith)
    fourth t e u f true g false h = let l = ltb-true b 58 g in let k = ltb-false b 48 h in rw (h, g) (omega arith)
    fourth t e true f false g false h = rw (h, g, f) (omega arith)
    fourth true e false f false g false h = let l = ltb-true b 103 e in rw (h, g, f, e) (omega arith)
    fourth false e false f false g false h = rw (h, g, f, e) (omega arith)

    first : (w : Bool) → ltb b 48 ≡ w → nibble_of b < 16
    first w h = fourth (ltb b 103) refl (ltb b 97) refl (ltb b 58) refl w h

pub byte_small : (text : List ℕ) (at : ℕ) → byte_at text at < 256
byte_small text at =
    let a = nibble_small (get_or text at 0) in
    let b = nibble_small (get_or text (at + 1) 0) in
    omega arith

pub half_small : (text : List ℕ) (at : ℕ) → half_at text at < 65536
half_small text at =
    let a = byte_small text at in
    let b = byte_small text (at + 2) in
    omega arith
