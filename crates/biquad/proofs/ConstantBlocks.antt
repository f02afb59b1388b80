-- IDENTITY and HOLD over a block: numbers other than -0.0 come through.
use mathlib.Core.Path.{◌≡◌, refl, ap, ◌∙◌}
use mathlib.Core.Bool.{Bool, true, ◌&&◌}
use mathlib.Core.List.{List, [], ◌∷◌, map}
use lib.Dec.{T}
use lib.Ieee.{Float, fin, binary64, fits}
use lib.Ieee.Scale.{finite}
use Rattle.blocks.specs.Scan.{scan}
use Rattle.biquad.specs.declared.direct_form1.DirectForm1.{DirectForm1}
use Rattle.biquad.specs.declared.direct_form2_transposed.DirectForm2Transposed.{DirectForm2Transposed}
use Rattle.biquad.specs.Rounded.{one}
use Rattle.biquad.specs.Coefficients.{identity_of, hold_of}
use Rattle.biquad.specs.Forms.{sum1, after1, next1, sum2, after2, next2}
use Rattle.biquad.specs.Zeros.{negative, zero_of, plain}
use Rattle.biquad.proofs.Adding.{stays, zero-fits}
use Rattle.biquad.proofs.Constants.{identity1, hold1, identity2, cells2, hold2, hold_cells2}

-- P of each of the values
abbrev pub Each : (Float → Type 0) → List Float → Type 0
Each P [] = Unit {0}
Each P (x ∷ xs) = P x × Each P xs

-- a double that is a number other than -0.0, and a finite double
pub record Plain (x : Float) : Type 0 where
  pub double : T (fits binary64 x)
  pub plain : T (plain x)

abbrev pub Finite : Float → Type 0
Finite x = finite x ≡ true

pub record Quiet (s : DirectForm1) : Type 0 where
  pub x1 : Finite s.x1
  pub x2 : Finite s.x2
  pub y1 : Finite s.y1
  pub y2 : Finite s.y2

plain_finite : (x : Float) → T (plain x) → Finite x
plain_finite lib.Ieee.nan p = elim p [ ]
plain_finite (lib.Ieee.inf _) p = elim p [ ]
plain_finite (fin s m e) p = refl

-- IDENTITY gives back a block of numbers other than -0.0: in direct form 1 from a finite state, in direct form 2
-- transposed from zero cells.
pub identity_block1 : (xs : List Float) (s : DirectForm1) → Quiet s → Each Plain xs → scan (sum1 identity_of) (next1 identity_of) s xs ≡ xs
identity_block1 [] s q e = refl
identity_block1 (x ∷ xs) s q e =
    let p = e.0 in
    let f = plain_finite x p.plain in
    let is : sum1 identity_of s x ≡ x = identity1 x s p.double ∙ rw (q.x1, q.x2, q.y1, q.y2) (stays x _ p.double p.plain) in
    rw is (ap (λ (l : List Float). x ∷ l) (identity_block1 xs (after1 s x x) (record { x1 = f; x2 = q.x1; y1 = f; y2 = q.y1 }) e.1))

abbrev pub cells : Bool → Bool → DirectForm2Transposed
cells a b = record { s1 = zero_of a; s2 = zero_of b }

pub identity_block2 : (xs : List Float) (a b : Bool) → Each Plain xs → scan (sum2 identity_of) (next2 identity_of) (cells a b) xs ≡ xs
identity_block2 [] a b e = refl
identity_block2 (x ∷ xs) a b e =
    let p = e.0 in
    let f = plain_finite x p.plain in
    let t = negative x && negative x in
    let is : sum2 identity_of (cells a b) x ≡ x = identity2 x a (cells a b) p.double refl ∙ stays x a p.double p.plain in
    let on : after2 identity_of (cells a b) x x ≡ cells (b && t) t = cells2 one x x (cells a b) (zero-fits b) ∙ rw f in
    rw (is, on) (ap (λ (l : List Float). x ∷ l) (identity_block2 xs (b && t) t e.1))

-- HOLD gives the last output, a number other than -0.0, for each of a block of finite inputs: in direct form 1 from a
-- finite state.
pub hold_block1 : (xs : List Float) (s : DirectForm1) → Quiet s → Plain s.y1 → Each Finite xs
    → scan (sum1 hold_of) (next1 hold_of) s xs ≡ map (λ (x : Float). s.y1) xs
hold_block1 [] s q p e = refl
hold_block1 (x ∷ xs) s q p e =
    let is : sum1 hold_of s x ≡ s.y1 = hold1 x s p.double ∙ rw (e.0, q.x1, q.x2, q.y2) (stays s.y1 _ p.double p.plain) in
    rw is (ap (λ (l : List Float). s.y1 ∷ l)
    (hold_block1 xs (after1 s x s.y1) (record { x1 = e.0; x2 = q.x1; y1 = q.y1; y2 = q.y1 }) p e.1))

-- In direct form 2 transposed it gives the first cell, where the second is a zero.
pub hold_block2 : (xs : List Float) (y : Float) (b : Bool) → Plain y → Each Finite xs
    → scan (sum2 hold_of) (next2 hold_of) (record { s1 = y; s2 = zero_of b }) xs ≡ map (λ (x : Float). y) xs
hold_block2 [] y b p e = refl
hold_block2 (x ∷ xs) y b p e =
    let s : DirectForm2Transposed = record { s1 = y; s2 = zero_of b } in
    let t = negative x && negative y in
    let is : sum2 hold_of s x ≡ y = hold2 x s p.double ∙ rw e.0 (stays y (negative x) p.double p.plain) in
    let on : after2 hold_of s x y ≡ record { s1 = y; s2 = zero_of t } =
    hold_cells2 x y b s p.double refl ∙ rw (e.0, plain_finite y p.plain, stays y (b && negative x) p.double p.plain) in
    rw (is, on) (ap (λ (l : List Float). y ∷ l) (hold_block2 xs y t p e.1))
