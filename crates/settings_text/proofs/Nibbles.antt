-- Nibbles: their field holds them, and no other field does.
use native.Mathlib.Omega.{arith}
use native.Mathlib.Nat.{pow-suc}
use mathlib.Core.Path.{◌≡◌, refl, sym, ap, ◌∙◌}
use mathlib.Core.Bool.{Bool, true, false, cond}
use mathlib.Core.List.{List, [], ◌∷◌}
use mathlib.Core.Option.{Option, none, some}
use Prim.Native.Nat.{ℕ, zero, suc, ◌+◌, ◌-◌, ◌*◌, ◌/◌, ◌%◌, ◌^◌, ◌≤◌, ◌<◌}
use lib.Dec.{leb, ltb}
use lib.ListN.{length}
use borrow.Author.Tests.{lt-ltb, le-ltb, ltb-true, ltb-false, le-leb, lt-leb, leb-true, ne_eqb}
use Rattle.text.specs.Hex.{hex_digit}
use Rattle.text.specs.Parts.{count}
use Rattle.text.specs.Same.{same}
use Rattle.text.proofs.Ranges.{both_some}
use Rattle.text.proofs.Sameness.{same_eq}
use Rattle.settings_text.specs.Fields.{hex_of, hex_in, hexes_of, hexes_in, nibbles_of, nibbles_in}

-- a digit's value, and 16 for any other byte
pub digit_most : (b : ℕ) → hex_digit b ≤ 16
digit_most b = by (ltb b 48) refl (leb b 57) refl (ltb b 97) refl (leb b 102) refl
  where
    by : (s : Bool) → ltb b 48 ≡ s → (t : Bool) → leb b 57 ≡ t → (u : Bool) → ltb b 97 ≡ u → (v : Bool) → leb b 102 ≡ v
        → cond s 16 (cond t (b - 48) (cond u 16 (cond v (b - 97 + 10) 16))) ≤ 16
    by true f t g u h v i = omega arith
    by false f true g u h v i = let m = leb-true b 57 g in omega arith
    by false f false g true h v i = omega arith
    by false f false g false h true i = let m = leb-true b 102 i in omega arith
    by false f false g false h false i = omega arith

pub hex_again : (d : ℕ) → d < 16 → hex_in (hex_of d) ≡ some d
unfolding hex_in hex_of
hex_again d h = by (ltb d 10) refl
  where
    by : (t : Bool) → ltb d 10 ≡ t → hex_in (cond t (48 + d) (97 + (d - 10))) ≡ some d
    by true e =
        let k = ltb-true d 10 e in
        let m : 48 + d - 48 ≡ d = omega arith in
        rw (le-ltb (48 + d) 48 (omega arith), le-leb (48 + d) 57 (omega arith), m, le-ltb 15 d (omega arith))
    by false e =
        let k = ltb-false d 10 e in
        let m : 97 + (d - 10) - 97 + 10 ≡ d = omega arith in
        rw (
          le-ltb (97 + (d - 10)) 48 (omega arith),
          lt-leb (97 + (d - 10)) 57 (omega arith),
          le-ltb (97 + (d - 10)) 97 (omega arith),
          le-leb (97 + (d - 10)) 102 (omega arith),
          m,
          le-ltb 15 d (omega arith),
        )

pub record Hex (b d : ℕ) : Type 0 where
  pub text : b ≡ hex_of d
  pub small : d < 16
  pub above : 48 ≤ b

pub hex_only : (b d : ℕ) → hex_in b ≡ some d → Hex b d
unfolding hex_in hex_of
hex_only b d e = by (ltb b 48) refl (leb b 57) refl (ltb b 97) refl (leb b 102) refl e
  where
    given : (n : ℕ) → n ≤ 15 → cond (ltb 15 n) none (some n) ≡ some d → n ≡ d
    given n h k = let q : some n ≡ some d = sym (rw (le-ltb 15 n h)) ∙ k in cc

    by : (s : Bool) → ltb b 48 ≡ s → (t : Bool) → leb b 57 ≡ t → (u : Bool) → ltb b 97 ≡ u → (v : Bool) → leb b 102 ≡ v
        → (let n = cond s 16 (cond t (b - 48) (cond u 16 (cond v (b - 97 + 10) 16))) in cond (ltb 15 n) none (some n)) ≡ some d → Hex b d
    by true f t g u h v i k = absurd (let z : ◌≡◌ {A = ℕ} 0 1 = cc in omega arith)
    by false f true g u h v i k =
        let l = ltb-false b 48 f in
        let m = leb-true b 57 g in
        let p : b - 48 ≡ d = given (b - 48) (omega arith) k in
        record { text = rw (lt-ltb d 10 (omega arith)) (omega arith); small = omega arith; above = l }
    by false f false g true h v i k = absurd (let z : ◌≡◌ {A = ℕ} 0 1 = cc in omega arith)
    by false f false g false h true i k =
        let l = ltb-false b 97 h in
        let m = leb-true b 102 i in
        let p : b - 97 + 10 ≡ d = given (b - 97 + 10) (omega arith) k in
        record { text = rw (le-ltb d 10 (omega arith)) (omega arith); small = omega arith; above = omega arith }
    by false f false g false h false i k = absurd (let z : ◌≡◌ {A = ℕ} 0 1 = cc in omega arith)

pub hexes_again : (k m : ℕ) → m < 16 ^ k → hexes_in k (hexes_of k m) ≡ some m
unfolding hexes_in hexes_of
hexes_again zero m h = ap some (omega arith)
hexes_again (suc k) m h =
    let p = pow-suc 16 k in
    rw (hex_again (m % 16) (omega arith), hexes_again k (m / 16) (omega arith)) (ap some (omega arith))

pub hexes_only : (k : ℕ) (f : List ℕ) (m : ℕ) → hexes_in k f ≡ some m → f ≡ hexes_of k m
unfolding hexes_in hexes_of
hexes_only zero [] m e = refl
hexes_only zero (b ∷ f) m e = absurd (let z : ◌≡◌ {A = ℕ} 0 1 = cc in omega arith)
hexes_only (suc k) [] m e = absurd (let z : ◌≡◌ {A = ℕ} 0 1 = cc in omega arith)
hexes_only (suc k) (b ∷ f) m e =
    let t = both_some {A = ℕ} {B = ℕ} {C = ℕ} (λ d m. d + 16 * m) (hex_in b) (hexes_in k f) m e in
    let p = hex_only b t.first t.here in
    let q = hexes_only k f t.second t.there in
    let i : t.first + 16 * t.second ≡ m = t.is in
    let s = p.small in
    let x : m % 16 ≡ t.first = omega arith in
    let y : m / 16 ≡ t.second = omega arith in
    rw (x, y, ← p.text, ← q)

pub hexes_plain : (sep : ℕ) → sep < 45 → (k : ℕ) (f : List ℕ) (m : ℕ) → hexes_in k f ≡ some m → count sep f ≡ 0
unfolding hexes_in count
hexes_plain sep s zero [] m e = refl
hexes_plain sep s zero (b ∷ f) m e = absurd (let z : ◌≡◌ {A = ℕ} 0 1 = cc in omega arith)
hexes_plain sep s (suc k) [] m e = refl
hexes_plain sep s (suc k) (b ∷ f) m e =
    let t = both_some {A = ℕ} {B = ℕ} {C = ℕ} (λ d m. d + 16 * m) (hex_in b) (hexes_in k f) m e in
    let a = (hex_only b t.first t.here).above in
    let d : b ≡ sep → ⊥ = λ q. omega arith in
    rw (ne_eqb b sep d) (hexes_plain sep s k f t.second t.there)

pub hexes_length : (k m : ℕ) → length (hexes_of k m) ≡ k
unfolding hexes_of
hexes_length zero m = refl
hexes_length (suc k) m = ap suc (hexes_length k (m / 16))

pub nibbles_again : (k m : ℕ) → m < 16 ^ k → nibbles_in k (nibbles_of k m) ≡ some m
unfolding nibbles_in nibbles_of same
nibbles_again zero m h = ap some (omega arith)
nibbles_again (suc k) m h = hexes_again (suc k) m h

pub nibbles_only : (k : ℕ) (f : List ℕ) (m : ℕ) → nibbles_in k f ≡ some m → f ≡ nibbles_of k m
unfolding nibbles_in nibbles_of
nibbles_only zero f m e = by (same f (45 ∷ [])) refl e
  where
    by : (t : Bool) → same f (45 ∷ []) ≡ t → cond {A = Option ℕ} t (some 0) none ≡ some m → f ≡ 45 ∷ []
    by true g k = same_eq _ _ g
    by false g k = absurd (let z : ◌≡◌ {A = ℕ} 0 1 = cc in omega arith)
nibbles_only (suc k) f m e = hexes_only (suc k) f m e

pub nibbles_plain : (sep : ℕ) → sep < 45 → (k m : ℕ) → m < 16 ^ k → count sep (nibbles_of k m) ≡ 0
unfolding nibbles_of count
nibbles_plain sep s zero m h = let d : 45 ≡ sep → ⊥ = λ q. omega arith in rw (ne_eqb 45 sep d)
nibbles_plain sep s (suc k) m h = hexes_plain sep s (suc k) (hexes_of (suc k) m) m (hexes_again (suc k) m h)

pub nibbles_length : (k m : ℕ) → length (nibbles_of k m) ≤ suc k
unfolding nibbles_of
nibbles_length zero m = omega arith
nibbles_length (suc k) m = omega (arith, hexes_length (suc k) m)

pub hexes_bound : (k : ℕ) (f : List ℕ) (m : ℕ) → hexes_in k f ≡ some m → m < 16 ^ k
unfolding hexes_in
hexes_bound zero [] m e = let p : 0 ≡ m = cc in omega arith
hexes_bound zero (b ∷ f) m e = absurd (let z : ◌≡◌ {A = ℕ} 0 1 = cc in omega arith)
hexes_bound (suc k) [] m e = absurd (let z : ◌≡◌ {A = ℕ} 0 1 = cc in omega arith)
hexes_bound (suc k) (b ∷ f) m e =
    let t = both_some {A = ℕ} {B = ℕ} {C = ℕ} (λ d m. d + 16 * m) (hex_in b) (hexes_in k f) m e in
    let s = (hex_only b t.first t.here).small in
    let r = hexes_bound k f t.second t.there in
    let i : t.first + 16 * t.second ≡ m = t.is in
    let p = pow-suc 16 k in
    omega arith

pub nibbles_bound : (k : ℕ) (f : List ℕ) (m : ℕ) → nibbles_in k f ≡ some m → m < 16 ^ k
unfolding nibbles_in
nibbles_bound zero f m e = by (same f (45 ∷ [])) e
  where
    by : (t : Bool) → cond {A = Option ℕ} t (some 0) none ≡ some m → m < 1
    by true k = let p : 0 ≡ m = cc in omega arith
    by false k = absurd (let z : ◌≡◌ {A = ℕ} 0 1 = cc in omega arith)
nibbles_bound (suc k) f m e = hexes_bound (suc k) f m e
