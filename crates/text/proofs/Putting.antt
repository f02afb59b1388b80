-- Bytes put one behind the other, and byte by byte.
use native.Mathlib.Omega.{arith}
use native.Mathlib.Numerals.{add-one}
use native.Mathlib.Nat.{add-zero}
use mathlib.Core.Path.{◌≡◌, refl, sym, ap, ◌∙◌}
use mathlib.Core.Bool.{Bool, true, false}
use mathlib.Core.List.{List, [], ◌∷◌, ◌++◌, append_assoc}
use Prim.Native.Nat.{ℕ, ◌+◌, ◌-◌, ◌≤◌, ◌<◌}
use lib.Dec.{leb}
use lib.ListN.{length, take, drop, set, get_or, length-append, length-take, length-drop, take-append-drop}
use lib.Seq.{set_split, drop-drop, take_at, take-suc, length-take-le, drop-append-add}
use borrow.Author.Tests.{le-leb, lt-leb, leb-true, leb-false}
use Rattle.text.specs.Writing.{overlaid, Wrote, Puts, PutSettled}

pub put_one : (l : List ℕ) (at b : ℕ) → at < length l → set l at b ≡ overlaid l at (b ∷ [])
unfolding overlaid
put_one l at b h = set_split l at b h ∙ simp add-one

pub put-nil : (l : List ℕ) (at : ℕ) → l ≡ overlaid l at []
unfolding overlaid
put-nil l at = rw (add-zero, take-append-drop)

pub length-put : (l : List ℕ) (at : ℕ) (bs : List ℕ) → at + length bs ≤ length l → length (overlaid l at bs) ≡ length l
unfolding overlaid
length-put l at bs h = simp (length-append, length-take, length-drop) (omega arith)

pub put-put : (l : List ℕ) (at : ℕ) (xs ys : List ℕ) → at ≤ length l → overlaid (overlaid l at xs) (at + length xs) ys
    ≡ overlaid l at (xs ++ ys)
unfolding overlaid
put-put l at xs ys h =
    let p = take at l ++ xs in
    let q = drop (at + length xs) l in
    let e : length p ≡ at + length xs = length-append (take at l) xs ∙ ap (λ (k : ℕ). k + length xs) (length-take-le at l (omega arith)) in
    let r : take at l ++ (xs ++ q) ≡ p ++ q = sym (append_assoc (take at l) xs q) in
    let a : take (at + length xs) (take at l ++ (xs ++ q)) ≡ p = rw r (take_at p q (at + length xs) e) in
    let n : at + length xs + length ys ≡ at + length (xs ++ ys) = omega (arith, length-append xs ys) in
    let b : drop (at + length xs + length ys) (take at l ++ (xs ++ q)) ≡ drop (at + length (xs ++ ys)) l =
    rw r (ap (λ (k : ℕ). drop (k + length ys) (p ++ q)) (sym e) ∙ drop-append-add p q (length ys)
    ∙ drop-drop (length ys) (at + length xs) l ∙ ap (λ (k : ℕ). drop k l) n) in
    rw (a, b) (simp append_assoc)

pub nothing : (o : List ℕ) (at : ℕ) → Wrote o at [] at o
nothing o at = record { next = omega arith; text = put-nil o at }

-- what is written next stands behind what was written
pub then : {o o₁ o₂ : List ℕ} {at r₁ r₂ : ℕ} {xs ys : List ℕ} → at ≤ length o → Wrote o at xs r₁ o₁ → Wrote o₁ r₁ ys r₂ o₂
    → Wrote o at (xs ++ ys) r₂ o₂
then {o} {o₁} {o₂} {at} {r₁} {r₂} {xs} {ys} h a b = record {
  next = omega (arith, a.next, b.next, length-append xs ys);
  text = b.text ∙ ap (λ (n : ℕ). overlaid o₁ n ys) a.next ∙ ap (λ (l : List ℕ). overlaid l (at + length xs) ys) a.text
      ∙ put-put o at xs ys h;
}

pub wrote-same : {o o' : List ℕ} {at r : ℕ} {xs ys : List ℕ} → xs ≡ ys → Wrote o at xs r o' → Wrote o at ys r o'
wrote-same e w = rw e at w

pub wrote-length : {o o' : List ℕ} {at r : ℕ} {xs : List ℕ} → at + length xs ≤ length o → Wrote o at xs r o' → length o' ≡ length o
wrote-length {o} {o'} {at} {r} {xs} h w = ap length w.text ∙ length-put o at xs h

-- where there is room, what is put is written
module _ (o : List ℕ) (at : ℕ) (bs : List ℕ) (r : ℕ) (o' : List ℕ) where
  pub written : at + length bs ≤ length o → Puts o at bs r o' → Wrote o at bs r o'
  written h p =
      let e = le-leb _ _ h in
      record { next = p.next ∙ rw e; text = p.text ∙ rw e }

  pub puts : at + length bs ≤ length o → Wrote o at bs r o' → Puts o at bs r o'
  puts h w =
      let e = le-leb _ _ h in
      record { next = w.next ∙ sym (rw e); text = w.text ∙ sym (rw e) }

pub puts_none : (o : List ℕ) (at : ℕ) (bs : List ℕ) → length o < at + length bs → Puts o at bs at o
puts_none o at bs h =
    let e = lt-leb _ _ h in
    record { next = sym (rw e); text = sym (rw e) }

-- a call that puts further bytes, where there is room for all
pub then_puts : {o o₁ o₂ : List ℕ} {at r₁ r₂ : ℕ} {xs ys : List ℕ} → at + (length xs + length ys) ≤ length o → Wrote o at xs r₁ o₁
    → Puts o₁ r₁ ys r₂ o₂ → Wrote o at (xs ++ ys) r₂ o₂
then_puts {o} {o₁} {o₂} {at} {r₁} {r₂} {xs} {ys} h w p =
    let m : length o₁ ≡ length o = wrote-length (omega arith) w in
    then (omega arith) w (written o₁ r₁ ys r₂ o₂ (omega (arith, w.next)) p)

-- a copy, one byte more
pub copy_on : (o s : List ℕ) (at i : ℕ) → at + length s ≤ length o → i < length s
    → set (overlaid o at (take i s)) (at + i) (get_or s i 0) ≡ overlaid o at (take (i + 1) s)
copy_on o s at i h k =
    let n : length (take i s) ≡ i = length-take-le i s (omega arith) in
    let m : length (overlaid o at (take i s)) ≡ length o = length-put o at (take i s) (omega arith) in
    put_one (overlaid o at (take i s)) (at + i) (get_or s i 0) (omega arith)
    ∙ ap (λ (j : ℕ). overlaid (overlaid o at (take i s)) (at + j) (get_or s i 0 ∷ [])) (sym n)
    ∙ put-put o at (take i s) (get_or s i 0 ∷ []) (omega arith)
    ∙ ap (overlaid o at) (sym (take-suc s i 0 k) ∙ ap (λ (j : ℕ). take j s) (sym (add-one i)))

-- the test that n bytes fit
pub fits_test : (len at n : ℕ) → at ≤ len → leb n (len - at) ≡ leb (at + n) len
fits_test len at n h = by (leb (at + n) len) refl
  where
    by : (t : Bool) → leb (at + n) len ≡ t → leb n (len - at) ≡ t
    by true e = let k = leb-true (at + n) len e in le-leb n (len - at) (omega arith)
    by false e = let k = leb-false (at + n) len e in lt-leb n (len - at) (omega arith)

module _ (t : Bool) (len at n : ℕ) (e : t ≡ leb (at + n) len) where
  pub not_fits : t ≡ false → len < at + n
  not_fits h = leb-false (at + n) len (sym e ∙ h)

  pub does_fit : t ≡ true → at + n ≤ len
  does_fit h = leb-true (at + n) len (sym e ∙ h)

pub puts_same : {o o' : List ℕ} {at r : ℕ} {xs ys : List ℕ} → xs ≡ ys → Puts o at xs r o' → Puts o at ys r o'
puts_same e w = rw e at w

-- the promise gives both results an equation
pub settled : PutSettled
settled o bs us vs at q r p t = (p.next ∙ sym t.next, p.text ∙ sym t.text)
