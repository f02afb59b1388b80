-- A block reads the inputs where they stand: which one is n places back after some of them, and what the outputs along them are.
use mathlib.Core.Path.{◌≡◌, refl, sym, ap, ap₂, ◌∙◌}
use mathlib.Core.List.{List, [], ◌∷◌, ◌++◌}
use mathlib.Core.Logic.{⊎_elim}
use Prim.Native.Nat.{ℕ, zero, suc, ◌+◌, ◌-◌, ◌*◌, ◌^◌, ◌<◌, ◌≤◌}
use native.Mathlib.Nat.{zero-add, eq-zero-or-pos}
use native.Mathlib.Numerals.{add-one}
use native.Mathlib.Omega.{arith}
use lib.IntN.{ℤ, pos}
use lib.ListN.{length, take, drop, get_or, set, length-set}
use lib.Seq.{get_or-take, ext_get_or, paste, paste-zero, paste-suc, length-paste, take-length, length-take-le, get_or-set_same, get_or-set_other}
use borrow.Author.Tests.{ltb-true, ltb-false, lt-ltb, le-ltb}
use Rattle.sums.specs.Runs.{needed, over}
use Rattle.sums.proofs.Counts.{needed-none, needed_wait, needed_give}
use Rattle.sums.proofs.Settling.{needed-falls}
use Rattle.fir.specs.Weights.{taken, weighed}
use Rattle.fir.specs.Inner.{kept, due_in, outputs_from}

pub taken-length : (l : List ℤ) (x : ℤ) → length l ≡ 190 → length (taken l x) ≡ 190
unfolding taken
taken-length l x h = ap suc (length-take-le 189 l (omega arith))

pub kept-length : (h xs : List ℤ) → length h ≡ 190 → length (kept h xs) ≡ 190
unfolding kept
kept-length h [] e = e
kept-length h (x ∷ xs) e = kept-length (taken h x) xs (taken-length h x e)

pub kept_old : (h xs : List ℤ) (n : ℕ) → length xs ≤ n → n < 190 → get_or (kept h xs) n (pos 0) ≡ get_or h (n - length xs) (pos 0)
unfolding kept taken
kept_old h [] n a b = ap (λ (m : ℕ). get_or h m (pos 0)) (let e : n ≡ n - 0 = omega arith in e)
kept_old h (x ∷ xs) n a b =
    let e : n - length xs ≡ suc (n - suc (length xs)) = omega arith in
    kept_old (taken h x) xs n (omega arith) b
    ∙ ap (λ (m : ℕ). get_or (x ∷ take 189 h) m (pos 0)) e
    ∙ get_or-take 189 h (n - suc (length xs)) (pos 0) (omega arith)

pub kept_new : (h xs : List ℤ) (n : ℕ) → n < length xs → n < 190 → get_or (kept h xs) n (pos 0) ≡ get_or xs (length xs - 1 - n) (pos 0)
unfolding kept taken
kept_new h [] n a b = absurd (omega arith)
kept_new h (x ∷ xs) n a b =
    ⊎_elim
    (λ z. let e : n - length xs ≡ 0 = omega arith in
    let f : suc (length xs) - 1 - n ≡ 0 = omega arith in
    kept_old (taken h x) xs n (omega arith) b
    ∙ ap (λ (m : ℕ). get_or (x ∷ take 189 h) m (pos 0)) e
    ∙ sym (ap (λ (m : ℕ). get_or (x ∷ xs) m (pos 0)) f))
    (λ p. let f : suc (length xs) - 1 - n ≡ suc (length xs - 1 - n) = omega arith in
    kept_new (taken h x) xs n (omega arith) b ∙ sym (ap (λ (m : ℕ). get_or (x ∷ xs) m (pos 0)) f))
    (eq-zero-or-pos (length xs - n))

-- after the first u inputs
module _ (h xs : List ℤ) (u n : ℕ) (fits : u ≤ length xs) (few : n < 190) where
  pub upto_new : n < u → get_or xs (u - 1 - n) (pos 0) ≡ get_or (kept h (take u xs)) n (pos 0)
  upto_new a =
      let e : length (take u xs) ≡ u = length-take-le u xs fits in
      sym (kept_new h (take u xs) n (omega arith) few
      ∙ ap (λ (m : ℕ). get_or (take u xs) (m - 1 - n) (pos 0)) e
      ∙ get_or-take u xs (u - 1 - n) (pos 0) (omega arith))

  pub upto_old : u ≤ n → get_or h (n - u) (pos 0) ≡ get_or (kept h (take u xs)) n (pos 0)
  upto_old a =
      let e : length (take u xs) ≡ u = length-take-le u xs fits in
      sym (kept_old h (take u xs) n (omega arith) few ∙ ap (λ (m : ℕ). get_or h (n - m) (pos 0)) e)

-- the cells made anew, one by one
pub record Keeps (l : List ℤ) (n : ℕ) (c : List ℤ) : Type 0 where
  pub few : n ≤ 190
  pub long : length c ≡ 190
  pub made : (k : ℕ) → k < n → get_or c k (pos 0) ≡ get_or l k (pos 0)

pub keeps-start : (l c : List ℤ) → length c ≡ 190 → Keeps l 0 c
keeps-start l c h = record { few = omega arith; long = h; made = λ k a. absurd (omega arith) }

pub keeps_turn : (l c : List ℤ) (n : ℕ) (v : ℤ) → n < 190 → Keeps l n c → v ≡ get_or l n (pos 0) → Keeps l (n + 1) (set c n v)
keeps_turn l c n v h s e = record {
  few = omega arith;
  long = length-set c n v ∙ s.long;
  made = λ k a.
      ⊎_elim (same k a) (λ p. get_or-set_other c n k v (pos 0) (λ q. omega arith) ∙ s.made k (omega arith)) (eq-zero-or-pos (n - k));
}
  where
    same : (k : ℕ) → k < n + 1 → n - k ≡ 0 → get_or (set c n v) k (pos 0) ≡ get_or l k (pos 0)
    same k a z =
        let at : k ≡ n = omega arith in
        ap (λ (m : ℕ). get_or (set c n v) m (pos 0)) at
        ∙ get_or-set_same c n v (pos 0) (omega (arith, s.long))
        ∙ e
        ∙ ap (λ (m : ℕ). get_or l m (pos 0)) (sym at)

pub keeps_end : (l c : List ℤ) (n : ℕ) → 190 ≤ n → length l ≡ 190 → Keeps l n c → c ≡ l
keeps_end l c n h k s = ext_get_or (pos 0) c l (s.long ∙ sym k) (λ i a. s.made i (omega (arith, s.long)))

-- ---- the outputs

pub outputs_from-length : (h : List ℤ) (c : ℕ) (xs : List ℤ) → length (outputs_from h c xs) ≡ needed (length xs) c 63
unfolding outputs_from
outputs_from-length h c [] = sym (needed-none c 63)
outputs_from-length h zero (x ∷ xs) = ap suc (outputs_from-length (taken h x) 63 xs) ∙ sym (needed_give (length xs) 0 63 refl)
outputs_from-length h (suc c) (x ∷ xs) =
    outputs_from-length (taken h x) c xs
    ∙ sym (needed_wait (length xs) (suc c) 63 (omega arith)
    ∙ ap (λ (m : ℕ). needed (length xs) m 63) (let e : suc c - 1 ≡ c = omega arith in e))

pub outputs_from_at : (h : List ℤ) (c : ℕ) (xs : List ℤ) (k : ℕ) → k < length (outputs_from h c xs)
    → get_or (outputs_from h c xs) k (pos 0) ≡ weighed (kept h (take (suc (c + k * 64)) xs))
unfolding outputs_from kept
outputs_from_at h c [] k a = absurd (omega arith)
outputs_from_at h zero (x ∷ xs) zero a = refl
outputs_from_at h zero (x ∷ xs) (suc k) a =
    let e : suc (63 + k * 64) ≡ 0 + suc k * 64 = omega arith in
    outputs_from_at (taken h x) 63 xs k (omega arith) ∙ ap (λ (m : ℕ). weighed (kept (taken h x) (take m xs))) e
outputs_from_at h (suc c) (x ∷ xs) k a =
    let e : suc (c + k * 64) ≡ suc c + k * 64 = omega arith in
    outputs_from_at (taken h x) c xs k a ∙ ap (λ (m : ℕ). weighed (kept (taken h x) (take m xs))) e

-- the countdown after
pub due_in_law : (c n : ℕ) → due_in c n ≡ c + needed n c 63 * 64 - n
unfolding due_in
due_in_law c zero = let z = needed-none c 63 in rw z (omega arith)
due_in_law zero (suc n) = let z = needed_give n 0 63 refl in due_in_law 63 n ∙ rw z (omega arith)
due_in_law (suc c) (suc n) =
    let z : needed (suc n) (suc c) 63 ≡ needed n c 63 = needed_wait n (suc c) 63 (omega arith)
    ∙ ap (λ (m : ℕ). needed n m 63) (let e : suc c - 1 ≡ c = omega arith in e) in
    due_in_law c n ∙ rw z (omega arith)

pub due_small : (c n : ℕ) → c < 2 ^ 32 → due_in c n < 2 ^ 32
unfolding due_in
due_small c zero h = h
due_small zero (suc n) h = due_small 63 n (omega arith)
due_small (suc c) (suc n) h = due_small c n (omega arith)

-- ---- the loop: k outputs are written
pub record WeighsEach (h : List ℤ) (c : ℕ) (xs old : List ℤ) (k : ℕ) (out : List ℤ) : Type 0 where
  pub few : k ≤ needed (length xs) c 63
  pub out_is : out ≡ paste old 0 (outputs_from h c xs) k

module _ (h : List ℤ) (c : ℕ) (xs old : List ℤ) (need : ℕ) (n : need ≡ needed (length xs) c 63) (room : need ≤ length old) where
  pub weighs_start : WeighsEach h c xs old 0 old
  weighs_start = record { few = omega arith; out_is = paste-zero old 0 (outputs_from h c xs) }

  -- an output is due exactly where an input is
  pub due : (k : ℕ) → k < need → c + k * 64 < length xs
  due k a = ltb-true (c + k * 64) (length xs) (sym (needed-falls (length xs) c 63 k) ∙ lt-ltb k (needed (length xs) c 63) (omega arith))

  pub weighs_long : (k : ℕ) (out : List ℤ) → WeighsEach h c xs old k out → length out ≡ length old
  weighs_long k out d =
      let f = d.few in let l = outputs_from-length h c xs in
      ap length d.out_is ∙ length-paste old 0 (outputs_from h c xs) k (omega arith) (omega arith)

  pub weighs_turn : (k : ℕ) (out : List ℤ) (v : ℤ) → k < need → WeighsEach h c xs old k out
      → v ≡ weighed (kept h (take (c + k * 64 + 1) xs)) → WeighsEach h c xs old (k + 1) (set out k v)
  weighs_turn k out v a d e =
      let l = outputs_from-length h c xs in
      let s : c + k * 64 + 1 ≡ suc (c + k * 64) = omega arith in
      let w : v ≡ get_or (outputs_from h c xs) k (pos 0) = e
      ∙ ap (λ (m : ℕ). weighed (kept h (take m xs))) s
      ∙ sym (outputs_from_at h c xs k (omega arith)) in
      record {
        few = omega arith;
        out_is = ap₂ (λ (o : List ℤ) y. set o k y) d.out_is w
            ∙ ap (λ (m : ℕ). set (paste old 0 (outputs_from h c xs) k) m (get_or (outputs_from h c xs) k (pos 0))) (sym (zero-add k))
            ∙ paste-suc old 0 (outputs_from h c xs) k (pos 0) (omega arith) (omega arith)
            ∙ ap (paste old 0 (outputs_from h c xs)) (sym (add-one k));
      }

  pub weighs_end : (k : ℕ) (out : List ℤ) → need ≤ k → WeighsEach h c xs old k out → out ≡ over (outputs_from h c xs) old
  weighs_end k out a d =
      let f = d.few in
      let l = outputs_from-length h c xs in
      let e : k ≡ needed (length xs) c 63 = omega arith in
      let g : k ≡ length (outputs_from h c xs) = e ∙ sym l in
      d.out_is
      ∙ ap₂ (λ (m n : ℕ). [] ++ take m (outputs_from h c xs) ++ drop n old) g (zero-add k ∙ g)
      ∙ ap (λ (t : List ℤ). t ++ drop (length (outputs_from h c xs)) old) (take-length (outputs_from h c xs))

-- the next output after the block is due behind its end, and not far behind
pub reaches : (c L : ℕ) → L ≤ c + needed L c 63 * 64
reaches c L = ltb-false (c + needed L c 63 * 64) L (sym (needed-falls L c 63 (needed L c 63)) ∙ le-ltb (needed L c 63) (needed L c 63) (omega arith))

pub reach : (c L need : ℕ) → need ≡ needed L c 63 → c + need * 64 < c + L + 64
reach c L zero e = omega arith
reach c L (suc k) e =
    let d : c + k * 64 < L = ltb-true (c + k * 64) L (sym (needed-falls L c 63 k) ∙ lt-ltb k (needed L c 63) (omega arith)) in omega arith
