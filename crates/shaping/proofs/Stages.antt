-- Each accumulator and the carry it gives is a stage on the sequence that the stage before hands on: 2 ^ 32 times its carry is its
-- input less the backward difference of its content. What the stages after it give comes in as its backward difference, so the
-- contents between cancel, and the K-th difference of the last is left: by induction on the stages.
use mathlib.Core.Path.{◌≡◌, refl, ap}
use mathlib.Core.List.{List, [], ◌∷◌}
use Prim.Native.Nat.{ℕ, zero, suc, ◌+◌, ◌*◌, ◌/◌, ◌%◌, ◌^◌}
use native.Mathlib.Nat.{div-add-mod'}
use native.Mathlib.Omega.{arith}
use lib.IntN.{ℤ, pos, ◌+ℤ◌, ◌-ℤ◌, ◌*ℤ◌}
use lib.ListN.{replicate}
use Rattle.shaping.specs.Shaping.{backward, backwards}
use Rattle.shaping.proofs.Balance.{above, below, balanced, of_add, of_minus, of_times}

-- an accumulator that held a at first, on the sequence f: before input number t, and after it
unfoldable pub pre : ℕ → (ℕ → ℕ) → ℕ → ℕ
pre a f zero = a
pre a f (suc t) = (pre a f t + f t) % 2 ^ 32

unfoldable pub post : ℕ → (ℕ → ℕ) → ℕ → ℕ
unfolding pre
post a f t = pre a f (suc t)

unfoldable pub carry : ℕ → (ℕ → ℕ) → ℕ → ℕ
carry a f t = (pre a f t + f t) / 2 ^ 32

-- the value before, with zero before the start
unfoldable pub was : (ℕ → ℤ) → ℕ → ℤ
was g zero = pos 0
was g (suc t) = g t

-- what the stages of these accumulators give out, and the last content
unfoldable pub outs : List ℕ → (ℕ → ℕ) → ℕ → ℤ
outs [] f t = pos 0
outs (a ∷ k) f t = pos (carry a f t) +ℤ outs k (post a f) t -ℤ was (outs k (post a f)) t

unfoldable pub lasts : List ℕ → (ℕ → ℕ) → ℕ → ℕ
lasts [] f = f
lasts (a ∷ k) f = lasts k (post a f)

back_was : (g : ℕ → ℤ) (t : ℕ) → backward g t ≡ g t -ℤ was g t
unfolding was
back_was g zero = let e = of_minus (g 0) (pos 0) in balanced (g 0) (g 0 -ℤ pos 0) (omega arith)
back_was g (suc t) = refl

-- M c = x - (q - p) where p + x = M c + q
balance : (c p q x : ℕ) → c * 2 ^ 32 + q ≡ p + x → pos (2 ^ 32) *ℤ pos c ≡ pos x -ℤ (pos q -ℤ pos p)
balance c p q x e =
    let a = of_minus (pos q) (pos p) in
    let b = of_minus (pos x) (pos q -ℤ pos p) in
    let t = of_times (2 ^ 32) (pos c) in
    balanced (pos (2 ^ 32) *ℤ pos c) (pos x -ℤ (pos q -ℤ pos p)) (omega arith)

was_post : (f : ℕ → ℕ) (t : ℕ) → was (λ i. pos (post 0 f i)) t ≡ pos (pre 0 f t)
unfolding was post pre
was_post f zero = refl
was_post f (suc t) = refl

-- what a stage that started at zero takes in
stage : (f : ℕ → ℕ) (t : ℕ) → pos (2 ^ 32) *ℤ pos (carry 0 f t) ≡ pos (f t) -ℤ (pos (post 0 f t) -ℤ was (λ i. pos (post 0 f i)) t)
unfolding carry post pre
stage f t =
    let v = pre 0 f t + f t in
    rw (was_post f t) (balance (v / 2 ^ 32) (pre 0 f t) (v % 2 ^ 32) (f t) (div-add-mod' v (2 ^ 32)))

was_times : (u q b : ℕ → ℤ) → ((t : ℕ) → pos (2 ^ 32) *ℤ u t ≡ q t -ℤ b t) → (t : ℕ) → pos (2 ^ 32) *ℤ was u t ≡ was q t -ℤ was b t
unfolding was
was_times u q b h zero = refl
was_times u q b h (suc t) = h t

-- M c = x - (q - p), M u = q - b, M v = p - d: the contents q and p between cancel
cancel : (c u v x q p b d : ℤ) → pos (2 ^ 32) *ℤ c ≡ x -ℤ (q -ℤ p) → pos (2 ^ 32) *ℤ u ≡ q -ℤ b → pos (2 ^ 32) *ℤ v ≡ p -ℤ d
    → pos (2 ^ 32) *ℤ (c +ℤ u -ℤ v) ≡ x -ℤ (b -ℤ d)
cancel c u v x q p b d e f g =
    let e1 = ap above e in let e2 = ap below e in
    let f1 = ap above f in let f2 = ap below f in
    let g1 = ap above g in let g2 = ap below g in
    let c1 = of_times (2 ^ 32) c in let u1 = of_times (2 ^ 32) u in let v1 = of_times (2 ^ 32) v in
    let s1 = of_add c u in let s2 = of_minus (c +ℤ u) v in let s3 = of_times (2 ^ 32) (c +ℤ u -ℤ v) in
    let m1 = of_minus q p in let m2 = of_minus x (q -ℤ p) in let m3 = of_minus q b in let m4 = of_minus p d in
    let m5 = of_minus b d in let m6 = of_minus x (b -ℤ d) in
    balanced (pos (2 ^ 32) *ℤ (c +ℤ u -ℤ v)) (x -ℤ (b -ℤ d)) (omega arith)

pub shaped : (n : ℕ) (f : ℕ → ℕ) (t : ℕ)
    → pos (2 ^ 32) *ℤ outs (replicate n 0) f t ≡ pos (f t) -ℤ backwards n (λ i. pos (lasts (replicate n 0) f i)) t
unfolding outs lasts
shaped zero f t = let e = of_minus (pos (f t)) (pos (f t)) in balanced (pos (2 ^ 32) *ℤ pos 0) (pos (f t) -ℤ pos (f t)) (omega arith)
shaped (suc n) f t =
    let k : List ℕ = replicate n 0 in
    let b : ℕ → ℤ = backwards n (λ i. pos (lasts k (post 0 f) i)) in
    let u : ℕ → ℤ = outs k (post 0 f) in
    let q : ℕ → ℤ = λ i. pos (post 0 f i) in
    let ih : (i : ℕ) → pos (2 ^ 32) *ℤ u i ≡ q i -ℤ b i = shaped n (post 0 f) in
    rw (back_was b t)
    (cancel (pos (carry 0 f t)) (u t) (was u t) (pos (f t)) (q t) (was q t) (b t) (was b t) (stage f t) (ih t) (was_times u q b ih t))
