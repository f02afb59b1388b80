-- The retired adapters in an architecture: whether there is one, and b and c in their places.
use mathlib.Core.Path.{◌≡◌, refl, sym, ap, ◌∙◌}
use mathlib.Core.Bool.{Bool, true, false, cond, ◌||◌, true≢false}
use mathlib.Core.List.{List, [], ◌∷◌, ◌++◌}
use Prim.Native.Nat.{ℕ, zero, suc, ◌+◌, ◌*◌, ◌/◌, ◌%◌, ◌-◌, ◌^◌, ◌≤◌, ◌<◌, min}
use native.Mathlib.Nat.{pow-suc, pow-succ', sub_self, sub-zero, div-one, div-le_self, div-div-eq-div-mul}
use native.Mathlib.Omega.{arith}
use borrow.Author.Tests.{eqb-true, eqb-false, ne_eqb, ltb-true, ltb-false}
use lib.Dec.{eqb, ltb}
use lib.ListN.{drop, get_or, replicate}
use lib.IntN.{ℤ, pos}
use Rattle.std.specs.Prelude.{Result}
use Rattle.blocks.specs.declared.refusal.Refusal.{Refusal}
use Rattle.blocks.specs.Refusals as refusals
use Rattle.blocks.specs.Scan.{scan, ends}
use Rattle.blocks.specs.Blocks.{unless, lengths_number, Blocked}
use Rattle.adapters.specs.declared.tpa.Tpa.TheVariants.{Z, A, B, X, C, D}
use Rattle.wdf.specs.declared.filter.Wdf.{Wdf}
use Rattle.adapters.specs.Adapters.{adapted, code_of, retired}
use Rattle.sections.specs.Sections.{Section, section_of, sections_of, Passed, passed}
use Rattle.wdf.specs.Calls.{sections_number, holds_retired, new_number, number, filter}
use Rattle.wdf.specs.Calls.{made_unless, made, made_form1, run, answer, next, stepped}
use Rattle.wdf.specs.Retired.{current, moved, moved_wdf, moved_answer, moved_stepped, SameFilter}
use Rattle.adapters.proofs.Adapters.{b1_is_b, c1_is_c}

-- ---- the nibbles from place i on

module _ (n i left : ℕ) (h : i < n) where
  hold_on : holds_retired (n - i) left ≡ (retired (code_of (left % 16)) || holds_retired (n - (i + 1)) (left / 16))
  unfolding holds_retired
  hold_on = let e : n - i ≡ suc (n - (i + 1)) = omega arith in rw e

  pub held : retired (code_of (left % 16)) ≡ true → holds_retired (n - i) left ≡ true
  held t = hold_on ∙ rw t

  pub held_on : retired (code_of (left % 16)) ≡ false → holds_retired (n - (i + 1)) (left / 16) ≡ holds_retired (n - i) left
  held_on t = sym (hold_on ∙ rw t)

pub held_none : (n i left : ℕ) → n ≤ i → holds_retired (n - i) left ≡ false
unfolding holds_retired
held_none n i left h = let e : n - i ≡ 0 = omega arith in rw e

-- ---- a nibble and the one in its place

-- the nibble is e, f, or another
pick : (k : ℕ) (P : ℕ → Type 0) → (k ≡ 0xe → P (current 0xe)) → (k ≡ 0xf → P (current 0xf)) → ((k ≡ 0xe → ⊥) → (k ≡ 0xf → ⊥) → P k) → P (current k)
unfolding current
pick k P e f n = by (eqb k 0xe) refl (eqb k 0xf) refl
  where
    by : (t : Bool) → eqb k 0xe ≡ t → (u : Bool) → eqb k 0xf ≡ u → P (cond t (current 0xe) (cond u (current 0xf) k))
    by true p u q = e (eqb-true k 0xe p)
    by false p true q = f (eqb-true k 0xf q)
    by false p false q = n (eqb-false k 0xe p) (eqb-false k 0xf q)

same-ports : (k : ℕ) (x z a : ℤ) → adapted (code_of (current k)) x z a ≡ adapted (code_of k) x z a
unfolding code_of current
same-ports k x z a =
    pick k (λ (j : ℕ). adapted (code_of j) x z a ≡ adapted (code_of k) x z a)
    (λ e. rw e (sym (b1_is_b x z a)))
    (λ e. rw e (sym (c1_is_c x z a)))
    (λ e f. refl)

at_most : (k : ℕ) → current k ≤ k
unfolding current
at_most k = pick k (λ (j : ℕ). j ≤ k) (λ e. omega arith) (λ e. omega arith) (λ e f. omega arith)

-- a nibble that is neither e nor f names no retired adapter
others : (k : ℕ) → (k ≡ 0xe → ⊥) → (k ≡ 0xf → ⊥) → retired (code_of k) ≡ false
unfolding code_of retired
others k e f = rw (ne_eqb k 0xe e, ne_eqb k 0xf f) (by (eqb k 0x1) (eqb k 0xa) (eqb k 0xb) (eqb k 0xc) (eqb k 0xd))
  where
    by : (p q r s t : Bool) → retired (cond p X (cond q A (cond r B (cond s C (cond t D Z))))) ≡ false
    by true q r s t = refl
    by false true r s t = refl
    by false false true s t = refl
    by false false false true t = refl
    by false false false false true = refl
    by false false false false false = refl

current-none : (k : ℕ) → retired (code_of (current k)) ≡ false
unfolding code_of retired current
current-none k = pick k (λ (j : ℕ). retired (code_of j) ≡ false) (λ e. refl) (λ e. refl) (others k)

current-same : (k : ℕ) → retired (code_of k) ≡ false → current k ≡ k
unfolding code_of retired
current-same k =
    pick k (λ (j : ℕ). retired (code_of k) ≡ false → j ≡ k)
    (λ e t. absurd (true≢false (rw e at t)))
    (λ e t. absurd (true≢false (rw e at t)))
    (λ e f t. refl)

-- ---- the moved architecture

module _ (n m : ℕ) where
  moved-low : moved (suc n) m % 16 ≡ current (m % 16)
  unfolding moved
  moved-low = let l = at_most (m % 16) in omega arith

  moved-high : moved (suc n) m / 16 ≡ moved n (m / 16)
  unfolding moved
  moved-high = let l = at_most (m % 16) in omega arith

-- what lies beyond the sections stays
pub moved_beyond : (n m : ℕ) → moved n m / 16 ^ n ≡ m / 16 ^ n
unfolding moved
moved_beyond zero m = refl
moved_beyond (suc n) m =
    rw (pow-succ' 16 n, ← div-div-eq-div-mul (moved (suc n) m) 16 (16 ^ n), ← div-div-eq-div-mul m 16 (16 ^ n), moved-high n m)
    (moved_beyond n (m / 16))

pub moved-number : (n m : ℕ) → sections_number n (moved n m) ≡ sections_number n m
unfolding sections_number
moved-number n m = rw (moved_beyond n m)

pub moved_at_most : (n m : ℕ) → moved n m ≤ m
unfolding moved
moved_at_most zero m = omega arith
moved_at_most (suc n) m = omega (arith, at_most (m % 16), moved_at_most n (m / 16))

-- it holds no retired adapter
pub moved_none : (n m : ℕ) → holds_retired n (moved n m) ≡ false
unfolding holds_retired
moved_none zero m = refl
moved_none (suc n) m = rw (moved-low n m, moved-high n m, current-none (m % 16)) (moved_none n (m / 16))

neither : (t u : Bool) → (t || u) ≡ false → (t ≡ false) × (u ≡ false)
neither true u h = absurd (true≢false h)
neither false u h = (refl, h)

-- an architecture that holds none stays as it is
pub moved_same : (n m : ℕ) → holds_retired n m ≡ false → moved n m ≡ m
unfolding holds_retired moved
moved_same zero m h = refl
moved_same (suc n) m h =
    let b = neither (retired (code_of (m % 16))) (holds_retired n (m / 16)) h in
    rw (current-same (m % 16) b.0, moved_same n (m / 16) b.1) (omega arith)

-- ---- made from the highest section down

-- nothing is moved where nothing is
moved-zero : (n : ℕ) → moved n 0 ≡ 0
unfolding moved current
moved-zero zero = refl
moved-zero (suc n) = rw (moved-zero n)

-- places beyond the word's hold nothing
moved-few : (n k m : ℕ) → m < 16 ^ n → moved (n + k) m ≡ moved n m
unfolding moved
moved-few zero k m l = let e : m ≡ 0 = omega arith in let f : 0 + k ≡ k = omega arith in rw (e, f) (moved-zero k)
moved-few (suc n) k m l =
    let p = pow-suc 16 n in let f : suc n + k ≡ suc (n + k) = omega arith in
    rw (f, moved-few n k (m / 16) (omega arith))

moved-eight : (n m : ℕ) → m < 16 ^ 8 → 8 < n → moved 8 m ≡ moved n m
moved-eight n m l h = let e : 8 + (n - 8) ≡ n = omega arith in sym (rw e at (moved-few 8 (n - 8) m l))

-- no more than eight need to be moved
pub moved_min : (n m k : ℕ) → m < 16 ^ 8 → k ≡ min n 8 → moved k m ≡ moved n m
moved_min n m k l e = pick (ltb 8 n) refl
  where
    pick : (b : Bool) → ltb 8 n ≡ b → moved k m ≡ moved n m
    pick true t = let h = ltb-true 8 n t in let f : k ≡ 8 = omega arith in rw f (moved-eight n m l h)
    pick false t = let h = ltb-false 8 n t in let f : k ≡ n = omega arith in rw f

-- the nibbles from place i on are moved
pub record Moving (n m i made : ℕ) : Type 0 where
  pub small : i ≤ n
  pub is : made ≡ moved (n - i) (m / 16 ^ i)

module _ (n m : ℕ) where
  pub moving_begins : Moving n m n (m / 16 ^ n)
  unfolding moved
  moving_begins = record { small = omega arith; is = rw (sub_self n) }

  module _ (i made : ℕ) (g : Moving n m i made) (h : 0 < i) where
    one_down : moved (n - (i - 1)) (m / 16 ^ (i - 1)) ≡ current (m / 16 ^ (i - 1) % 16) + 16 * made
    unfolding moved
    one_down =
        let s = g.small in
        let e : n - (i - 1) ≡ suc (n - i) = omega arith in
        let d : m / 16 ^ (i - 1) / 16 ≡ m / 16 ^ i =
        div-div-eq-div-mul m (16 ^ (i - 1)) 16 ∙ (let f : i ≡ suc (i - 1) = omega arith in rw (← pow-suc 16 (i - 1), ← f)) in
        rw (e, d, ← g.is)

    pub moving_on : Moving n m (i - 1) (16 * made + current (m / 16 ^ (i - 1) % 16))
    moving_on = let e = one_down in let s = g.small in record { small = omega arith; is = omega arith }

    -- what is made fits the architecture's word
    pub moving-small : 16 * made + current (m / 16 ^ (i - 1) % 16) ≤ m
    moving-small =
        let e = one_down in
        let l = moved_at_most (n - (i - 1)) (m / 16 ^ (i - 1)) in
        let k : m / 16 ^ (i - 1) ≤ m = div-le_self m (16 ^ (i - 1)) in
        omega arith

  pub moving-ends : (i made : ℕ) → Moving n m i made → i ≡ 0 → made ≡ moved n m
  moving-ends i made g e = rw (e, sub-zero n, div-one m) at g.is

-- ---- a moved filter

-- the sections pass the same, where the first passes the same and the rest does
passed_on : (s t : Section) (ss ts : List Section) (x : ℤ)
    → adapted s.code x s.cell s.coefficient ≡ adapted t.code x t.cell t.coefficient
    → ((y : ℤ) → passed ss y ≡ passed ts y) → passed (s ∷ ss) x ≡ passed (t ∷ ts) x
unfolding passed
passed_on s t ss ts x e f = rw (e, f (adapted t.code x t.cell t.coefficient).1)

moved_passes : (n m : ℕ) (cs zs : List ℤ) (x : ℤ) → passed (sections_of n (moved n m) cs zs) x ≡ passed (sections_of n m cs zs) x
unfolding sections_of
moved_passes zero m cs zs x = refl
moved_passes (suc n) m cs zs x =
    rw (moved-low n m, moved-high n m)
    (passed_on (section_of (current (m % 16)) cs zs) (section_of (m % 16) cs zs) (sections_of n (moved n (m / 16)) (drop 1 cs) (drop 1 zs))
    (sections_of n (m / 16) (drop 1 cs) (drop 1 zs)) x (same-ports (m % 16) x (get_or zs 0 (pos 0)) (get_or cs 0 (pos 0)))
    (moved_passes n (m / 16) (drop 1 cs) (drop 1 zs)))

module _ (s : Wdf) (x : ℤ) where
  moved-run : run (moved_wdf s) x ≡ run s x
  moved-run = moved_passes s.sections s.architecture s.a s.z x

  moved-answer : answer (moved_wdf s) x ≡ answer s x
  moved-answer = ap (λ (r : Passed). r.back) moved-run

  moved-next : next (moved_wdf s) x ≡ moved_wdf (next s x)
  moved-next =
      ap (λ (r : Passed). filter s.sections (moved s.sections s.architecture) s.a (r.cells ++ drop s.sections s.z)) moved-run

pub moved-scan : (s : Wdf) (xs : List ℤ) → scan answer next (moved_wdf s) xs ≡ scan answer next s xs
moved-scan s [] = refl
moved-scan s (x ∷ xs) = rw (moved-answer s x, moved-next s x, moved-scan (next s x) xs)

pub moved_ends : (s : Wdf) (xs : List ℤ) → ends answer next (moved_wdf s) xs ≡ moved_wdf (ends answer next s xs)
moved_ends s [] = refl
moved_ends s (x ∷ xs) = rw (moved-next s x) (moved_ends (next s x) xs)

-- moved behind the test or before it
moved-unless : (k : ℕ) (s t : Wdf) → unless k (moved_wdf s) (moved_wdf t) ≡ moved_wdf (unless k s t)
moved-unless k s t = by (eqb k 0)
  where
    by : (b : Bool) → cond b (moved_wdf t) (moved_wdf s) ≡ moved_wdf (cond b t s)
    by true = refl
    by false = refl

moved-step : (s : Wdf) (x : ℤ) → stepped (moved_wdf s) x ≡ moved_stepped (stepped s x)
unfolding stepped
moved-step s x =
    rw (moved-number s.sections s.architecture, moved-answer s x, moved-next s x, moved-unless (number s) s (next s x))

moved-block : (s t u : Wdf) (xs ys zs ws : List ℤ) (v w : Result (Unit {0}) Refusal)
    → Blocked (number s) answer next s xs ys t v zs → Blocked (number (moved_wdf s)) answer next (moved_wdf s) xs ys u w ws
    → (u ≡ moved_wdf t) × ((w ≡ v) × (ws ≡ zs))
moved-block s t u xs ys zs ws v w p q =
    let e = moved-number s.sections s.architecture in
    let k = lengths_number (number s) xs ys in (
      rw (e, moved_ends s xs, moved-unless k s (ends answer next s xs)) at q.state ∙ sym (ap moved_wdf p.state),
      (rw e at q.verdict ∙ sym p.verdict, rw (e, moved-scan s xs) at q.written ∙ sym p.written),
    )

-- a moved architecture is refused as before, and never with 53
new-moved : (n m : ℕ) → new_number n (moved n m) ≡ sections_number n m
unfolding new_number
new-moved n m = rw (moved-number n m, moved_none n m) (by (sections_number n m) (eqb (sections_number n m) 0) refl)
  where
    by : (k : ℕ) (t : Bool) → eqb k 0 ≡ t → cond t 0 k ≡ k
    by k true e = sym (eqb-true k 0 e)
    by k false e = refl

moved-made : (k : ℕ) (s : Wdf) → refusals.answer k (moved_wdf s) ≡ moved_answer (refusals.answer k s)
unfolding refusals.answer
moved-made zero s = refl
moved-made (suc k) s = refl

moved_new : (n m : ℕ) (a : List ℤ) → made n (moved n m) a ≡ moved_answer (made_form1 n m a)
unfolding made_unless
moved_new n m a = rw (new-moved n m) (moved-made (sections_number n m) (filter n m a (replicate 8 (pos 0))))

pub same-filter : SameFilter
same-filter = record { new = moved_new; step = moved-step; block = moved-block }
