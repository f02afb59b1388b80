-- A number has one spelling: what is spelt reads as the number, and only that does.
use native.Mathlib.Omega.{arith}
use native.Mathlib.Nat.{pow-suc}
use mathlib.Core.Path.{◌≡◌, refl, sym, ap, ◌∙◌}
use mathlib.Core.Bool.{Bool, true, false, cond, ◌&&◌}
use mathlib.Core.List.{List, [], ◌∷◌, ◌++◌, append_assoc, append-nil}
use Prim.Native.Nat.{ℕ, zero, suc, ◌+◌, ◌-◌, ◌*◌, ◌/◌, ◌%◌, ◌^◌, ◌≤◌, ◌<◌}
use lib.Dec.{leb, ltb, eqb}
use borrow.Author.Tests.{lt-ltb, le-ltb, ltb-true, ltb-false, le-leb, leb-true, leb-false, ne_eqb, eqb-true, eqb-false}
use Rattle.text.specs.Numbers.{is_digit, digits_from, turned, leading_of, plain_of, plus, number_of, spelt, decimal_of}
use Rattle.std.specs.Prelude.{Option, Some, None}
use Rattle.text.specs.declared.numbers.Number.TheVariants.{Plus, Minus}

one : (k n : ℕ) → n < 10 → spelt (suc k) n ≡ (48 + n) ∷ []
unfolding spelt
one k n h = rw (lt-ltb _ _ h)

more : (k n : ℕ) → 10 ≤ n → spelt (suc k) n ≡ spelt k (n / 10) ++ ((48 + n % 10) ∷ [])
unfolding spelt
more k n h = rw (le-ltb _ _ h)

-- the budget does not matter where it is enough
pub budget : (j k n : ℕ) → n < 10 ^ suc j → n < 10 ^ suc k → spelt (suc j) n ≡ spelt (suc k) n
budget zero k n h g = one zero n (omega arith) ∙ sym (one k n (omega arith))
budget (suc j) zero n h g = one (suc j) n (omega arith) ∙ sym (one zero n (omega arith))
budget (suc j) (suc k) n h g =
    let p = pow-suc 10 (suc j) in
    let q = pow-suc 10 (suc k) in
    by (ltb n 10) refl (budget j k (n / 10) (omega arith) (omega arith))
  where
    by : (t : Bool) → ltb n 10 ≡ t → spelt (suc j) (n / 10) ≡ spelt (suc k) (n / 10) → spelt (suc (suc j)) n ≡ spelt (suc (suc k)) n
    by true e f = one (suc j) n (ltb-true n 10 e) ∙ sym (one (suc k) n (ltb-true n 10 e))
    by false e f =
        let t = ltb-false n 10 e in
        more (suc j) n t ∙ ap (λ (l : List ℕ). l ++ ((48 + n % 10) ∷ [])) f ∙ sym (more (suc k) n t)

digit_yes : (b : ℕ) → 48 ≤ b → b ≤ 57 → is_digit b ≡ true
digit_yes b h k = rw (le-leb _ _ h, le-leb _ _ k)

digit_is : (b : ℕ) → is_digit b ≡ true → (48 ≤ b) × (b ≤ 57)
digit_is b e = by (leb 48 b) refl (leb b 57) refl e
  where
    by : (t : Bool) → leb 48 b ≡ t → (u : Bool) → leb b 57 ≡ u → (t && u) ≡ true → (48 ≤ b) × (b ≤ 57)
    by true p true q k = (leb-true _ _ p, leb-true _ _ q)
    by true p false q k = absurd (let z : ◌≡◌ {A = ℕ} 0 1 = cc in omega arith)
    by false p u q k = absurd (let z : ◌≡◌ {A = ℕ} 0 1 = cc in omega arith)

-- a digit more
digits_snoc : (v : ℕ) (l : List ℕ) (w d : ℕ) → digits_from v l ≡ Some w → d ≤ 9 → digits_from v (l ++ ((48 + d) ∷ [])) ≡ Some (w * 10 + d)
unfolding digits_from
digits_snoc v [] w d e h =
    let p : v ≡ w = cc in
    let m : 48 + d - 48 ≡ d = omega arith in
    rw (digit_yes (48 + d) (omega arith) (omega arith), m, p)
digits_snoc v (b ∷ l) w d e h = by (is_digit b) refl (λ k. digits_snoc (v * 10 + (b - 48)) l w d k h) e
  where
    by : (t : Bool) → is_digit b ≡ t →
        (digits_from (v * 10 + (b - 48)) l ≡ Some w → digits_from (v * 10 + (b - 48)) (l ++ ((48 + d) ∷ [])) ≡ Some (w * 10 + d))
        → cond t (digits_from (v * 10 + (b - 48)) l) None ≡ Some w → cond (is_digit b)
        (digits_from (v * 10 + (b - 48)) (l ++ ((48 + d) ∷ []))) None ≡ Some (w * 10 + d)
    by true f g k = rw f (g k)
    by false f g k = absurd (let z : ◌≡◌ {A = ℕ} 0 1 = cc in omega arith)

digits_one : (k n : ℕ) → n < 10 → digits_from 0 (spelt (suc k) n) ≡ Some n
unfolding digits_from
digits_one k n g =
    let m : 48 + n - 48 ≡ n = omega arith in
    rw (one k n g, digit_yes (48 + n) (omega arith) (omega arith), m) (ap Some (omega arith))

pub digits_spelt : (k n : ℕ) → n < 10 ^ suc k → digits_from 0 (spelt (suc k) n) ≡ Some n
digits_spelt zero n h = digits_one zero n (omega arith)
digits_spelt (suc k) n h = let p = pow-suc 10 (suc k) in by (ltb n 10) refl (digits_spelt k (n / 10) (omega arith))
  where
    by : (t : Bool) → ltb n 10 ≡ t → digits_from 0 (spelt (suc k) (n / 10)) ≡ Some (n / 10) → digits_from 0 (spelt (suc (suc k)) n) ≡ Some n
    by true e f = digits_one (suc k) n (ltb-true n 10 e)
    by false e f =
        ap (digits_from 0) (more (suc k) n (ltb-false n 10 e))
        ∙ digits_snoc 0 (spelt (suc k) (n / 10)) (n / 10) (n % 10) f (omega arith)
        ∙ ap Some (omega arith)

-- the first digit of a number above 0 is not 0, and is no minus
pub record Leads (l : List ℕ) : Type 0 where
  pub first : ℕ
  pub rest : List ℕ
  pub is : l ≡ first ∷ rest
  pub low : 49 ≤ first

leads_one : (k n : ℕ) → 1 ≤ n → n < 10 → Leads (spelt (suc k) n)
leads_one k n p h = record { first = 48 + n; rest = []; is = one k n h; low = omega arith }

pub leads : (k n : ℕ) → 1 ≤ n → n < 10 ^ suc k → Leads (spelt (suc k) n)
leads zero n p h = leads_one zero n p (omega arith)
leads (suc k) n p h = let q = pow-suc 10 (suc k) in by (ltb n 10) refl (λ m. leads k (n / 10) m (omega arith))
  where
    by : (t : Bool) → ltb n 10 ≡ t → (1 ≤ n / 10 → Leads (spelt (suc k) (n / 10))) → Leads (spelt (suc (suc k)) n)
    by true e f = leads_one (suc k) n p (ltb-true n 10 e)
    by false e f =
        let t = ltb-false n 10 e in
        let r = f (omega arith) in
        record {
          first = r.first;
          rest = r.rest ++ ((48 + n % 10) ∷ []);
          is = more (suc k) n t ∙ ap (λ (l : List ℕ). l ++ ((48 + n % 10) ∷ [])) r.is;
          low = r.low;
        }

number_led : (b : ℕ) (l : List ℕ) → 49 ≤ b → number_of (b ∷ l) ≡ plus (digits_from 0 (b ∷ l))
unfolding number_of plain_of leading_of
number_led b [] h =
    let p : b ≡ 45 → ⊥ = λ e. omega arith in
    let q : b ≡ 48 → ⊥ = λ e. omega arith in
    rw (ne_eqb b 45 p, ne_eqb b 48 q)
number_led b (d ∷ l) h =
    let p : b ≡ 45 → ⊥ = λ e. omega arith in
    let q : b ≡ 48 → ⊥ = λ e. omega arith in
    rw (ne_eqb b 45 p, ne_eqb b 48 q)

-- what is spelt reads as the number
pub number-spelt : (n : ℕ) → n < 10 ^ 20 → number_of (decimal_of n) ≡ Some (Plus n)
unfolding number_of plain_of spelt
number-spelt zero h = refl
number-spelt (suc n) h =
    let r = leads 19 (suc n) (omega arith) h in
    ap number_of r.is ∙ number_led r.first r.rest r.low ∙ ap plus (ap (digits_from 0) (sym r.is) ∙ digits_spelt 19 (suc n) h)

-- digits after those of v
grows : (l : List ℕ) (v n : ℕ) → digits_from v l ≡ Some n → v ≤ n
unfolding digits_from
grows [] v n e = let p : v ≡ n = cc in omega arith
grows (b ∷ l) v n e = by (is_digit b) (grows l (v * 10 + (b - 48)) n) e
  where
    by : (t : Bool) → (digits_from (v * 10 + (b - 48)) l ≡ Some n → v * 10 + (b - 48) ≤ n) → cond t
        (digits_from (v * 10 + (b - 48)) l) None ≡ Some n → v ≤ n
    by true f k = let h = f k in omega arith
    by false f k = absurd (let z : ◌≡◌ {A = ℕ} 0 1 = cc in omega arith)

spelt_on : (l : List ℕ) (v n : ℕ) → 1 ≤ v → n < 10 ^ 20 → digits_from v l ≡ Some n → spelt 20 n ≡ spelt 20 v ++ l
unfolding digits_from
spelt_on [] v n p h e = let q : v ≡ n = cc in ap (spelt 20) (sym q) ∙ sym (append-nil (spelt 20 v))
spelt_on (b ∷ l) v n p h e = by (is_digit b) refl (λ m k. spelt_on l (v * 10 + (b - 48)) n m h k) e
  where
    by : (t : Bool) → is_digit b ≡ t →
        (1 ≤ v * 10 + (b - 48) → digits_from (v * 10 + (b - 48)) l ≡ Some n → spelt 20 n ≡ spelt 20 (v * 10 + (b - 48)) ++ l)
        → cond t (digits_from (v * 10 + (b - 48)) l) None ≡ Some n → spelt 20 n ≡ spelt 20 v ++ (b ∷ l)
    by true f r k =
        let g = digit_is b f in
        let w = v * 10 + (b - 48) in
        let top = grows l w n k in
        let d : w / 10 ≡ v = omega arith in
        let m : 48 + w % 10 ≡ b = omega arith in
        let s : spelt 20 w ≡ spelt 20 v ++ (b ∷ []) =
        more 19 w (omega arith) ∙ ap (λ (x : ℕ). spelt 19 x ++ ((48 + w % 10) ∷ [])) d ∙ ap (λ (x : ℕ). spelt 19 v ++ (x ∷ [])) m
        ∙ ap (λ (x : List ℕ). x ++ (b ∷ [])) (budget 18 19 v (omega arith) (omega arith)) in
        r (omega arith) k ∙ ap (λ (x : List ℕ). x ++ l) s ∙ append_assoc (spelt 20 v) (b ∷ []) l
    by false f r k = absurd (let z : ◌≡◌ {A = ℕ} 0 1 = cc in omega arith)

above : (b : ℕ) → 48 ≤ b → (b ≡ 48 → ⊥) → 49 ≤ b
above b h c = by (leb 49 b) refl
  where
    by : (t : Bool) → leb 49 b ≡ t → 49 ≤ b
    by true e = leb-true 49 b e
    by false e = let k = leb-false 49 b e in absurd (c (omega arith))

leading_one : (l : List ℕ) (n : ℕ) → n < 10 ^ 20 → leading_of l ≡ Some n → l ≡ decimal_of n
unfolding leading_of digits_from
leading_one [] n h e = absurd (let z : ◌≡◌ {A = ℕ} 0 1 = cc in omega arith)
leading_one (b ∷ l) n h e = by (eqb b 48) refl (is_digit b) refl e
  where
    by : (t : Bool) → eqb b 48 ≡ t → (u : Bool) → is_digit b ≡ u → cond t None (cond u (digits_from (0 * 10 + (b - 48)) l) None)
        ≡ Some n → b ∷ l ≡ decimal_of n
    by true f u g k = absurd (let z : ◌≡◌ {A = ℕ} 0 1 = cc in omega arith)
    by false f false g k = absurd (let z : ◌≡◌ {A = ℕ} 0 1 = cc in omega arith)
    by false f true g k =
        let d = digit_is b g in
        let c = eqb-false b 48 f in
        let low : 49 ≤ b = above b d.0 c in
        let z : 0 * 10 + (b - 48) ≡ b - 48 = omega arith in
        let m : 48 + (b - 48) ≡ b = omega arith in
        let j : digits_from (b - 48) l ≡ Some n = rw z at k in
        sym (spelt_on l (b - 48) n (omega arith) h j ∙ ap (λ (x : List ℕ). x ++ l)
        (one 19 (b - 48) (omega arith) ∙ ap (λ (x : ℕ). x ∷ []) m))

-- and only that reads so
pub number-one : (l : List ℕ) (n : ℕ) → n < 10 ^ 20 → number_of l ≡ Some (Plus n) → l ≡ decimal_of n
unfolding number_of plain_of spelt
number-one [] n h e = absurd (let z : ◌≡◌ {A = ℕ} 0 1 = cc in omega arith)
number-one (b ∷ l) n h e = by (eqb b 45) l e
  where
    minus : (m : Option ℕ) → turned m ≡ Some (Plus n) → ⊥
    minus (Some v) k = let z : ◌≡◌ {A = ℕ} 0 1 = cc in omega arith
    minus None k = let z : ◌≡◌ {A = ℕ} 0 1 = cc in omega arith

    size : (m : Option ℕ) → plus m ≡ Some (Plus n) → m ≡ Some n
    size (Some v) k = cc
    size None k = absurd (let z : ◌≡◌ {A = ℕ} 0 1 = cc in omega arith)

    zeros : (t : Bool) → eqb b 48 ≡ t → cond t (Some 0) (leading_of (b ∷ [])) ≡ Some n → b ∷ [] ≡ decimal_of n
    zeros true f k =
        let p : 0 ≡ n = cc in
        let q = eqb-true b 48 f in
        ap (λ (x : ℕ). x ∷ []) q ∙ ap decimal_of p
    zeros false f k = leading_one (b ∷ []) n h k

    by : (t : Bool) (l : List ℕ) → cond t (turned (leading_of l)) (plus (plain_of (b ∷ l))) ≡ Some (Plus n) → b ∷ l ≡ decimal_of n
    by true l k = absurd (minus (leading_of l) k)
    by false [] k = zeros (eqb b 48) refl (size (plain_of (b ∷ [])) k)
    by false (d ∷ l) k = leading_one (b ∷ d ∷ l) n h (size (leading_of (b ∷ d ∷ l)) k)

-- below zero: a minus and digits that do not begin with 0
leading_led : (b : ℕ) (l : List ℕ) → 49 ≤ b → leading_of (b ∷ l) ≡ digits_from 0 (b ∷ l)
unfolding leading_of
leading_led b l h = let q : b ≡ 48 → ⊥ = λ e. omega arith in rw (ne_eqb b 48 q)

pub minus-spelt : (n : ℕ) → 1 ≤ n → n < 10 ^ 20 → number_of (45 ∷ decimal_of n) ≡ Some (Minus n)
unfolding number_of
minus-spelt n p h =
    let r = leads 19 n p h in
    ap turned (ap leading_of r.is ∙ leading_led r.first r.rest r.low ∙ ap (digits_from 0) (sym r.is) ∙ digits_spelt 19 n h)

leading_some : (l : List ℕ) → leading_of l ≡ Some 0 → ⊥
unfolding leading_of spelt
leading_some l e =
    let p = leading_one l 0 (omega arith) e in
    let q : leading_of l ≡ None = ap leading_of p in
    let z : ◌≡◌ {A = ℕ} 0 1 = cc in omega arith

-- and only these read so
pub minus_one_law : (l : List ℕ) (n : ℕ) → n < 10 ^ 20 → number_of l ≡ Some (Minus n) → (l ≡ 45 ∷ decimal_of n) × (1 ≤ n)
unfolding number_of
minus_one_law [] n h e = absurd (let z : ◌≡◌ {A = ℕ} 0 1 = cc in omega arith)
minus_one_law (b ∷ l) n h e = by (eqb b 45) refl e
  where
    some_size : (k : ℕ) → leading_of l ≡ Some k → 1 ≤ k
    some_size zero f = absurd (leading_some l f)
    some_size (suc k) f = omega arith

    below : b ≡ 45 → (m : Option ℕ) → leading_of l ≡ m → turned m ≡ Some (Minus n) → (b ∷ l ≡ 45 ∷ decimal_of n) × (1 ≤ n)
    below q (Some v) f k =
        let p : v ≡ n = cc in
        let g : leading_of l ≡ Some n = f ∙ ap Some p in
        (ap (λ (x : ℕ). x ∷ l) q ∙ ap (λ (x : List ℕ). 45 ∷ x) (leading_one l n h g), some_size n g)
    below q None f k = absurd (let z : ◌≡◌ {A = ℕ} 0 1 = cc in omega arith)

    more_than : (m : Option ℕ) → plus m ≡ Some (Minus n) → ⊥
    more_than (Some v) k = let z : ◌≡◌ {A = ℕ} 0 1 = cc in omega arith
    more_than None k = let z : ◌≡◌ {A = ℕ} 0 1 = cc in omega arith

    by : (t : Bool) → eqb b 45 ≡ t → cond t (turned (leading_of l)) (plus (plain_of (b ∷ l))) ≡ Some (Minus n)
        → (b ∷ l ≡ 45 ∷ decimal_of n) × (1 ≤ n)
    by true f k = below (eqb-true b 45 f) (leading_of l) refl k
    by false f k = absurd (more_than (plain_of (b ∷ l)) k)
