-- A loop that runs a step over one slice and writes another: what holds at each turn, once for every state and step.
use mathlib.Core.Path.{◌≡◌, refl, sym, ◌∙◌}
use mathlib.Core.Bool.{Bool, true, false}
use mathlib.Core.List.{List, [], ◌++◌, append_assoc, append-nil}
use Prim.Native.Nat.{ℕ, ◌+◌, ◌≤◌, ◌<◌, min}
use lib.Dec.{leb}
use borrow.Author.Tests.{leb-true, leb-false}
use native.Mathlib.Numerals.{add-one}
use native.Mathlib.Omega.{arith}
use lib.ListN.{length, take, drop, get_or, set, length-set, drop_of_length-le, take-append-drop}
use lib.Seq.{drop-cons, take-suc-set, take_all, drop-set-lt, length-take-le}
use Rattle.blocks.specs.Scan.{scan, ends}
use Rattle.blocks.specs.Blocks.{Ran, Fed}

-- what is written, and what the rest would give, are the whole
pub record Going {S A B : Type 0} (out : S → A → B) (next : S → A → S) (s₀ : S) (xs : List A) (ys : List B) (s : S) (i : ℕ) : Type 0 where
  pub small : i ≤ length xs
  pub same : length ys ≡ length xs
  pub wrote : take i ys ++ scan out next s (drop i xs) ≡ scan out next s₀ xs
  pub state : ends out next s (drop i xs) ≡ ends out next s₀ xs

module _ {S A B : Type 0} (out : S → A → B) (next : S → A → S) (s₀ : S) (xs : List A) where
  pub start : (ys : List B) → length ys ≡ length xs → Going out next s₀ xs ys s₀ 0
  start ys e = record { small = omega arith; same = e; wrote = refl; state = refl }

  pub turn : (ys : List B) (s : S) (i : ℕ) (d : A) → i < length xs → Going out next s₀ xs ys s i
      → Going out next s₀ xs (set ys i (out s (get_or xs i d))) (next s (get_or xs i d)) (i + 1)
  turn ys s i d h g =
      let short : i < length ys = omega arith in
      record {
        small = omega arith;
        same = length-set ys i (out s (get_or xs i d)) ∙ g.same;
        wrote = rw (add-one, take-suc-set ys i, append_assoc) (rw (drop-cons xs i d) at g.wrote);
        state = rw add-one (rw (drop-cons xs i d) at g.state);
      }

  pub done : (ys : List B) (s : S) (i : ℕ) → length xs ≤ i → Going out next s₀ xs ys s i
      → (s ≡ ends out next s₀ xs) × (ys ≡ scan out next s₀ xs)
  done ys s i h g =
      let short : length ys ≤ i = omega arith in
      (rw (drop_of_length-le xs) at g.state, rw (drop_of_length-le xs, append-nil, take_all) at g.wrote)

-- The same over the first n inputs, where the slice may have room for more.
pub record Feeding {S A B : Type 0} (out : S → A → B) (next : S → A → S) (s₀ : S) (xs : List A) (ys₀ ys : List B) (s : S) (i : ℕ) : Type 0 where
  pub small : i ≤ length xs
  pub room : length xs ≤ length ys₀
  pub same : length ys ≡ length ys₀
  pub wrote : take i ys ++ (scan out next s (drop i xs) ++ drop (length xs) ys) ≡ scan out next s₀ xs ++ drop (length xs) ys₀
  pub state : ends out next s (drop i xs) ≡ ends out next s₀ xs

module _ {S A B : Type 0} (out : S → A → B) (next : S → A → S) (s₀ : S) (xs : List A) (ys₀ : List B) where
  pub feeds : length xs ≤ length ys₀ → Feeding out next s₀ xs ys₀ ys₀ s₀ 0
  feeds h = record { small = omega arith; room = h; same = refl; wrote = refl; state = refl }

  pub fed_on : (ys : List B) (s : S) (i : ℕ) (d : A) → i < length xs → Feeding out next s₀ xs ys₀ ys s i
      → Feeding out next s₀ xs ys₀ (set ys i (out s (get_or xs i d))) (next s (get_or xs i d)) (i + 1)
  fed_on ys s i d h g =
      let short : i < length ys = omega (arith, g.same, g.room) in
      let b = out s (get_or xs i d) in
      record {
        small = omega arith;
        room = g.room;
        same = length-set ys i b ∙ g.same;
        wrote = rw (add-one, take-suc-set ys i, append_assoc, drop-set-lt (length xs) ys i b h) (rw (drop-cons xs i d) at g.wrote);
        state = rw add-one (rw (drop-cons xs i d) at g.state);
      }

  pub fed_all : (ys : List B) (s : S) (i : ℕ) → length xs ≤ i → Feeding out next s₀ xs ys₀ ys s i
      → (s ≡ ends out next s₀ xs) × (ys ≡ scan out next s₀ xs ++ drop (length xs) ys₀)
  fed_all ys s i h g =
      let e : i ≡ length xs = omega (arith, g.small) in (
        rw (drop_of_length-le xs h) at g.state,
        sym (take-append-drop (length xs) ys) ∙ rw (e, drop_of_length-le xs {i = length xs} (omega arith)) at g.wrote,
      )

-- as many inputs as there is room for
pub fed_min : {S A B : Type 0} (out : S → A → B) (next : S → A → S) (s : S) (xs : List A) (ys : List B) (t : S) (zs : List B) (n : ℕ)
    → n ≡ min (length xs) (length ys)
    → (t ≡ ends out next s (take n xs)) × (zs ≡ scan out next s (take n xs) ++ drop (length (take n xs)) ys) → Fed out next s xs ys t zs
fed_min out next s xs ys t zs n e h = by (leb (length ys) (length xs)) refl
  where
    by : (b : Bool) → leb (length ys) (length xs) ≡ b → Fed out next s xs ys t zs
    by true f =
        let l = leb-true (length ys) (length xs) f in
        let m : n ≡ length ys = omega (arith, e) in
        let k : length (take (length ys) xs) ≡ length ys = length-take-le (length ys) xs l in
        let d : drop (length ys) ys ≡ drop (length xs) ys = drop_of_length-le ys (omega arith) ∙ sym (drop_of_length-le ys l) in
        record { state = rw m at h.0; written = rw (m, k, d) at h.1 }
    by false f =
        let l = leb-false (length ys) (length xs) f in
        let m : n ≡ length xs = omega (arith, e) in
        let w : take (length ys) xs ≡ xs = take_all (length ys) xs (omega arith) in
        let v : take (length xs) xs ≡ xs = take_all (length xs) xs (omega arith) in
        record { state = rw w (rw (m, v) at h.0); written = rw w (rw (m, v) at h.1) }

-- with as many places as inputs
pub fed-ran : {S A B : Type 0} (out : S → A → B) (next : S → A → S) (s : S) (xs : List A) (ys : List B) (t : S) (zs : List B)
    → length xs ≡ length ys → Fed out next s xs ys t zs → Ran out next s xs t zs
fed-ran out next s xs ys t zs e f =
    let w : take (length ys) xs ≡ xs = take_all (length ys) xs (omega arith) in
    let d : drop (length xs) ys ≡ [] = drop_of_length-le ys (omega arith) in
    (rw w at f.state, rw (w, d, append-nil) at f.written)
