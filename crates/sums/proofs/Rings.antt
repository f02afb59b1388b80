-- Delay lines as rings: inside a block a line's cells stay where they are and its oldest is at the place `at`, the same in every line.
-- A comb then stores one cell, and what the combs do is what they do on the lines with their oldest first.
use mathlib.Core.Path.{◌≡◌, refl, sym, ap, ◌∙◌}
use mathlib.Core.List.{List, [], ◌∷◌, ◌++◌, append_assoc, append-nil}
use mathlib.Core.Logic.{◌⊎◌, ⊎_elim}
use Prim.Native.Nat.{ℕ, zero, suc, ◌+◌, ◌-◌, ◌*◌, ◌<◌, ◌≤◌}
use native.Mathlib.Nat.{add-zero}
use native.Mathlib.Numerals.{add-one}
use native.Mathlib.Omega.{arith}
use lib.ListN.{length, get_or, take, drop, set, length-set, length-take, length-drop, length-append, take-append-drop, get_or-append}
use lib.ListN.{drop_of_length-le}
use lib.Seq.{length-take-le, take_all, take-set-le, take-set-lt, drop-set-lt, drop-set-add, take-suc-set, set-get_or, drop-drop, take-take}
use lib.Seq.{take_at, drop_at, drop-append-le, get_or-drop, get_or-take}
use Rattle.sums.specs.Ops.{Ops}
use Rattle.sums.specs.Machine.{pushed, less, combed, differed}
use Rattle.sums.specs.State.{rows, put_rows}
use Rattle.sums.proofs.Loops.{part_cells, part_comb, pushed_at}

-- rows of 8 cells, one after the other: f says what becomes of a row, g what is handed on to the next
unfoldable pub swept : {A B : Type 0} → (B → List A → List A) → (B → List A → B) → ℕ → B → List A → List A
swept f g zero x l = l
swept f g (suc n) x l = f x (take 8 l) ++ swept f g n (g x (take 8 l)) (drop 8 l)

unfoldable pub handed : {A B : Type 0} → (B → List A → B) → ℕ → B → List A → B
handed g zero x l = x
handed g (suc n) x l = handed g n (g x (take 8 l)) (drop 8 l)

-- a loop over rows, by what is left: row j of l has become what it becomes in k
module _ {A B : Type 0} (f : B → List A → List A) (g : B → List A → B) where
  module _ (n j : ℕ) (x y : B) (l k : List A) (below : j < n) (long : n * 8 ≤ length l) (keeps : length (f x (take 8 (drop (j * 8) l))) ≡ 8)
      (e : k ≡ take (j * 8) l ++ (f x (take 8 (drop (j * 8) l)) ++ drop (j * 8 + 8) l)) (h : y ≡ g x (take 8 (drop (j * 8) l))) where
    abbrev row : List A
    row = f x (take 8 (drop (j * 8) l))

    left : n - j ≡ suc (n - (j + 1))
    left = omega arith

    seam : length (take (j * 8) l ++ row) ≡ (j + 1) * 8
    seam = length-append (take (j * 8) l) row ∙ omega (arith, length-take-le (j * 8) l (omega arith), keeps)

    parts : k ≡ (take (j * 8) l ++ row) ++ drop 8 (drop (j * 8) l)
    parts = e ∙ ap (λ q. take (j * 8) l ++ (row ++ q)) (sym (drop-drop 8 (j * 8) l))
        ∙ sym (append_assoc (take (j * 8) l) row (drop 8 (drop (j * 8) l)))

    done : take ((j + 1) * 8) k ≡ take (j * 8) l ++ row
    done = ap (take ((j + 1) * 8)) parts ∙ take_at (take (j * 8) l ++ row) (drop 8 (drop (j * 8) l)) ((j + 1) * 8) seam

    rest : drop ((j + 1) * 8) k ≡ drop 8 (drop (j * 8) l)
    rest = ap (drop ((j + 1) * 8)) parts ∙ drop_at (take (j * 8) l ++ row) (drop 8 (drop (j * 8) l)) ((j + 1) * 8) seam

    pub sweep_turn : take (j * 8) l ++ swept f g (n - j) x (drop (j * 8) l)
        ≡ take ((j + 1) * 8) k ++ swept f g (n - (j + 1)) y (drop ((j + 1) * 8) k)
    unfolding swept
    sweep_turn = rw (left, done, rest, h) (sym (append_assoc (take (j * 8) l) row
        (swept f g (n - (j + 1)) (g x (take 8 (drop (j * 8) l))) (drop 8 (drop (j * 8) l)))))

    pub hand_turn : handed g (n - j) x (drop (j * 8) l) ≡ handed g (n - (j + 1)) y (drop ((j + 1) * 8) k)
    unfolding handed
    hand_turn = rw (left, rest, h)

    pub sweep_length : length k ≡ length l
    sweep_length = ap length e ∙ length-append (take (j * 8) l) (row ++ drop (j * 8 + 8) l)
        ∙ omega (arith, length-append row (drop (j * 8 + 8) l), length-drop (j * 8 + 8) l, length-take-le (j * 8) l (omega arith), keeps)

  module _ (n j : ℕ) (x : B) (l : List A) (low : j ≤ n) (high : n ≤ j) where
    none : n - j ≡ 0
    none = omega arith

    pub sweep_end : take (j * 8) l ++ swept f g (n - j) x (drop (j * 8) l) ≡ l
    unfolding swept
    sweep_end = rw none (take-append-drop (j * 8) l)

    pub hand_end : handed g (n - j) x (drop (j * 8) l) ≡ x
    unfolding handed
    hand_end = rw none

-- a line whose oldest cell is at the place k, with its oldest first
unfoldable pub rotated : {A : Type 0} → ℕ → List A → List A
rotated k l = drop k l ++ take k l

-- and so the first M cells of a row; the others stay
abbrev pub rolled : {A : Type 0} → ℕ → ℕ → List A → List A
rolled M k row = rotated k (take M row) ++ drop M row

-- the lines, oldest first, of the first n rows
abbrev pub turned : {A : Type 0} → ℕ → ℕ → ℕ → List A → List A
turned M k n l = swept (λ (u : Unit {0}) r. rolled M k r) (λ u r. u) n tt l

-- a comb in its ring: x is stored where the oldest cell is, and less that it is handed on
abbrev pub stored : {A : Type 0} → ℕ → A → List A → List A
stored k x row = set row k x

abbrev pub less_at_law : {A : Type 0} → Ops A → ℕ → A → List A → A
less_at_law o k x row = o.sub x (get_or row k o.nil)

module _ {A : Type 0} where
  rotated_none : (l : List A) → rotated 0 l ≡ l
  unfolding rotated
  rotated_none l = append-nil l

  rotated_round : (k : ℕ) (l : List A) → length l ≤ k → rotated k l ≡ l
  unfolding rotated
  rotated_round k l h = rw (drop_of_length-le l h, take_all k l h)

  pub rotated_length : (k : ℕ) (l : List A) → length (rotated k l) ≡ length l
  unfolding rotated
  rotated_length k l =
      length-append (drop k l) (take k l) ∙ omega (arith, ap length (take-append-drop k l), length-append (take k l) (drop k l))

  module _ (k : ℕ) (l : List A) (h : k < length l) where
    pub rotated_oldest : (d : A) → get_or (rotated k l) 0 d ≡ get_or l k d
    unfolding rotated
    rotated_oldest d =
        get_or-append (drop k l) (take k l) d 0 (omega (arith, length-drop k l)) ∙ get_or-drop k l 0 d ∙ ap (λ n. get_or l n d) (add-zero k)

    -- a push of the line is a store in its ring
    push_store : (x : A) → pushed (rotated k l) x ≡ rotated (suc k) (set l k x)
    unfolding rotated pushed
    push_store x =
        rw (
          drop-append-le 1 (drop k l) (take k l) (omega (arith, length-drop k l)),
          drop-drop 1 k l,
          add-one k,
          drop-set-lt (suc k) l k x (omega arith),
          take-suc-set l k x h,
        )
        (append_assoc (drop (suc k) l) (take k l) (x ∷ []))

    -- a push of its own oldest cell turns it by one
    pub push_oldest : (d : A) → pushed (rotated k l) (get_or (rotated k l) 0 d) ≡ rotated (suc k) l
    push_oldest d = ap (pushed (rotated k l)) (rotated_oldest d) ∙ push_store (get_or l k d) ∙ ap (rotated (suc k)) (set-get_or l k d)

-- the loop that turns a line of M cells at b back: k pushes of its own oldest cell
abbrev pub rolled_at : {A : Type 0} → ℕ → ℕ → ℕ → List A → List A
rolled_at b M k c = take b c ++ (rotated k (take M (drop b c)) ++ drop (b + M) c)

module _ {A : Type 0} (b M : ℕ) (c : List A) (fits : b + M ≤ length c) where
  pub roll_start : c ≡ rolled_at b M 0 c
  roll_start = sym (rw (rotated_none (take M (drop b c)), ← drop-drop M b c, take-append-drop M (drop b c)) (take-append-drop b c))

  module _ (k : ℕ) (a : List A) (ea : a ≡ rolled_at b M k c) where
    line : length (take M (drop b c)) ≡ M
    line = length-take-le M (drop b c) (omega (arith, length-drop b c))

    front : length (take b c) ≡ b
    front = length-take-le b c (omega arith)

    turning : length (rotated k (take M (drop b c))) ≡ M
    turning = rotated_length k (take M (drop b c)) ∙ line

    before : take b a ≡ take b c
    before = ap (take b) ea ∙ take_at (take b c) (rotated k (take M (drop b c)) ++ drop (b + M) c) b front

    from : drop b a ≡ rotated k (take M (drop b c)) ++ drop (b + M) c
    from = ap (drop b) ea ∙ drop_at (take b c) (rotated k (take M (drop b c)) ++ drop (b + M) c) b front

    here : take M (drop b a) ≡ rotated k (take M (drop b c))
    here = ap (take M) from ∙ take_at (rotated k (take M (drop b c))) (drop (b + M) c) M turning

    beyond : drop (b + M) a ≡ drop (b + M) c
    beyond = sym (drop-drop M b a) ∙ ap (drop M) from ∙ drop_at (rotated k (take M (drop b c))) (drop (b + M) c) M turning

    pub roll_length : length a ≡ length c
    roll_length = ap length ea ∙ length-append (take b c) (rotated k (take M (drop b c)) ++ drop (b + M) c)
        ∙ omega (arith, length-append (rotated k (take M (drop b c))) (drop (b + M) c), turning, front, length-drop (b + M) c)

    pub roll_turn : k < M → (d x : A) → x ≡ get_or a b d → pushed_at b M a x ≡ rolled_at b M (k + 1) c
    roll_turn h d x ex =
        let oldest : x ≡ get_or (rotated k (take M (drop b c))) 0 d =
        ex ∙ ap (λ n. get_or a n d) (sym (add-zero b)) ∙ sym (get_or-drop b a 0 d) ∙ sym (get_or-take M (drop b a) 0 d (omega arith))
        ∙ ap (λ l. get_or l 0 d) here in
        rw (before, here, beyond, oldest, push_oldest k (take M (drop b c)) (omega (arith, line)) d, add-one k)

-- a line turned back is its row turned back
module _ {A : Type 0} (M k n j : ℕ) (c : List A) (m : M ≤ 8) (below : j < n) (long : n * 8 ≤ length c) where
  abbrev lane : List A
  lane = take 8 (drop (j * 8) c)

  whole : length lane ≡ 8
  whole = length-take-le 8 (drop (j * 8) c) (omega (arith, length-drop (j * 8) c))

  pub rolled_length : length (rolled M k lane) ≡ 8
  rolled_length = length-append (rotated k (take M lane)) (drop M lane)
      ∙ omega (arith, rotated_length k (take M lane), length-take-le M lane (omega (arith, whole)), length-drop M lane, whole)

  pub rolled_row : rolled_at (j * 8) M k c ≡ take (j * 8) c ++ (rolled M k lane ++ drop (j * 8 + 8) c)
  rolled_row =
      let d : List A = drop (j * 8) c in
      let e : drop (j * 8 + M) c ≡ drop M lane ++ drop (j * 8 + 8) c =
      sym (drop-drop M (j * 8) c) ∙ ap (drop M) (sym (take-append-drop 8 d)) ∙ drop-append-le M lane (drop 8 d) (omega (arith, whole))
      ∙ ap (λ q. drop M lane ++ q) (drop-drop 8 (j * 8) c) in
      rw (e, take-take M 8 d m) (ap (λ q. take (j * 8) c ++ q)
      (sym (append_assoc (rotated k (take M d)) (drop M lane) (drop (j * 8 + 8) c))))

  -- a cell of a row
  pub stored_row : (x : A) → k < 8 → set c (j * 8 + k) x ≡ take (j * 8) c ++ (stored k x lane ++ drop (j * 8 + 8) c)
  stored_row x h =
      sym (take-append-drop (j * 8) (set c (j * 8 + k) x))
      ∙ rw (take-set-le (j * 8) c (j * 8 + k) x (omega arith), drop-set-add (j * 8) c k x)
      (ap (λ q. take (j * 8) c ++ q) (sym (take-append-drop 8 (set (drop (j * 8) c) k x))
      ∙ rw (take-set-lt 8 (drop (j * 8) c) k x h, drop-set-lt 8 (drop (j * 8) c) k x h, drop-drop 8 (j * 8) c)))

  pub stored_length : (x : A) → length (stored k x lane) ≡ 8
  stored_length x = length-set lane k x ∙ whole

  pub stored_cell : (d : A) → k < 8 → get_or c (j * 8 + k) d ≡ get_or lane k d
  stored_cell d h = sym (get_or-take 8 (drop (j * 8) c) k d h ∙ get_or-drop (j * 8) c k d)

-- all the lines
module _ {A : Type 0} (M : ℕ) (m : M ≤ 8) where
  pub turned_none : (n : ℕ) (l : List A) → turned M 0 n l ≡ l
  unfolding swept
  turned_none zero l = refl
  turned_none (suc n) l =
      rw (rotated_none (take M (take 8 l)), turned_none n (drop 8 l), take-append-drop M (take 8 l)) (take-append-drop 8 l)

  turned_round : (n : ℕ) (l : List A) → turned M M n l ≡ l
  unfolding swept
  turned_round zero l = refl
  turned_round (suc n) l =
      let short : length (take M (take 8 l)) ≤ M = omega (arith, length-take M (take 8 l)) in
      rw (rotated_round M (take M (take 8 l)) short, turned_round n (drop 8 l), take-append-drop M (take 8 l)) (take-append-drop 8 l)

  -- the place after k in a ring of M cells
  pub turned-next : (n k r : ℕ) (l : List A) → (r ≡ k + 1) ⊎ ((r ≡ 0) × (k + 1 ≡ M)) → turned M r n l ≡ turned M (k + 1) n l
  turned-next n k r l h =
      ⊎_elim
      (λ e. ap (λ i. turned M i n l) e)
      (λ w. ap (λ i. turned M i n l) w.0 ∙ turned_none n l ∙ sym (turned_round n l) ∙ ap (λ i. turned M i n l) (sym w.1))
      h

  pub stores_length : (o : Ops A) (k n : ℕ) (x : A) (l : List A) → n * 8 ≤ length l → length (swept (stored k) (less_at_law o k) n x l)
      ≡ length l
  unfolding swept
  stores_length o k zero x l f = refl
  stores_length o k (suc n) x l f =
      length-append (stored k x (take 8 l)) (swept (stored k) (less_at_law o k) n (less_at_law o k x (take 8 l)) (drop 8 l))
      ∙ omega (
        arith,
        stored_length M k (suc n) 0 l m (omega arith) f x,
        stores_length o k n (less_at_law o k x (take 8 l)) (drop 8 l) (rw length-drop (omega arith)),
        length-drop 8 l,
      )

  -- the combs on the lines are the stores in their rings
  module _ (o : Ops A) (k : ℕ) (inside : k < M) where
    module _ (n : ℕ) (l : List A) (f : suc n * 8 ≤ length l) where
      abbrev r : List A
      r = take 8 l

      abbrev t : List A
      t = rolled M k r ++ turned M k n (drop 8 l)

      eight : length r ≡ 8
      eight = length-take-le 8 l (omega arith)

      cells : length (take M r) ≡ M
      cells = length-take-le M r (omega (arith, eight))

      lined : length (rotated k (take M r)) ≡ M
      lined = rotated_length k (take M r) ∙ cells

      t_line : take M t ≡ rotated k (take M r)
      t_line = ap (take M) (append_assoc (rotated k (take M r)) (drop M r) (turned M k n (drop 8 l)))
          ∙ take_at (rotated k (take M r)) (drop M r ++ turned M k n (drop 8 l)) M lined

      rolls : length (rolled M k r) ≡ 8
      rolls = rolled_length M k (suc n) 0 l m (omega arith) f

      t_others : drop M (take 8 t) ≡ drop M r
      t_others = ap (drop M) (take_at (rolled M k r) (turned M k n (drop 8 l)) 8 rolls) ∙ drop_at (rotated k (take M r)) (drop M r) M lined

      t_rest : drop 8 t ≡ turned M k n (drop 8 l)
      t_rest = drop_at (rolled M k r) (turned M k n (drop 8 l)) 8 rolls

      t_less : (x : A) → less o (rotated k (take M r)) x ≡ less_at_law o k x r
      unfolding less
      t_less x = ap (o.sub x) (rotated_oldest k (take M r) (omega (arith, cells)) o.nil ∙ get_or-take M r k o.nil inside)

      t_pushed : (x : A) → pushed (rotated k (take M r)) x ++ drop M r ≡ rolled M (k + 1) (stored k x r)
      t_pushed x = rw (add-one k, take-set-lt M r k x inside, drop-set-lt M r k x inside, push_store k (take M r) (omega (arith, cells)) x)

      module _ (x : A) (q : List A) where
        s_row : take 8 (stored k x r ++ q) ≡ stored k x r
        s_row = take_at (stored k x r) q 8 (length-set r k x ∙ eight)

        s_rest : drop 8 (stored k x r ++ q) ≡ q
        s_rest = drop_at (stored k x r) q 8 (length-set r k x ∙ eight)

    pub ring_last : (n : ℕ) (x : A) (l : List A) → n * 8 ≤ length l → part_comb o M n (turned M k n l) x ≡ handed (less_at_law o k) n x l
    unfolding swept handed rows differed
    ring_last zero x l f = refl
    ring_last (suc n) x l f =
        rw (t_line n l f, t_rest n l f, t_less n l f x) (ring_last n (less_at_law o k x (take 8 l)) (drop 8 l) (rw length-drop (omega arith)))

    pub ring_cells : (n : ℕ) (x : A) (l : List A) → n * 8 ≤ length l
        → part_cells o M n (turned M k n l) x ≡ turned M (k + 1) n (swept (stored k) (less_at_law o k) n x l)
    unfolding swept rows put_rows combed
    ring_cells zero x l f = refl
    ring_cells (suc n) x l f =
        let y : A = less_at_law o k x (take 8 l) in
        let q : List A = swept (stored k) (less_at_law o k) n y (drop 8 l) in
        rw (
          t_line n l f,
          t_others n l f,
          t_rest n l f,
          t_less n l f x,
          ring_cells n y (drop 8 l) (rw length-drop (omega arith)),
          s_row n l f x q,
          s_rest n l f x q,
          ← t_pushed n l f x,
        )
        (sym (append_assoc (pushed (rotated k (take M (take 8 l))) x) (drop M (take 8 l)) (turned M (k + 1) n q)))
