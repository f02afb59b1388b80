-- What the loops of a step hold at each turn: the integrators one by one, a delay line's cells one by one, the combs one by one.
-- An invariant cites `part_ints` and `part_sum`, `shifted`, `part_cells` and `part_comb`; each has a start, a turn at the code's
-- index i + 1, and an end.
use mathlib.Core.Path.{◌≡◌, refl, sym, ap, ap₂, subst, ◌∙◌}
use mathlib.Core.List.{List, [], ◌∷◌, ◌++◌, append_assoc}
use Prim.Native.Nat.{ℕ, zero, suc, ◌+◌, ◌*◌, ◌≤◌, ◌<◌}
use native.Mathlib.Omega.{arith}
use native.Mathlib.Nat.{add-zero, zero-add, add-suc}
use native.Mathlib.Numerals.{add-one}
use lib.ListN.{length, get_or, take, drop, set, length-take, length-drop, length-append, take-append-drop}
use lib.Seq.{take-suc, drop-cons, set_at, get_or_at, length-take-le, take-append-add, drop-append-add, append_snoc, get_or-append-add}
use lib.Seq.{get_or-drop, get_or-take}
use Rattle.sums.specs.Ops.{Ops}
use Rattle.sums.specs.Machine.{pushed, integrated, summed, less, combed, differed}
use Rattle.sums.specs.State.{rows, put_rows}
use Rattle.sums.proofs.Shapes.{pushed-length, integrated-length}
use Rattle.sums.proofs.Arrays.{row_split}

-- the cells after the first i integrators have run on x, and what the i-th hands on
abbrev pub part_ints : {A : Type 0} → Ops A → ℕ → List A → A → List A
part_ints o i l x = integrated o (take i l) x ++ drop i l

abbrev pub part_sum : {A : Type 0} → Ops A → ℕ → List A → A → A
part_sum o i l x = summed o (take i l) x

module _ {A : Type 0} (o : Ops A) where
  integrated_snoc : (l : List A) (a x : A) → integrated o (l ++ (a ∷ [])) x ≡ integrated o l x ++ (o.add a (summed o l x) ∷ [])
  unfolding integrated summed
  integrated_snoc [] a x = refl
  integrated_snoc (b ∷ l) a x = ap (λ r. o.add b x ∷ r) (integrated_snoc l a (o.add b x))

  summed_snoc : (l : List A) (a x : A) → summed o (l ++ (a ∷ [])) x ≡ o.add a (summed o l x)
  unfolding summed
  summed_snoc [] a x = refl
  summed_snoc (b ∷ l) a x = summed_snoc l a (o.add b x)

  pub ints_start : (l : List A) (x : A) → (l ≡ part_ints o 0 l x) × (x ≡ part_sum o 0 l x)
  unfolding integrated summed
  ints_start l x = (refl, refl)

  pub ints_length : (i : ℕ) (l : List A) (x : A) → i ≤ length l → length (part_ints o i l x) ≡ length l
  ints_length i l x h =
      simp (length-append, length-drop) (omega (arith, integrated-length o (take i l) x, length-take-le i l h))

  module _ (l : List A) (x : A) (i : ℕ) (d : A) (h : i < length l) where
    front : length (integrated o (take i l) x) ≡ i
    front = integrated-length o (take i l) x ∙ length-take-le i l (omega arith)

    -- integrator i has not run yet
    pub ints_read : get_or (part_ints o i l x) i d ≡ get_or l i d
    ints_read =
        ap (λ r. get_or (integrated o (take i l) x ++ r) i d) (drop-cons l i d h)
        ∙ get_or_at (integrated o (take i l) x) (get_or l i d) (drop (suc i) l) d i front

    sum_step : part_sum o (suc i) l x ≡ o.add (get_or l i d) (part_sum o i l x)
    sum_step = ap (λ r. summed o r x) (take-suc l i d h) ∙ summed_snoc (take i l) (get_or l i d) x

    ints_step : set (part_ints o i l x) i (o.add (get_or l i d) (part_sum o i l x)) ≡ part_ints o (suc i) l x
    ints_step =
        ap (λ r. set (integrated o (take i l) x ++ r) i (o.add (get_or l i d) (summed o (take i l) x))) (drop-cons l i d h)
        ∙ set_at (integrated o (take i l) x) (get_or l i d) (drop (suc i) l) (o.add (get_or l i d) (summed o (take i l) x)) i front
        ∙ sym (append_snoc (integrated o (take i l) x) (o.add (get_or l i d) (summed o (take i l) x)) (drop (suc i) l))
        ∙ sym (ap (λ r. r ++ drop (suc i) l) (ap (λ r. integrated o r x) (take-suc l i d h) ∙ integrated_snoc (take i l) (get_or l i d) x))

    -- a turn: a and y are the cells and the running sum before it, r the new sum, stored at i
    pub ints_turn : (a : List A) (y r : A) → a ≡ part_ints o i l x → y ≡ part_sum o i l x → r ≡ o.add (get_or a i d) y
        → (set a i r ≡ part_ints o (i + 1) l x) × (r ≡ part_sum o (i + 1) l x)
    ints_turn a y r ea ey er =
        let e : r ≡ o.add (get_or l i d) (part_sum o i l x) = er ∙ ap₂ o.add (ap (λ k. get_or k i d) ea ∙ ints_read) ey in (
          ap₂ (λ k v. set k i v) ea e ∙ ints_step ∙ ap (λ n. part_ints o n l x) (sym (add-one i)),
          e ∙ sym sum_step ∙ ap (λ n. part_sum o n l x) (sym (add-one i)),
        )

  -- the end: n integrators have run
  pub ints_end : (l : List A) (x : A) (n i : ℕ) → i ≤ n → n ≤ i → (a : List A) (y : A) → a ≡ part_ints o i l x → y ≡ part_sum o i l x
      → (a ≡ part_ints o n l x) × (y ≡ part_sum o n l x)
  ints_end l x n i low high a y ea ey =
      let e : i ≡ n = omega arith in
      (ea ∙ ap (λ k. part_ints o k l x) e, ey ∙ ap (λ k. part_sum o k l x) e)

-- a line's cells moved down, the first i of them; the line starts at b
unfoldable pub shifted : {A : Type 0} → ℕ → ℕ → List A → List A
shifted b i c = take b c ++ (take i (drop (suc b) c) ++ drop (b + i) c)

-- the line of M cells that starts at b has dropped its oldest cell and stored x last; every other cell stands
abbrev pub pushed_at : {A : Type 0} → ℕ → ℕ → List A → A → List A
pushed_at b M c x = take b c ++ (pushed (take M (drop b c)) x ++ drop (b + M) c)

pub shift_start : {A : Type 0} (c : List A) (b : ℕ) → c ≡ shifted b 0 c
unfolding shifted
shift_start c b = sym (ap (λ n. take b c ++ drop n c) (add-zero b) ∙ take-append-drop b c)

module _ {A : Type 0} (c : List A) (b i : ℕ) (d : A) where
  -- what is in place
  moved : List A
  moved = take b c ++ take i (drop (suc b) c)

  moved_length : b + i < length c → length moved ≡ b + i
  unfolding moved
  moved_length h = simp (length-append, length-take, length-drop) (omega arith)

  shifted_moved : shifted b i c ≡ moved ++ drop (b + i) c
  unfolding shifted moved
  shifted_moved = sym (append_assoc (take b c) (take i (drop (suc b) c)) (drop (b + i) c))

  shift_read : b + suc i < length c → get_or (shifted b i c) (b + suc i) d ≡ get_or c (b + suc i) d
  shift_read h =
      let at_one : b + suc i ≡ length moved + 1 = rw (moved_length (omega arith)) (omega arith) in
      let one_on : b + i + 1 ≡ b + suc i = omega arith in
      ap₂ (λ l n. get_or l n d) shifted_moved at_one
      ∙ get_or-append-add moved (drop (b + i) c) 1 d
      ∙ get_or-drop (b + i) c 1 d
      ∙ ap (λ n. get_or c n d) one_on

  shift_set : (v : A) → b + i < length c → set (shifted b i c) (b + i) v ≡ moved ++ v ∷ drop (b + suc i) c
  shift_set v h =
      ap (λ l. set l (b + i) v) (shifted_moved ∙ ap (λ r. moved ++ r) (drop-cons c (b + i) d h))
      ∙ set_at moved (get_or c (b + i) d) (drop (suc (b + i)) c) v (b + i) (moved_length h)
      ∙ ap (λ n. moved ++ v ∷ drop n c) (sym (add-suc b i))

  shift_step : b + suc i < length c → set (shifted b i c) (b + i) (get_or c (b + suc i) d) ≡ shifted b (suc i) c
  unfolding shifted moved
  shift_step h =
      let moves : b + suc i ≡ suc b + i = omega arith in
      let long : i < length (drop (suc b) c) = rw length-drop (omega arith) in
      shift_set (get_or c (b + suc i) d) (omega arith)
      ∙ append_assoc (take b c) (take i (drop (suc b) c)) (get_or c (b + suc i) d ∷ drop (b + suc i) c)
      ∙ ap (λ r. take b c ++ r)
      (sym (append_snoc (take i (drop (suc b) c)) (get_or c (b + suc i) d) (drop (b + suc i) c))
      ∙ ap (λ y. take i (drop (suc b) c) ++ (y ∷ []) ++ drop (b + suc i) c) (ap (λ n. get_or c n d) moves ∙ sym (get_or-drop (suc b) c i d))
      ∙ ap (λ r. r ++ drop (b + suc i) c) (sym (take-suc (drop (suc b) c) i d long)))

  -- a turn: cell b + i + 1, as it is, goes to cell b + i
  pub shift_turn : (a : List A) (r : A) → b + i + 1 < length c → a ≡ shifted b i c → r ≡ get_or a (b + i + 1) d
      → set a (b + i) r ≡ shifted b (i + 1) c
  shift_turn a r h ea er =
      let one_on : b + i + 1 ≡ b + suc i = omega arith in
      ap₂ (λ k v. set k (b + i) v) ea (er ∙ ap₂ (λ k n. get_or k n d) ea one_on ∙ shift_read (omega arith))
      ∙ shift_step (omega arith)
      ∙ ap (λ n. shifted b n c) (sym (add-one i))

  -- the end: the new value goes last
  pub shift_end : (M : ℕ) (a : List A) (v : A) → i + 1 ≡ M → b + M ≤ length c → a ≡ shifted b i c
      → set a (b + i) v ≡ pushed_at b M c v
  unfolding pushed moved
  shift_end M a v e h ea =
      let m : suc i ≡ M = omega arith in
      ap (λ l. set l (b + i) v) ea
      ∙ shift_set v (omega arith)
      ∙ append_assoc (take b c) (take i (drop (suc b) c)) (v ∷ drop (b + suc i) c)
      ∙ ap (λ r. take b c ++ r)
      (sym (append_snoc (take i (drop (suc b) c)) v (drop (b + suc i) c))
      ∙ ap (λ l. drop 1 (take (suc i) l) ++ (v ∷ []) ++ drop (b + suc i) c) (sym (drop-cons c b d (omega arith))))
      ∙ ap (λ n. take b c ++ (drop 1 (take n (drop b c)) ++ (v ∷ []) ++ drop (b + n) c)) m

-- a pushed line changes no length
pub pushed_at_length : {A : Type 0} (b M : ℕ) (c : List A) (x : A) → 1 ≤ M → b + M ≤ length c → length (pushed_at b M c x) ≡ length c
pushed_at_length b M c x p h =
    let t : length (take M (drop b c)) ≡ M = length-take-le M (drop b c) (rw length-drop (omega arith)) in
    simp (length-append, length-drop) (omega (arith, length-take-le b c (omega arith), pushed-length (take M (drop b c)) x (omega arith)))

-- the cells after the first j combs have run on v, and what the j-th hands on
abbrev pub part_cells : {A : Type 0} → Ops A → ℕ → ℕ → List A → A → List A
part_cells o M j c v = put_rows M (combed o (rows M j c) v) c

abbrev pub part_comb : {A : Type 0} → Ops A → ℕ → ℕ → List A → A → A
part_comb o M j c v = differed o (rows M j c) v

module _ {A : Type 0} (o : Ops A) (M : ℕ) where
  pub combs-start : (c : List A) (v : A) → (c ≡ part_cells o M 0 c v) × (v ≡ part_comb o M 0 c v)
  unfolding rows put_rows combed differed
  combs-start c v = (refl, refl)

  -- row 0, done
  first : List A → A → List A
  first c v = pushed (take M c) v ++ drop M (take 8 c)

  module _ (m : M ≤ 8) (p : 1 ≤ M) where
    first-length : (c : List A) (v : A) → 8 ≤ length c → length (first c v) ≡ 8
    unfolding first
    first-length c v h =
        let e : length (take M c) ≡ M = length-take-le M c (omega arith) in
        simp (length-append, length-drop) (omega (arith, pushed-length (take M c) v (omega arith), length-take-le 8 c h))

    part-suc : (j : ℕ) (c : List A) (v : A) → part_cells o M (suc j) c v ≡ first c v ++ part_cells o M j (drop 8 c) (less o (take M c) v)
    unfolding rows put_rows combed first
    part-suc j c v =
        sym (append_assoc (pushed (take M c) v) (drop M (take 8 c))
        (put_rows M (combed o (rows M j (drop 8 c)) (less o (take M c) v)) (drop 8 c)))

    pub cells-length : (j : ℕ) (c : List A) (v : A) → j * 8 ≤ length c → length (part_cells o M j c v) ≡ length c
    unfolding rows put_rows combed
    cells-length zero c v h = refl
    cells-length (suc j) c v h =
        ap length (part-suc j c v)
        ∙ length-append (first c v) (part_cells o M j (drop 8 c) (less o (take M c) v))
        ∙ omega (
          arith,
          first-length c v (omega arith),
          length-drop 8 c,
          cells-length j (drop 8 c) (less o (take M c) v) (rw length-drop (omega arith)),
        )

    take_past : (q r : List A) (n : ℕ) → length q ≡ 8 → take (8 + n) (q ++ r) ≡ q ++ take n r
    take_past q r n e = subst (λ k. take (k + n) (q ++ r) ≡ q ++ take n r) e (take-append-add q r n)

    drop_past : (q r : List A) (n : ℕ) → length q ≡ 8 → drop (8 + n) (q ++ r) ≡ drop n r
    drop_past q r n e = subst (λ k. drop (k + n) (q ++ r) ≡ drop n r) e (drop-append-add q r n)

    module _ (j : ℕ) (c : List A) (v : A) (h : 8 ≤ length c) where
      next_row : suc j * 8 ≡ 8 + j * 8
      next_row = omega arith

      next-line : suc j * 8 + M ≡ 8 + (j * 8 + M)
      next-line = omega arith

      rest : List A
      rest = part_cells o M j (drop 8 c) (less o (take M c) v)

      take_row : take (suc j * 8) (part_cells o M (suc j) c v) ≡ first c v ++ take (j * 8) rest
      unfolding rest
      take_row = ap₂ take next_row (part-suc j c v) ∙ take_past (first c v) rest (j * 8) (first-length c v h)

      drop_row : drop (suc j * 8) (part_cells o M (suc j) c v) ≡ drop (j * 8) rest
      unfolding rest
      drop_row = ap₂ drop next_row (part-suc j c v) ∙ drop_past (first c v) rest (j * 8) (first-length c v h)

      drop_row_line : drop (suc j * 8 + M) (part_cells o M (suc j) c v) ≡ drop (j * 8 + M) rest
      unfolding rest
      drop_row_line = ap₂ drop next-line (part-suc j c v) ∙ drop_past (first c v) rest (j * 8 + M) (first-length c v h)

    -- comb j at its turn: what it hands on
    comb_step : (j : ℕ) (c : List A) (v : A) → suc j * 8 ≤ length c
        → part_comb o M (suc j) c v ≡ less o (take M (drop (j * 8) (part_cells o M j c v))) (part_comb o M j c v)
    unfolding rows put_rows combed differed rest
    comb_step zero c v h = refl
    comb_step (suc j) c v h =
        comb_step j (drop 8 c) (less o (take M c) v) (rw length-drop (omega arith))
        ∙ ap (λ r. less o (take M r) (part_comb o M j (drop 8 c) (less o (take M c) v))) (sym (drop_row j c v (omega arith)))

    -- and what it leaves: its line is pushed, all else stands
    cells-step : (j : ℕ) (c : List A) (v : A) → suc j * 8 ≤ length c
        → part_cells o M (suc j) c v ≡ pushed_at (j * 8) M (part_cells o M j c v) (part_comb o M j c v)
    unfolding rows put_rows combed differed rest
    cells-step zero c v h = rw zero-add (ap (λ r. pushed (take M c) v ++ r) (row_split M c m (omega arith)))
    cells-step (suc j) c v h =
        part-suc (suc j) c v
        ∙ ap (λ r. first c v ++ r) (cells-step j (drop 8 c) (less o (take M c) v) (rw length-drop (omega arith)))
        ∙ sym (append_assoc (first c v) (take (j * 8) (part_cells o M j (drop 8 c) (less o (take M c) v))) _)
        ∙ ap₂ ◌++◌ (sym (take_row j c v (omega arith)))
        (ap₂ ◌++◌ (ap (λ r. pushed (take M r) (part_comb o M j (drop 8 c) (less o (take M c) v))) (sym (drop_row j c v (omega arith))))
        (sym (drop_row_line j c v (omega arith))))

    -- a turn: a and y are the cells and the running value before it, k the cells with line j pushed, z the running value less the
    -- line's oldest cell
    pub combs_turn : (j : ℕ) (c : List A) (v : A) → suc j * 8 ≤ length c → (a k : List A) (y z : A)
        → a ≡ part_cells o M j c v → y ≡ part_comb o M j c v
        → k ≡ pushed_at (j * 8) M a y
        → z ≡ o.sub y (get_or a (j * 8) o.nil)
        → (k ≡ part_cells o M (j + 1) c v) × (z ≡ part_comb o M (j + 1) c v)
    unfolding less
    combs_turn j c v h a k y z ea ey ek ez =
        let oldest : get_or (take M (drop (j * 8) a)) 0 o.nil ≡ get_or a (j * 8) o.nil =
        get_or-take M (drop (j * 8) a) 0 o.nil p ∙ get_or-drop (j * 8) a 0 o.nil ∙ ap (λ n. get_or a n o.nil) (add-zero (j * 8)) in (
          ek ∙ ap₂ (λ r u. pushed_at (j * 8) M r u) ea ey ∙ sym (cells-step j c v h) ∙ ap (λ n. part_cells o M n c v) (sym (add-one j)),
          ez
              ∙ ap (o.sub y) (sym oldest)
              ∙ ap₂ (λ r u. less o (take M (drop (j * 8) r)) u) ea ey
              ∙ sym (comb_step j c v h)
              ∙ ap (λ n. part_comb o M n c v) (sym (add-one j)),
        )

  -- the end: n combs have run
  pub combs_end : (c : List A) (v : A) (n j : ℕ) → j ≤ n → n ≤ j → (a : List A) (y : A) → a ≡ part_cells o M j c v → y ≡ part_comb o M j c v
      → (a ≡ part_cells o M n c v) × (y ≡ part_comb o M n c v)
  combs_end c v n j low high a y ea ey =
      let e : j ≡ n = omega arith in
      (ea ∙ ap (λ k. part_cells o M k c v) e, ey ∙ ap (λ k. part_comb o M k c v) e)
