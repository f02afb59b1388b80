-- The cells of the machine as sequences: what the integrators and the delay lines hold at every time, from any first contents.
-- Past the cells that stood in the lines at first, N combs are N differences over M outputs: the settling theorem, on sequences.
use mathlib.Core.Path.{◌≡◌, refl, sym, ap, ap₂, fun_ext, ◌∙◌}
use mathlib.Core.List.{List, [], ◌∷◌, ◌++◌}
use Prim.Native.Nat.{ℕ, zero, suc, ◌+◌, ◌*◌, ◌<◌}
use native.Mathlib.Omega.{arith}
use native.Mathlib.Nat.{add-zero, add-suc, mul_comm}
use lib.ListN.{length}
use Rattle.sums.specs.Ops.{Ops, Laws}
use Rattle.sums.specs.Machine.{pushed, integrated, summed, less, combed, differed}
use Rattle.sums.specs.Moving.{moving}
use Rattle.sums.proofs.Shapes.{Lines}
use Rattle.sums.proofs.Sequences.{iter, iter_out, iter_across, shift, down, pre, acc, diff, fwd, diff_shift, diff_down, moving_fwd}
use Rattle.sums.proofs.Sequences.{fwd_acc, diff_fwd}

-- a list, and then a sequence
unfoldable pub prep : {A : Type 0} → List A → (ℕ → A) → ℕ → A
prep [] v n = v n
prep (a ∷ l) v zero = a
prep (a ∷ l) v (suc n) = prep l v n

pub prep_past : {A : Type 0} (l : List A) (v : ℕ → A) (k : ℕ) → prep l v (k + length l) ≡ v k
unfolding prep
prep_past [] v k = ap v (add-zero k)
prep_past (a ∷ l) v k = ap (prep (a ∷ l) v) (add-suc k (length l)) ∙ prep_past l v k

-- m values of a sequence from number k on
unfoldable pub seg : {A : Type 0} → (ℕ → A) → ℕ → ℕ → List A
seg f k zero = []
seg f k (suc m) = f k ∷ seg f (suc k) m

seg_suc : {A : Type 0} (f : ℕ → A) (k m : ℕ) → seg f (suc k) m ≡ seg (λ n. f (suc n)) k m
unfolding seg
seg_suc f k zero = refl
seg_suc f k (suc m) = ap (λ r. f (suc k) ∷ r) (seg_suc f (suc k) m)

seg_snoc : {A : Type 0} (f : ℕ → A) (k m : ℕ) → seg f k m ++ (f (k + m) ∷ []) ≡ seg f k (suc m)
unfolding seg
seg_snoc f k zero = ap (λ n. f n ∷ []) (add-zero k)
seg_snoc f k (suc m) =
    ap (λ n. f k ∷ (seg f (suc k) m ++ (f n ∷ []))) (omega arith) ∙ ap (λ r. f k ∷ r) (seg_snoc f (suc k) m)

prep_start : {A : Type 0} (l : List A) (v : ℕ → A) → seg (prep l v) 0 (length l) ≡ l
unfolding seg prep
prep_start [] v = refl
prep_start (a ∷ l) v = ap (λ r. a ∷ r) (seg_suc (prep (a ∷ l) v) 0 (length l) ∙ prep_start l v)

module _ {A : Type 0} (o : Ops A) where
  -- what a comb with the line l gives of the sequence v
  unfoldable pub lag : List A → (ℕ → A) → ℕ → A
  lag l v k = o.sub (v k) (prep l v k)

  -- its line before value number k
  unfoldable pub line_at : List A → (ℕ → A) → ℕ → List A
  line_at l v k = seg (prep l v) k (length l)

  less-line : (l : List A) (v : ℕ → A) (k : ℕ) → 0 < length l → less o (line_at l v k) (v k) ≡ lag l v k
  unfolding less line_at lag seg
  less-line [] v k h = absurd (omega arith)
  less-line (a ∷ l) v k h = refl

  push_line : (l : List A) (v : ℕ → A) (k : ℕ) → 0 < length l → pushed (line_at l v k) (v k) ≡ line_at l v (suc k)
  unfolding pushed line_at seg
  push_line [] v k h = absurd (omega arith)
  push_line (a ∷ l) v k h =
      ap (λ y. seg (prep (a ∷ l) v) (suc k) (length l) ++ (y ∷ [])) (sym (prep_past (a ∷ l) v k) ∙ ap (prep (a ∷ l) v) (omega arith))
      ∙ seg_snoc (prep (a ∷ l) v) (suc k) (length l)

  -- the combs: what the last gives, and the lines before value number k
  unfoldable pub comb_val : List (List A) → (ℕ → A) → ℕ → A
  comb_val [] v = v
  comb_val (l ∷ ls) v = comb_val ls (lag l v)

  unfoldable pub lines_at : List (List A) → (ℕ → A) → ℕ → List (List A)
  lines_at [] v k = []
  lines_at (l ∷ ls) v k = line_at l v k ∷ lines_at ls (lag l v) k

  pub lines_start : (ls : List (List A)) (v : ℕ → A) → lines_at ls v 0 ≡ ls
  unfolding lines_at line_at
  lines_start [] v = refl
  lines_start (l ∷ ls) v = ap₂ ◌∷◌ (prep_start l v) (lines_start ls (lag l v))

  module _ (M : ℕ) (c : 0 < M) where
    pub combed-next : (ls : List (List A)) (v : ℕ → A) (k : ℕ) → Lines M ls → combed o (lines_at ls v k) (v k) ≡ lines_at ls v (suc k)
    unfolding combed lines_at
    combed-next [] v k h = refl
    combed-next (l ∷ ls) v k h =
        let p : 0 < length l = omega (arith, h.0) in
        ap₂ ◌∷◌ (push_line l v k p) (ap (combed o (lines_at ls (lag l v) k)) (less-line l v k p) ∙ combed-next ls (lag l v) k h.1)

    pub differed_is : (ls : List (List A)) (v : ℕ → A) (k : ℕ) → Lines M ls → differed o (lines_at ls v k) (v k) ≡ comb_val ls v k
    unfolding differed lines_at comb_val
    differed_is [] v k h = refl
    differed_is (l ∷ ls) v k h =
        let p : 0 < length l = omega (arith, h.0) in
        ap (differed o (lines_at ls (lag l v) k)) (less-line l v k p) ∙ differed_is ls (lag l v) k h.1

  -- past the cells that stood there at first, a comb is the difference over M
  lag_diff : (M : ℕ) (l : List A) (v : ℕ → A) → length l ≡ M → shift M (lag l v) ≡ diff o M v
  unfolding shift lag diff
  lag_diff M l v e = fun_ext (λ k. ap (o.sub (v (k + M))) (ap (λ n. prep l v (k + n)) (sym e) ∙ prep_past l v k))

  combs_diff : (M : ℕ) (ls : List (List A)) (v : ℕ → A) → Lines M ls → shift (length ls * M) (comb_val ls v) ≡ iter (diff o M) (length ls) v
  unfolding comb_val iter shift
  combs_diff M [] v h = fun_ext (λ k. ap v (omega arith))
  combs_diff M (l ∷ ls) v h =
      fun_ext (λ k. ap (comb_val ls (lag l v)) (omega arith))
      ∙ ap (shift M) (combs_diff M ls (lag l v) h.1)
      ∙ iter_across (diff o M) (diff o M) (shift M) (diff_shift o M M) (length ls) (lag l v)
      ∙ ap (iter (diff o M) (length ls)) (lag_diff M l v h.0)

  -- the integrators: what the last gives, and the cells before value number t
  unfoldable pub int_val : List A → (ℕ → A) → ℕ → A
  int_val [] x = x
  int_val (a ∷ is) x = int_val is (acc o a x)

  unfoldable pub ints_at : List A → (ℕ → A) → ℕ → List A
  ints_at [] x t = []
  ints_at (a ∷ is) x t = pre o a x t ∷ ints_at is (acc o a x) t

  pub ints_begin : (is : List A) (x : ℕ → A) → ints_at is x 0 ≡ is
  unfolding ints_at pre
  ints_begin [] x = refl
  ints_begin (a ∷ is) x = ap (λ r. a ∷ r) (ints_begin is (acc o a x))

  pub integrated-next : (is : List A) (x : ℕ → A) (t : ℕ) → integrated o (ints_at is x t) (x t) ≡ ints_at is x (suc t)
  unfolding integrated ints_at acc pre
  integrated-next [] x t = refl
  integrated-next (a ∷ is) x t = ap (λ r. pre o a x (suc t) ∷ r) (integrated-next is (acc o a x) t)

  pub summed_is : (is : List A) (x : ℕ → A) (t : ℕ) → summed o (ints_at is x t) (x t) ≡ int_val is x t
  unfolding summed ints_at acc pre int_val
  summed_is [] x t = refl
  summed_is (a ∷ is) x t = summed_is is (acc o a x) t

  module _ (g : Laws o) where
    ints_fwd : (L : ℕ) (is : List A) (x : ℕ → A) → iter (diff o L) (length is) (int_val is x) ≡ iter (fwd o L) (length is) x
    unfolding int_val iter
    ints_fwd L [] x = refl
    ints_fwd L (a ∷ is) x =
        iter_out (diff o L) (length is) (int_val is (acc o a x))
        ∙ ap (diff o L) (ints_fwd L is (acc o a x))
        ∙ iter_across (fwd o L) (fwd o L) (diff o L) (diff_fwd o g L) (length is) (acc o a x)
        ∙ ap (iter (fwd o L) (length is)) (fwd_acc o g a L x)

    -- from any contents: past N M values the cascade is the moving sum
    pub cascade : (R M c : ℕ) (is : List A) (ls : List (List A)) (x : ℕ → A) (k : ℕ) → length ls ≡ length is → Lines M ls
        → comb_val ls (down R c (int_val is x)) (k + length is * M) ≡ moving o (R * M) (length is) x (c + (k + length is * M) * R)
    unfolding shift down
    cascade R M c is ls x k e h =
        ap (λ n. comb_val ls (down R c (int_val is x)) (k + n * M)) (sym e)
        ∙ ap (λ (f : ℕ → A). f k)
        (combs_diff M ls (down R c (int_val is x)) h
        ∙ ap (λ n. iter (diff o M) n (down R c (int_val is x))) e
        ∙ sym (iter_across (diff o (M * R)) (diff o M) (down R c) (diff_down o R c M) (length is) (int_val is x))
        ∙ ap (down R c) (ints_fwd (M * R) is x ∙ sym (moving_fwd o (M * R) (length is) x)))
        ∙ ap₂ (λ L t. moving o L (length is) x t) (mul_comm M R) (omega arith)
