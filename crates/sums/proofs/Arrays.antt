-- The fixed arrays and the machine that they hold: what is put is read back, what is read and put back changes nothing,
-- and no length changes.
use mathlib.Core.Path.{◌≡◌, refl, sym, ap, ap₂, ◌∙◌}
use mathlib.Core.List.{List, [], ◌∷◌, ◌++◌, append_assoc}
use Prim.Native.Nat.{ℕ, zero, suc, ◌*◌, ◌≤◌}
use native.Mathlib.Omega.{arith}
use lib.ListN.{length, take, drop, length-drop, length-append, take-append-drop}
use lib.Seq.{take_at, drop_at, drop-append-le, length-take-le}
use Rattle.sums.specs.Ops.{Ops}
use Rattle.sums.specs.Machine.{Machine, decimated, interpolated}
use Rattle.sums.specs.State.{State, rows, put_rows, view, put}
use Rattle.sums.proofs.Shapes.{Lines, Shaped, decimated_shaped, interpolated_shaped}

-- the arrays hold what the order and the delay ask for
pub record Room {A : Type 0} (s : State A) : Type 0 where
  pub some : 1 ≤ s.delay
  pub short : s.delay ≤ 8
  pub integrators_in : s.order ≤ length s.integrators
  pub combs_in : s.order * 8 ≤ length s.combs

module _ {A : Type 0} where
  -- the cells beyond M in the first row stay: a row is its line and them
  pub row_split : (M : ℕ) (c : List A) → M ≤ 8 → 8 ≤ length c → drop M (take 8 c) ++ drop 8 c ≡ drop M c
  row_split M c m h =
      sym (drop-append-le M (take 8 c) (drop 8 c) (rw (length-take-le 8 c h) m)) ∙ ap (drop M) (take-append-drop 8 c)

  row_length : (M : ℕ) (l c : List A) → M ≤ 8 → length l ≡ M → 8 ≤ length c → length (l ++ drop M (take 8 c)) ≡ 8
  row_length M l c m e h = simp (length-append, length-drop) (omega (arith, length-take-le 8 c h))

  pub rows-put : (M n : ℕ) (ls : List (List A)) (c : List A) → M ≤ 8 → length ls ≡ n → Lines M ls → n * 8 ≤ length c
      → rows M n (put_rows M ls c) ≡ ls
  unfolding rows put_rows
  rows-put M zero [] c m e h b = refl
  rows-put M zero (l ∷ ls) c m e h b = absurd (omega arith)
  rows-put M (suc n) [] c m e h b = absurd (omega arith)
  rows-put M (suc n) (l ∷ ls) c m e h b =
      let rest : List A = put_rows M ls (drop 8 c) in
      ap₂ ◌∷◌ (take_at l (drop M (take 8 c) ++ rest) M h.0)
      (ap (rows M n) (sym (ap (drop 8) (append_assoc l (drop M (take 8 c)) rest))
      ∙ drop_at (l ++ drop M (take 8 c)) rest 8 (row_length M l c m h.0 (omega arith)))
      ∙ rows-put M n ls (drop 8 c) m (omega (arith, e)) h.1 (rw length-drop (omega arith)))

  pub rows_back : (M n : ℕ) (c : List A) → M ≤ 8 → n * 8 ≤ length c → put_rows M (rows M n c) c ≡ c
  unfolding rows put_rows
  rows_back M zero c m h = refl
  rows_back M (suc n) c m h =
      ap (λ r. take M c ++ (drop M (take 8 c) ++ r)) (rows_back M n (drop 8 c) m (rw length-drop (omega arith)))
      ∙ ap (λ r. take M c ++ r) (row_split M c m (omega arith))
      ∙ take-append-drop M c

  pub rows-length : (M n : ℕ) (c : List A) → length (rows M n c) ≡ n
  unfolding rows
  rows-length M zero c = refl
  rows-length M (suc n) c = ap suc (rows-length M n (drop 8 c))

  pub rows-lines : (M n : ℕ) (c : List A) → M ≤ 8 → n * 8 ≤ length c → Lines M (rows M n c)
  unfolding rows
  rows-lines M zero c m b = tt
  rows-lines M (suc n) c m b = (length-take-le M c (omega arith), rows-lines M n (drop 8 c) m (rw length-drop (omega arith)))

  pub put_rows-length : (M n : ℕ) (ls : List (List A)) (c : List A) → M ≤ 8 → length ls ≡ n → Lines M ls → n * 8 ≤ length c
      → length (put_rows M ls c) ≡ length c
  unfolding put_rows
  put_rows-length M n [] c m e h b = refl
  put_rows-length M zero (l ∷ ls) c m e h b = absurd (omega arith)
  put_rows-length M (suc n) (l ∷ ls) c m e h b =
      simp (length-append, length-drop)
      (omega (
        arith,
        h.0,
        length-take-le 8 c (omega arith),
        length-drop 8 c,
        put_rows-length M n ls (drop 8 c) m (omega (arith, e)) h.1 (rw length-drop (omega arith)),
      ))

  module _ (s : State A) (r : Room s) where
    pub view_shaped : Shaped s.order s.delay (view s)
    unfolding view
    view_shaped = record {
      order = length-take-le s.order s.integrators r.integrators_in;
      lines_order = rows-length s.delay s.order s.combs;
      delay = rows-lines s.delay s.order s.combs r.short r.combs_in;
    }

    module _ (m : Machine A) (h : Shaped s.order s.delay m) where
      pub view-put : view (put s m) ≡ m
      unfolding view put
      view-put = rw (
        take_at m.integrators (drop s.order s.integrators) s.order h.order,
        rows-put s.delay s.order m.lines s.combs r.short h.lines_order h.delay r.combs_in,
      )

      pub put-integrators : length (put s m).integrators ≡ length s.integrators
      unfolding put
      put-integrators = rw (length-append, length-drop) (omega (arith, h.order, r.integrators_in))

      pub put-combs : length (put s m).combs ≡ length s.combs
      unfolding put
      put-combs = put_rows-length s.delay s.order m.lines s.combs r.short h.lines_order h.delay r.combs_in

-- a step either way, on the arrays: the shape that `put` asks for
module _ {A : Type 0} (o : Ops A) (s : State A) (x : A) (r : Room s) where
  pub stepped_shaped : Shaped s.order s.delay (decimated o (view s) x)
  stepped_shaped = decimated_shaped o s.order s.delay r.some (view s) x (view_shaped s r)

  pub rose_shaped : Shaped s.order s.delay (interpolated o (view s) x)
  rose_shaped = interpolated_shaped o s.order s.delay r.some (view s) x (view_shaped s r)
