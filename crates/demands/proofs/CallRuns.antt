-- A run of real calls is a run of the rules' calls (sums, specs/Demands), each read from its answer; refused ones of other kinds hand their
-- state back and drop out.
use mathlib.Core.Path.{◌≡◌, refl, sym, ap, ap₂, subst, ◌∙◌}
use mathlib.Core.List.{List, [], ◌∷◌, ◌++◌}
use mathlib.Core.Option.{Option, none, some}
use Prim.Native.Nat.{ℕ, zero, suc, ◌+◌, ◌-◌, ◌<◌}
use native.Mathlib.Omega.{arith}
use lib.Dec.{eqb-suc-zero}
use lib.IntN.{ℤ}
use lib.ListN.{length, get_or, take, drop}
use lib.Seq.{take-append_seam}
use Rattle.std.specs.Prelude.{Result, Ok, Err, Some, None}
use Rattle.std.specs.Prelude as std
use Rattle.std.specs.Int.{Width}
use Rattle.blocks.specs.Refusals.{answer}
use Rattle.blocks.specs.Blocks.{unless}
use Rattle.sums.specs.Ops.{Ops}
use Rattle.sums.specs.Signed.{signed_ops}
use Rattle.sums.specs.Machine.{Output}
use Rattle.sums.specs.State.{State}
use Rattle.sums.specs.Calls.{rise_number, rise_state, rise_given}
use Rattle.sums.specs.Runs.{needed, join, values, over, first_told, outputs, risings, fill_number, fill_state, fill_out}
use Rattle.sums.specs.Counted.{Counted, Numbered, take_number, take_given, block_number, plain, first_number, taken_outputs}
use Rattle.sums.specs.Counted.{block_out}
use Rattle.sums.specs.Demands as rules
use Rattle.sums.specs.Demands.{along, after_calls, reads, leaves, gives, samples, lifts, yields}
use Rattle.sums.proofs.Steps.{Fit}
use Rattle.sums.proofs.Counts.{outputs-length, outputs-told}
use Rattle.sums.proofs.Blocks.{values_length}
use Rattle.sums.proofs.Numbering.{block_room, tagged, taken_tagged, plain_tagged}
use Rattle.sums.proofs.Alone.{leaves_fit}
use Rattle.shape.specs.Answers.{wrote_of, read_of}
use Rattle.lent.specs.Answers.{out_of, interpolated_of, sample_of}
use Rattle.cic.specs.declared.state.Cic.{Cic}
use Rattle.cic.specs.Reading.{state_of, counted_of}
use Rattle.cic.specs.InTurn.{output_of}
use Rattle.demands.specs.Demands.{took_step, took_block, told_from, gave_block, took_sample, gave_sample, took_fill, gave_fill}
use Rattle.demands.specs.Demands.{Decimating, Interpolating}
use Rattle.demands.proofs.Refusals.{hands_back}

-- what a call took in and gave, read from its answer
took_step_law : (n : ℕ) (g : Option (Numbered ℤ)) (x : ℤ) → unless n [] (x ∷ []) ≡ took_step (out_of n g) x
unfolding answer
took_step_law zero g x = refl
took_step_law (suc n) g x = rw (eqb-suc-zero n)

gave_step : (n : ℕ) (g : Option (Numbered ℤ)) → join (unless n none g) [] ≡ output_of (out_of n (unless n none g))
unfolding answer
gave_step zero none = refl
gave_step zero (some y) = refl
gave_step (suc n) g = rw (eqb-suc-zero n)

took_block_law : (n c u i : ℕ) (xs : List ℤ) → unless n [] xs ≡ took_block (wrote_of n c u i) xs
unfolding answer
took_block_law zero c u i xs = refl
took_block_law (suc n) c u i xs = rw (eqb-suc-zero n)

-- outputs that tell u, then one fewer each, with numbers from n on, are their values, u and n
told_back : (R n : ℕ) (l : List (Output ℤ)) (u : ℕ) → ((i : ℕ) (d : Output ℤ) → i < length l → (get_or l i d).told ≡ u - i)
    → tagged n R l ≡ told_from R u n (values l)
unfolding tagged
told_back R n [] u h = refl
told_back R n (y ∷ l) u h =
    let e : y.told ≡ u = omega (arith, h 0 y (omega arith)) in
    ap₂ ◌∷◌ (ap (λ (k : ℕ). record { value = y.value; told = k; number = n }) e)
    (told_back R (n + R) l (u - 1) (λ i d b. omega (arith, h (suc i) d (omega arith))))

first_back : (R n : ℕ) (l : List (Output ℤ)) (u : ℕ) → ((i : ℕ) (d : Output ℤ) → i < length l → (get_or l i d).told ≡ u - i)
    → tagged n R l ≡ told_from R (first_told l) (first_number (tagged n R l)) (values l)
unfolding tagged
first_back R n [] u h = refl
first_back R n (y ∷ l) u h =
    let e : u ≡ y.told = omega (arith, h 0 y (omega arith)) in
    told_back R n (y ∷ l) u h ∙ ap (λ k. told_from R k n (values (y ∷ l))) e

module _ (word_ops : Ops ℤ) (c : Counted ℤ) (f : Fit c.state) (us lent : List ℤ) where
  abbrev s : State ℤ
  s = c.state

  pub gave_block_law : (n : ℕ) → block_number c us lent ≡ n
      → let ys = taken_outputs word_ops c us in
      unless n [] ys
      ≡ gave_block (suc s.rate) (wrote_of n (needed (length us) s.countdown s.rate) (first_told (plain ys)) (first_number ys))
      (block_out word_ops c us lent)
  unfolding answer block_out
  gave_block_law zero e =
      let R : ℕ = suc s.rate in let first : ℕ = c.inputs + s.countdown + 1 in
      let l : List (Output ℤ) = outputs word_ops s us in
      let count : length (values l) ≡ needed (length us) s.countdown s.rate = values_length l ∙ outputs-length word_ops s f us in
      rw (e, taken_tagged word_ops c f us (block_room c us lent e), plain_tagged first R l)
      (first_back R first l s.unsettled (outputs-told word_ops s f us)
      ∙ ap (told_from R (first_told l) (first_number (tagged first R l))) (sym (take-append_seam (values l) (drop (length (values l)) lent))
      ∙ ap (λ n. take n (over (values l) lent)) count))
  gave_block_law (suc n) e = rw (eqb-suc-zero n)

took_sample_law : (n : ℕ) (y : ℤ) (x : std.Option ℤ) → unless n [] (join (sample_of x) []) ≡ took_sample (interpolated_of n y) x
unfolding answer
took_sample_law zero y (Some x) = refl
took_sample_law zero y None = refl
took_sample_law (suc n) y x = rw (eqb-suc-zero n)

gave_sample_law : (n : ℕ) (y : ℤ) → unless n [] (y ∷ []) ≡ gave_sample (interpolated_of n y)
unfolding answer
gave_sample_law zero y = refl
gave_sample_law (suc n) y = rw (eqb-suc-zero n)

took_fill_law : (n c : ℕ) (xs : List ℤ) → unless n [] (take c xs) ≡ took_fill (read_of n c) xs
unfolding answer
took_fill_law zero c xs = refl
took_fill_law (suc n) c xs = rw (eqb-suc-zero n)

gave_fill_law : (n c : ℕ) (out ys : List ℤ) → unless n [] ys ≡ gave_fill (read_of n c) (unless n out ys)
unfolding answer
gave_fill_law zero c out ys = refl
gave_fill_law (suc n) c out ys = rw (eqb-suc-zero n)

-- a run of the rules' calls

pub record Run {S C X : Type 0} (next : S → C → S) (reading : S → C → List ℤ) (giving : S → C → List X)
    (s : S) (xs : List ℤ) (ys : List X) (t : S) : Type 0 where
  pub calls : List C
  pub took : along next reading s calls ≡ xs
  pub gave : along next giving s calls ≡ ys
  pub left : after_calls next s calls ≡ t

module _ {S C X : Type 0} (next : S → C → S) (reading : S → C → List ℤ) (giving : S → C → List X) where
  stop : (s : S) → Run next reading giving s [] [] s
  unfolding along after_calls
  stop s = record { calls = []; took = refl; gave = refl; left = refl }

  onward : (s u t : S) (c : C) (us xs : List ℤ) (vs ys : List X) → reading s c ≡ us → giving s c ≡ vs → next s c ≡ u
      → Run next reading giving u xs ys t → Run next reading giving s (us ++ xs) (vs ++ ys) t
  unfolding along after_calls
  onward s u t c us xs vs ys er eg en run = record {
    calls = c ∷ run.calls;
    took = ap₂ ◌++◌ er (ap (λ q. along next reading q run.calls) en ∙ run.took);
    gave = ap₂ ◌++◌ eg (ap (λ q. along next giving q run.calls) en ∙ run.gave);
    left = ap (λ q. after_calls next q run.calls) en ∙ run.left;
  }

abbrev pub Falls : Width → Counted ℤ → List ℤ → List (Numbered ℤ) → Counted ℤ → Type 0
Falls w s xs ys t = Run (leaves (signed_ops w)) reads (gives (signed_ops w)) s xs ys t

abbrev pub Rises : Width → State ℤ → List ℤ → List ℤ → State ℤ → Type 0
Rises w s xs ys t = Run (lifts (signed_ops w)) samples (yields (signed_ops w)) s xs ys t

pub falls : {w : Width} {s t : Cic ℤ} {xs : List ℤ} {ys : List (Numbered ℤ)} → Fit (state_of s) → Decimating w s xs ys t
    → Falls w (counted_of s) xs ys (counted_of t)
unfolding reads gives leaves take_given
falls {w} {s} f Decimating.none = stop (leaves (signed_ops w)) reads (gives (signed_ops w)) (counted_of s)
falls {w} {s} {t} f (Decimating.decimate {u = u} {xs = xs} {ys = ys} x r p rest) =
    let n : ℕ = take_number (counted_of s) 1 in let o : Ops ℤ = signed_ops w in
    onward (leaves o) reads (gives o) (counted_of s) (counted_of u) (counted_of t) (rules.step x)
    (took_step r x) xs (output_of r) ys
    (took_step_law n (take_given o (counted_of s) x) x ∙ ap (λ q. took_step q x) (sym p.1))
    (gave_step n _ ∙ ap output_of (sym p.1))
    (sym p.0)
    (falls (subst (λ q. Fit q.state) (sym p.0) (leaves_fit o (counted_of s) f (rules.step x))) rest)
falls {w} {s} {t} f (Decimating.decimate_block {u = u} {xs = xs} {ys = ys} us lent left r p rest) =
    let n : ℕ = block_number (counted_of s) us lent in let o : Ops ℤ = signed_ops w in
    onward (leaves o) reads (gives o) (counted_of s) (counted_of u) (counted_of t) (rules.block us lent)
    (took_block r us) xs (gave_block (suc s.rate) r left) ys
    (took_block_law n _ _ _ us ∙ ap (λ q. took_block q us) (sym p.1))
    (gave_block_law o (counted_of s) f us lent n refl ∙ ap₂ (gave_block (suc s.rate)) (sym p.1) (sym p.2))
    (sym p.0)
    (falls (subst (λ q. Fit q.state) (sym p.0) (leaves_fit o (counted_of s) f (rules.block us lent))) rest)
falls {w} {s} {t} {xs} {ys} f (Decimating.refused {u = u} z rest) =
    let e : u ≡ s = hands_back z in
    subst (λ q. Falls w (counted_of q) xs ys (counted_of t)) e (falls (subst (λ q. Fit (state_of q)) (sym e) f) rest)

pub rises : {w : Width} {s t : Cic ℤ} {xs ys : List ℤ} → Interpolating w s xs ys t → Rises w (state_of s) xs ys (state_of t)
unfolding samples yields lifts fill_out
rises {w} {s} Interpolating.none = stop (lifts (signed_ops w)) samples (yields (signed_ops w)) (state_of s)
rises {w} {s} {t} (Interpolating.interpolate {u = u} {xs = xs} {ys = ys} x r p rest) =
    let n : ℕ = rise_number (state_of s) (sample_of x) in let o : Ops ℤ = signed_ops w in
    let next : rise_state o (state_of s) (sample_of x) ≡ state_of u = ap (λ (c : Counted ℤ). c.state) (sym p.0) in
    onward (lifts o) samples (yields o) (state_of s) (state_of u) (state_of t) (rules.rise (sample_of x))
    (took_sample r x) xs (gave_sample r) ys
    (took_sample_law n (rise_given o (state_of s) (sample_of x)) x ∙ ap (λ q. took_sample q x) (sym p.1))
    (gave_sample_law n (rise_given o (state_of s) (sample_of x)) ∙ ap gave_sample (sym p.1))
    next
    (rises rest)
rises {w} {s} {t} (Interpolating.interpolate_block {u = u} {xs = xs} {ys = ys} us lent left r p rest) =
    let n : ℕ = fill_number (state_of s) us lent in let o : Ops ℤ = signed_ops w in
    let next : fill_state o (state_of s) us lent ≡ state_of u = ap (λ (c : Counted ℤ). c.state) (sym p.0) in
    onward (lifts o) samples (yields o) (state_of s) (state_of u) (state_of t) (rules.fill us lent)
    (took_fill r us) xs (gave_fill r left) ys
    (took_fill_law n _ us ∙ ap (λ q. took_fill q us) (sym p.1))
    (gave_fill_law n _ lent (risings o (state_of s) (length lent) us) ∙ ap₂ gave_fill (sym p.1) (sym p.2))
    next
    (rises rest)
rises {w} {s} {t} {xs} {ys} (Interpolating.refused {u = u} z rest) =
    subst (λ q. Rises w (state_of q) xs ys (state_of t)) (hands_back z) (rises rest)
