-- One list: by induction over the calls. Same outputs: the engine's and the decimator's are the same moving sums at the same places.
use mathlib.Core.Path.{◌≡◌, refl, sym, ap, ap₂, ◌∙◌, subst}
use mathlib.Core.Bool.{Bool, true, false, cond}
use mathlib.Core.List.{List, [], ◌∷◌, ◌++◌, append_assoc}
use mathlib.Core.Option.{Option, none, some}
use Prim.Native.Nat.{ℕ, zero, suc, ◌+◌, ◌-◌, ◌*◌, ◌<◌, ◌≤◌}
use native.Mathlib.Nat.{zero-add, zero-sub, suc-mul}
use native.Mathlib.Omega.{arith}
use lib.Dec.{ltb, leb}
use lib.IntN.{ℤ, pos, ◌+ℤ◌, ◌*ℤ◌, +ℤ_idr, zero-*ℤ, *ℤ-zero}
use lib.ListN.{length, take, drop, get_elem?, replicate}
use lib.Seq.{take-append_seam}
use mir.Syntax.{w32}
use borrow.Author.Tests.{ltb-true, ltb-false, lt-ltb, le-ltb, ne_eqb}
use Rattle.words.specs.Words.{wrap}
use Rattle.blocks.specs.Refusals.{answer}
use Rattle.blocks.specs.Blocks.{unless}
use Rattle.std.specs.Prelude.{Ok}
use Rattle.sums.specs.Signed.{exact_ops, signed_ops}
use Rattle.sums.specs.State.{refusal_of}
use Rattle.sums.specs.Calls.{new_number, new_state}
use Rattle.sums.specs.Moving.{moving}
use Rattle.sums.specs.Counted.{Numbered, plain, new_counted}
use Rattle.sums.specs.Runs.{needed, values, over}
use Rattle.sums.specs.Demands.{input, modulo, Decimates}
use Rattle.cic.specs.Reading.{cic_of}
use Rattle.cic.specs.Answers.{made_of}
use Rattle.cic.proofs.Making.{new_made}
use Rattle.demands.proofs.Demands.{after-new}
use Rattle.fir.specs.Ways.{up_to, rest, ways}
use Rattle.fir.specs.Weights.{taken, weights, weighed}
use Rattle.fir.specs.declared.Fir.{Fir}
use Rattle.fir.specs.Calls.{Stepped, Decimated, stepped_of, output_of, outputs, after, block_number, wrote_of, decimated_of, written_of}
use Rattle.fir.specs.Equal.{took_block, gave_block, Called, OneList, SameOutputs}
use Rattle.fir.specs.Inner.{outputs_from}
use Rattle.fir.proofs.Weighing.{weighs, moving_weighs}
use Rattle.fir.proofs.Standing.{outputs_from-length}
use Rattle.fir.proofs.Turns.{outputs_from_law}

-- ---- one list

outputs-join : (s : Fir) (us xs : List ℤ) → outputs s (us ++ xs) ≡ outputs s us ++ outputs (after s us) xs
unfolding outputs after
outputs-join s [] xs = refl
outputs-join s (u ∷ us) xs =
    ap (λ (ys : List ℤ). output_of (stepped_of s u).out ++ ys) (outputs-join (stepped_of s u).state us xs)
    ∙ sym (append_assoc (output_of (stepped_of s u).out) (outputs (stepped_of s u).state us) (outputs (after (stepped_of s u).state us) xs))

after-join : (s : Fir) (us xs : List ℤ) → after s (us ++ xs) ≡ after (after s us) xs
unfolding after
after-join s [] xs = refl
after-join s (u ∷ us) xs = after-join (stepped_of s u).state us xs

abbrev One : Fir → List ℤ → List ℤ → Fir → Type 0
One s xs ys t = (ys ≡ outputs s xs) × (t ≡ after s xs)

-- what an accepted block gave is its outputs
gave_all : (s : Fir) (us lent : List ℤ) → take (needed (length us) s.countdown 63) (over (outputs s us) lent) ≡ outputs s us
gave_all s us lent =
    let e : length (outputs s us) ≡ needed (length us) s.countdown 63
    = ap length (outputs_from_law s.cells s.countdown us) ∙ outputs_from-length s.cells s.countdown us in
    ap (λ (n : ℕ). take n (over (outputs s us) lent)) (sym e) ∙ take-append_seam (outputs s us) (drop (length (outputs s us)) lent)

one_block : (s t : Fir) (us lent xs ys : List ℤ) (k : ℕ) → One (unless k s (after s us)) xs ys t
    → One s (took_block (wrote_of k (needed (length us) s.countdown 63)) us ++ xs)
    (gave_block (wrote_of k (needed (length us) s.countdown 63)) (unless k lent (over (outputs s us) lent)) ++ ys) t
unfolding answer
one_block s t us lent xs ys zero o =
    (ap₂ ◌++◌ (gave_all s us lent) o.0 ∙ sym (outputs-join s us xs), o.1 ∙ sym (after-join s us xs))
one_block s t us lent xs ys (suc k) o =
    subst (λ (q : Fir). One q xs ys t) (ap (λ (b : Bool). cond b (after s us) s) (ne_eqb (suc k) 0 (λ e. omega arith))) o

one : {s t : Fir} {xs ys : List ℤ} → Called s xs ys t → One s xs ys t
unfolding outputs after decimated_of written_of
one Called.none = (refl, refl)
one {s} {t} (Called.decimate {xs = xs} {ys = ys} x r p rest) =
    let o = one rest in (
      ap₂ (λ (a : Stepped) (l : List ℤ). output_of a.out ++ l) p (o.0 ∙ ap (λ (a : Stepped). outputs a.state xs) p),
      o.1 ∙ ap (λ (a : Stepped). after a.state xs) p,
    )
one {s} {t} (Called.decimate_block {xs = xs} {ys = ys} us lent left r p q rest) =
    let wrote = decimated_of s us lent in
    subst (λ (a : Decimated). One s (took_block a.wrote us ++ xs) (gave_block a.wrote left ++ ys) t) (sym p)
    (subst (λ (l : List ℤ). One s (took_block wrote.wrote us ++ xs) (gave_block wrote.wrote l ++ ys) t) (sym q)
    (one_block s t us lent xs ys (block_number s us lent) (subst (λ (a : Decimated). One a.state xs ys t) p (one rest))))

pub one_list : OneList
one_list s xs ys t c = one c

-- ---- same outputs

-- ---- no more than k (L - 1)

up_to-none : (L : ℕ) (g : ℕ → ℕ) → ((i : ℕ) → i < L → g i ≡ 0) → up_to L g ≡ 0
unfolding up_to
up_to-none zero g h = refl
up_to-none (suc L) g h = ap₂ ◌+◌ (h 0 (omega arith)) (up_to-none L (λ i. g (suc i)) (λ i l. h (suc i) (omega arith)))

rest-zero : (i : ℕ) (h : ℕ → ℕ) (n : ℕ) → h (n - i) ≡ 0 → rest i h n ≡ 0
unfolding rest
rest-zero i h n e = pick (leb i n)
  where
    pick : (b : Bool) → cond b (h (n - i)) 0 ≡ 0
    pick true = e
    pick false = refl

ways-none : (l k n : ℕ) → k * l < n → ways (suc l) k n ≡ 0
unfolding ways
ways-none l zero n h = let p : 0 < n = omega arith in ap (λ (b : Bool). cond b 1 0) (ne_eqb n 0 (λ e. omega arith))
ways-none l (suc k) n h =
    let m = suc-mul k l in
    up_to-none (suc l) (λ i. rest i (ways (suc l) k) n) (λ i g. rest-zero i (ways (suc l) k) n (ways-none l k (n - i) (omega arith)))

-- ---- the cells weigh what the inputs do

weights-none : (h : ℕ → ℕ) (l : List ℤ) → ((n : ℕ) → h n ≡ 0) → weights h l ≡ pos 0
unfolding weights
weights-none h [] e = refl
weights-none h (x ∷ l) e =
    ap₂ ◌+ℤ◌ (ap (λ (m : ℕ). pos m *ℤ x) (e 0) ∙ zero-*ℤ x) (weights-none (λ n. h (suc n)) l (λ n. e (suc n)))

trim : (m : ℕ) (h : ℕ → ℕ) (l : List ℤ) → ((n : ℕ) → m ≤ n → h n ≡ 0) → weights h (take m l) ≡ weights h l
unfolding weights
trim zero h l e = sym (weights-none h l (λ n. e n (omega arith)))
trim (suc m) h [] e = refl
trim (suc m) h (x ∷ l) e = ap (λ y. pos (h 0) *ℤ x +ℤ y) (trim m (λ n. h (suc n)) l (λ n k. e (suc n) (omega arith)))

weights_zeros : (h : ℕ → ℕ) (n : ℕ) → weights h (replicate n (pos 0)) ≡ pos 0
unfolding weights
weights_zeros h zero = refl
weights_zeros h (suc n) = ap₂ ◌+ℤ◌ (*ℤ-zero (pos (h 0))) (weights_zeros (λ n. h (suc n)) n)

-- the cells before input number t
cells_at : (ℕ → ℤ) → ℕ → List ℤ
cells_at x zero = replicate 190 (pos 0)
cells_at x (suc t) = taken (cells_at x t) (x t)

cells_weigh : (x : ℕ → ℤ) (t : ℕ) (h : ℕ → ℕ) → ((n : ℕ) → 190 ≤ n → h n ≡ 0) → weights h (cells_at x (suc t)) ≡ weighs h x t
unfolding cells_at taken weights weighs
cells_weigh x zero h e =
    ap (λ y. pos (h 0) *ℤ x 0 +ℤ y)
    (trim 189 (λ n. h (suc n)) (replicate 190 (pos 0)) (λ n k. e (suc n) (omega arith)) ∙ weights_zeros (λ n. h (suc n)) 190)
    ∙ +ℤ_idr (pos (h 0) *ℤ x 0)
cells_weigh x (suc t) h e =
    ap (λ y. pos (h 0) *ℤ x (suc t) +ℤ y)
    (trim 189 (λ n. h (suc n)) (cells_at x (suc t)) (λ n k. e (suc n) (omega arith))
    ∙ cells_weigh x t (λ n. h (suc n)) (λ n k. e (suc n) (omega arith)))

-- what the engine gives after input number t
value : (ℕ → ℤ) → ℕ → ℤ
value x t = wrap w32 (moving exact_ops 64 3 x t)

weighed_is : (x : ℕ → ℤ) (t : ℕ) → weighed (cells_at x (suc t)) ≡ value x t
unfolding weighed value
weighed_is x t = ap (wrap w32) (cells_weigh x t (ways 64 3) (λ n k. ways-none 63 3 n (omega arith)) ∙ sym (moving_weighs 64 3 x t))

-- ---- the outputs by their places

placed : (ℕ → ℤ) → ℕ → ℕ → ℕ → ℕ → Option ℤ
placed x t c n k = cond (ltb (c + k * 64) n) (some (value x (t + (c + k * 64)))) none

ltb_suc : (a b : ℕ) → ltb (suc a) (suc b) ≡ ltb a b
ltb_suc a b = pick (ltb a b) refl
  where
    pick : (t : Bool) → ltb a b ≡ t → ltb (suc a) (suc b) ≡ t
    pick true e = lt-ltb (suc a) (suc b) (let h = ltb-true a b e in omega arith)
    pick false e = le-ltb (suc a) (suc b) (let h = ltb-false a b e in omega arith)

-- one input on: the place is one nearer and the time one more
placed_on : (x : ℕ → ℤ) (t a b n : ℕ) → b ≡ suc a
    → cond (ltb a n) (some (value x (suc t + a))) none ≡ cond (ltb b (suc n)) (some (value x (t + b))) none
placed_on x t a b n e =
    let u : suc t + a ≡ t + b = omega arith in
    ap₂ (λ (q : Bool) (i : ℕ). cond q (some (value x i)) none) (sym (ltb_suc a n) ∙ ap (λ (i : ℕ). ltb i (suc n)) (sym e)) u

Follows : (ℕ → ℤ) → ℕ → List ℤ → Type 0
Follows x t xs = (i : ℕ) → i < length xs → input xs i ≡ x (t + i)

follows_on : (x : ℕ → ℤ) (t : ℕ) (y : ℤ) (xs : List ℤ) → Follows x t (y ∷ xs) → Follows x (suc t) xs
unfolding Follows
follows_on x t y xs h i l = h (suc i) (omega arith) ∙ ap x (omega arith)

first_is : (x : ℕ → ℤ) (t : ℕ) (y : ℤ) (xs : List ℤ) → Follows x t (y ∷ xs) → y ≡ x t
unfolding Follows
first_is x t y xs h = h 0 (omega arith) ∙ ap x (omega arith)

engine_placed : (x : ℕ → ℤ) (xs : List ℤ) (t c : ℕ) → Follows x t xs
    → (k : ℕ) → get_elem? (outputs_from (cells_at x t) c xs) k ≡ placed x t c (length xs) k
unfolding outputs_from placed cells_at
engine_placed x [] t c h k = sym (ap (λ (b : Bool). cond b (some (value x (t + (c + k * 64)))) none) (le-ltb (c + k * 64) 0 (omega arith)))
engine_placed x (y ∷ xs) t zero h zero =
    let e = first_is x t y xs h in
    let z : t ≡ t + (0 + 0 * 64) = omega arith in
    ap (λ y. some (weighed (taken (cells_at x t) y))) e ∙ ap some (weighed_is x t) ∙ ap (λ (i : ℕ). some (value x i)) z
    ∙ sym (ap (λ (b : Bool). cond b (some (value x (t + (0 + 0 * 64)))) none) (lt-ltb (0 + 0 * 64) (suc (length xs)) (omega arith)))
engine_placed x (y ∷ xs) t zero h (suc k) =
    let e = first_is x t y xs h in
    ap (λ y. get_elem? (outputs_from (taken (cells_at x t) y) 63 xs) k) e
    ∙ engine_placed x xs (suc t) 63 (follows_on x t y xs h) k
    ∙ placed_on x t (63 + k * 64) (0 + suc k * 64) (length xs) (omega arith)
engine_placed x (y ∷ xs) t (suc c) h k =
    let e = first_is x t y xs h in
    ap (λ y. get_elem? (outputs_from (taken (cells_at x t) y) c xs) k) e
    ∙ engine_placed x xs (suc t) c (follows_on x t y xs h) k
    ∙ placed_on x t (c + k * 64) (suc c + k * 64) (length xs) (omega arith)

-- ---- the decimator's

record Found (ys : List (Numbered ℤ)) (k : ℕ) : Type 0 where
  output : Numbered ℤ
  is : get_elem? ys k ≡ some output
  number : get_elem? (values (plain ys)) k ≡ some output.value

found : (ys : List (Numbered ℤ)) (k : ℕ) → k < length ys → Found ys k
found [] k h = absurd (omega arith)
found (y ∷ ys) zero h = record { output = y; is = refl; number = refl }
found (y ∷ ys) (suc k) h = let f = found ys k (omega arith) in record { output = f.output; is = f.is; number = f.number }

beyond : (ys : List (Numbered ℤ)) (k : ℕ) → length ys ≤ k → get_elem? (values (plain ys)) k ≡ none
beyond [] k h = refl
beyond (y ∷ ys) zero h = absurd (omega arith)
beyond (y ∷ ys) (suc k) h = beyond ys k (omega arith)

decimator-placed : (xs : List ℤ) (ys : List (Numbered ℤ)) → Decimates w32 3 1 63 0 0 0 xs ys
    → (k : ℕ) → get_elem? (values (plain ys)) k ≡ placed (input xs) 0 0 (length xs) k
unfolding placed value modulo
decimator-placed xs ys d k = pick (ltb k (length ys)) refl
  where
    v : ℤ
    v = wrap w32 (moving exact_ops 64 3 (input xs) (0 + (0 + k * 64)))

    pick : (t : Bool) → ltb k (length ys) ≡ t → get_elem? (values (plain ys)) k ≡ cond (ltb (0 + k * 64) (length xs)) (some v) none
    pick true e =
        let f = found ys k (ltb-true k (length ys) e) in
        let m = d.tells k f.output f.is ∙ zero-sub k in
        let z : 0 + k * 64 ≡ 0 + (0 + k * 64) = omega arith in
        f.number ∙ ap some (d.sums k f.output f.is m ∙ ap (λ (i : ℕ). wrap w32 (moving exact_ops 64 3 (input xs) i)) z)
        ∙ sym (ap (λ (b : Bool). cond b (some v) none) (sym (d.falls k) ∙ e))
    pick false e = beyond ys k (ltb-false k (length ys) e) ∙ sym (ap (λ (b : Bool). cond b (some v) none) (sym (d.falls k) ∙ e))

-- lists with the same elements
same : (a b : List ℤ) → ((k : ℕ) → get_elem? a k ≡ get_elem? b k) → a ≡ b
same [] [] h = refl
same [] (y ∷ b) h = let e : none ≡ some y = h 0 in let z : ◌≡◌ {A = ℕ} 0 1 = cc in absurd (omega arith)
same (x ∷ a) [] h = let e : some x ≡ none = h 0 in let z : ◌≡◌ {A = ℕ} 0 1 = cc in absurd (omega arith)
same (x ∷ a) (y ∷ b) h = let e : some x ≡ some y = h 0 in let z : x ≡ y = cc in ap₂ ◌∷◌ z (same a b (λ k. h (suc k)))

follows : (xs : List ℤ) → Follows (input xs) 0 xs
unfolding Follows
follows xs i l = ap (input xs) (sym (zero-add i))

-- Cic::new(3, 1, 63) is accepted
accepted : made_of (new_number 3 1 63) (new_counted (signed_ops w32) 3 1 63) ≡ Ok (cic_of (new_counted (signed_ops w32) 3 1 63))
unfolding refusal_of answer
accepted = refl

pub same-outputs : SameOutputs
unfolding cells_at
same-outputs made m xs ys t c zs u run =
    let s = cic_of (new_counted (signed_ops w32) 3 1 63) in
    let d = ((after-new w32 3 1 63 s accepted).0 xs zs u (rw (new_made (signed_ops w32) 3 1 63 made m).1 at run)).1 in
    (one c).0
    ∙ outputs_from_law (replicate 190 (pos 0)) 0 xs
    ∙ same (outputs_from (replicate 190 (pos 0)) 0 xs) (values (plain zs))
    (λ k. engine_placed (input xs) xs 0 0 (follows xs) k ∙ sym (decimator-placed xs zs d k))
