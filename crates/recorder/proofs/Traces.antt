-- The statements of specs/Traces: a run of `take` is a run of the filter's blocks on the words' turns (demands), and of its outputs those
-- told 0 are known by their numbers.
use mathlib.Core.Path.{◌≡◌, refl, sym, ap, subst, ◌∙◌}
use mathlib.Core.Bool.{Bool, true, false, cond}
use mathlib.Core.List.{List, [], ◌∷◌, ◌++◌}
use Prim.Native.Nat.{ℕ, zero, suc, ◌+◌, ◌-◌, ◌*◌, ◌≤◌, ◌<◌}
use native.Mathlib.Omega.{arith}
use lib.Dec.{ltb, leb, eqb, eqb-suc-zero}
use lib.IntN.{ℤ, pos}
use mir.Syntax.{w64}
use native.Mathlib.Nat.{mul-le-mul_right}
use lib.ListN.{length}
use borrow.Author.Tests.{ltb-true, ltb-false, lt-leb, le-leb, eq-eqb, ne_eqb}
use Rattle.std.specs.Prelude.{Result, Err}
use Rattle.blocks.specs.declared.refusal.Refusal.{Refusal}
use Rattle.blocks.specs.Refusals.{answer}
use Rattle.blocks.proofs.Refusals.{accepted, taken_number, taken_value}
use Rattle.blocks.specs.Blocks.{unless}
use Rattle.blocks.specs.Scan.{ends}
use Rattle.unwrap.specs.Phases.{grown}
use Rattle.unwrap.specs.declared.unwrapper.Unwrapper.{Unwrapper}
use Rattle.sums.specs.Calls.{new_number}
use Rattle.sums.specs.Counted.{Numbered, new_counted, resume_counted, rate_counted, block_number, block_out}
use Rattle.sums.specs.Demands.{Decimates}
use Rattle.shape.specs.declared.runs.Written.{Written}
use Rattle.shape.specs.Answers.{block_wrote}
use Rattle.cic.specs.Reading.{counted_of, cic_of}
use Rattle.cic.specs.declared.state.Cic.{Cic}
use Rattle.demands.specs.Demands.{took_block, gave_block, Decimating, Decimator}
use Rattle.demands.proofs.Demands.{after-new, after_resume, after-set-rate}
use Rattle.recorder.specs.Calls.{word_ops, turn_out, turns_from, opened, opened_of, push_number, pushed_of, rated_of, block_took}
use Rattle.recorder.specs.Calls.{took_of, took_answer, out_left}
use Rattle.recorder.specs.Traces.{Recording, Trace, Traces, AfterOpen, AfterPush, AfterRate}
use Rattle.recorder.specs.declared.recorder.Recorder.{Recorder}

-- turns go on from word to word
turns-join : (u : Unwrapper) (us ws : List ℤ) → turns_from u us ++ turns_from (ends turn_out grown u us) ws ≡ turns_from u (us ++ ws)
turns-join u [] ws = refl
turns-join u (x ∷ us) ws = ap (λ l. turn_out u x ∷ l) (turns-join (grown u x) us ws)

-- a block that was taken, or refused, leads on
abbrev Goes : Recorder → List ℤ → List (Numbered ℤ) → Recorder → Type 0
Goes s ws ys t = Decimating w64 s.filter (turns_from s.turns ws) ys t.filter

block_goes : (u : Unwrapper) (us xs : List ℤ) (n : ℕ) (v : Written)
    → took_block (answer n v) (turns_from u us) ++ turns_from (unless n u (ends turn_out grown u us)) xs
    ≡ turns_from u (took_block (answer n v) us ++ xs)
unfolding answer
block_goes u us xs zero v = turns-join u us xs
block_goes u us xs (suc n) v = rw (eqb-suc-zero n) refl

-- what is refused leads nowhere
stands : (s u t : Recorder) (us left : List ℤ) (r : Result Written Refusal) (k : Refusal) (ws : List ℤ) (ys : List (Numbered ℤ)) → u ≡ s
    → r ≡ Err k → Goes u ws ys t → Goes s (took_block r us ++ ws) (gave_block (suc s.filter.rate) r left ++ ys) t
stands s u t us left r k ws ys e a g =
    subst (λ (q : Result Written Refusal). Goes s (took_block q us ++ ws) (gave_block (suc s.filter.rate) q left ++ ys) t) (sym a)
    (subst (λ (q : Recorder). Goes q ws ys t) e g)

take_goes : (b p : Bool) (s u t : Recorder) (us out left : List ℤ) (r : Result Written Refusal) (ws : List ℤ) (ys : List (Numbered ℤ))
    → let xs = turns_from s.turns us in
    u ≡ cond b s (cond p (block_took s us out) s)
    → r ≡ cond b (Err Refusal.ShortOutput) (cond p (block_wrote word_ops (counted_of s.filter) xs out) (Err Refusal.PlugOut))
    → left ≡ cond b out (cond p (block_out word_ops (counted_of s.filter) xs out) out)
    → Goes u ws ys t
    → Goes s (took_block r us ++ ws) (gave_block (suc s.filter.rate) r left ++ ys) t
take_goes true p s u t us out left r ws ys e a l g = stands s u t us left r _ ws ys e a g
take_goes false false s u t us out left r ws ys e a l g = stands s u t us left r _ ws ys e a g
take_goes false true s u t us out left r ws ys e a l g =
    let xs = turns_from s.turns us in let n : ℕ = block_number (counted_of s.filter) xs out in
    let joined : took_block r xs ++ turns_from u.turns ws ≡ turns_from s.turns (took_block r us ++ ws) =
    ap (λ (q : Recorder). took_block r xs ++ turns_from q.turns ws) e
    ∙ ap (λ (q : Result Written Refusal). took_block q xs ++ turns_from (unless n s.turns (ends turn_out grown s.turns us)) ws) a
    ∙ block_goes s.turns us ws n _
    ∙ ap (λ (q : Result Written Refusal). turns_from s.turns (took_block q us ++ ws)) (sym a) in
    subst (λ (q : List ℤ). Decimating w64 s.filter q (gave_block (suc s.filter.rate) r left ++ ys) t.filter) joined
    (Decimating.decimate_block xs out left r (ap (λ (q : Recorder). counted_of q.filter) e, a, l) g)

pub goes : {s t : Recorder} {ws : List ℤ} {ys : List (Numbered ℤ)} → Recording s ws ys t → Goes s ws ys t
unfolding took_of took_answer out_left
goes Recording.none = Decimating.none
goes {s} {t} (Recording.take {u = u} {ws = ws} {ys = ys} us turns out left r e a l run) =
    take_goes (ltb (length turns) (length us)) s.plugged s u t us out left r ws ys e a l (goes run)

-- told 0 by the number
module _ (rate c u n k told number : ℕ) (a : number ≡ n + (c + k * suc rate + 1)) (b : told ≡ u - k) where
  known-low : k < u → eqb told 0 ≡ leb (n + (c + u * suc rate + 1)) number
  known-low h =
      let g : suc k * suc rate ≤ u * suc rate = mul-le-mul_right (suc rate) h in
      ne_eqb told 0 (λ z. omega arith) ∙ sym (lt-leb (n + (c + u * suc rate + 1)) number (omega (arith, g)))

  known-high : u ≤ k → eqb told 0 ≡ leb (n + (c + u * suc rate + 1)) number
  known-high h =
      let g : u * suc rate ≤ k * suc rate = mul-le-mul_right (suc rate) h in
      eq-eqb told 0 (omega arith) ∙ sym (le-leb (n + (c + u * suc rate + 1)) number (omega (arith, g)))

  known_by : (t : Bool) → ltb k u ≡ t → eqb told 0 ≡ leb (n + (c + u * suc rate + 1)) number
  known_by true e = known-low (ltb-true k u e)
  known_by false e = known-high (ltb-false k u e)

module _ (N M rate c u n : ℕ) where
  trace : {xs : List ℤ} {ys : List (Numbered ℤ)} → Decimates w64 N M rate c u n xs ys → Trace N M rate c u n xs ys
  trace d = record { decimates = d; known = λ k y e. known_by rate c u n k y.told y.number (d.numbers k y e) (d.tells k y e) (ltb k u) refl }

  pub traces : (s : Recorder) → Decimator w64 N M rate c u n s.filter → Traces N M rate c u n s.turns s
  traces s d ws ys t run = trace (d (turns_from s.turns ws) ys t.filter (goes run)).1

-- an accepted call's recorder
pub after_open : AfterOpen
unfolding opened_of
after_open N M rate s e =
    let k : ℕ = new_number N M rate in
    let f : Cic ℤ = cic_of (new_counted word_ops N M rate) in
    let z : k ≡ 0 = taken_number k (opened f) s (sym e) in
    subst (λ (q : Recorder). Traces N M rate 0 0 0 (record { y = pos 0 }) q) (sym (taken_value k (opened f) s (sym e)))
    (traces N M rate 0 0 0 (opened f) (after-new w64 N M rate f (sym (accepted k f z))).0)

pub after_push : AfterPush
unfolding pushed_of
after_push s e h =
    let f = s.filter in
    let c = f.countdown in
    let n = f.inputs in
    let k : ℕ = push_number s in
    let z : k ≡ 0 = taken_number k tt tt (sym e) in
    let g : Cic ℤ = cic_of (resume_counted word_ops f.order f.delay f.rate f.integrators f.combs f.hold c n) in
    let t : Recorder = record { plugged = true; turns = s.turns; filter = g } in
    let is : unless k s t ≡ t = rw (eq-eqb k 0 z) in
    subst (λ (q : Recorder). Traces f.order f.delay f.rate c (f.order * f.delay) n s.turns q) (sym is)
    (traces f.order f.delay f.rate c (f.order * f.delay) n t
    (after_resume w64 f.order f.delay f.rate c n f.integrators f.combs f.hold g (sym (accepted k g z)) h))

pub after-rate : AfterRate
unfolding rated_of
after-rate s rate e h =
    let f = s.filter in
    let g : Cic ℤ = cic_of (rate_counted word_ops (counted_of f) rate) in
    let t : Recorder = record { plugged = s.plugged; turns = s.turns; filter = g } in
    traces f.order f.delay rate f.countdown (f.order * f.delay) f.inputs t (after-set-rate w64 f g rate (refl, sym e) h)
