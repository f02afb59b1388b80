-- The statements of specs/Demands: a run of real calls is one of the rules' (CallRuns), so the theorems of sums are the calls'.
use mathlib.Core.Path.{◌≡◌, sym, ap, ap₂, subst, ◌∙◌}
use mathlib.Core.List.{List}
use Prim.Native.Nat.{ℕ, suc, ◌*◌}
use lib.IntN.{ℤ}
use lib.ListN.{length, get_elem?, replicate}
use Rattle.std.specs.Prelude.{Ok}
use Rattle.std.specs.Int.{Width}
use Rattle.blocks.proofs.Refusals.{taken_number, taken_value}
use Rattle.sums.specs.Ops.{Ops}
use Rattle.sums.specs.Signed.{signed_ops}
use Rattle.sums.specs.State.{refusal}
use Rattle.sums.specs.Calls.{new_number, resume_number, rate_number}
use Rattle.sums.specs.Runs.{needed, first_told, settled_number, settled_part}
use Rattle.sums.specs.Counted.{Counted, Numbered, new_counted, resume_counted, rate_counted, clear_counted, block_number}
use Rattle.sums.specs.Counted.{plain, first_number, taken_outputs, block_out}
use Rattle.sums.specs.Demands as rules
use Rattle.sums.specs.Demands.{along, leaves, gives, lifts, yields, Decimates, Interpolates, believed}
use Rattle.sums.proofs.Refusals.{sound, good}
use Rattle.sums.proofs.Steps.{Fit}
use Rattle.sums.proofs.Counts.{outputs-length}
use Rattle.sums.proofs.Numbering.{block_accepts, block_room, plain-taken}
use Rattle.sums.proofs.Makers.{resume_is, resume_sound, rate_is, rate_sound, new_is, clear_is, zero_sound, zeroed_fit}
use Rattle.sums.proofs.Demands.{demand2, demand2_cleared, demand3, demand3_rate, settled}
use Rattle.sums.proofs.Believed.{settled_part_law}
use Rattle.shape.specs.declared.runs.Written.{Written}
use Rattle.shape.specs.Answers.{wrote_of}
use Rattle.cic.specs.declared.state.Cic.{Cic}
use Rattle.cic.specs.Reading.{state_of, counted_of, cic_of}
use Rattle.cic.proofs.InTurn.{outputs_is, settled_number_law}
use Rattle.demands.specs.Demands.{gave_block, Interpolating, Decimator, Interpolator}
use Rattle.demands.specs.Demands.{AfterNew, AfterClear, AfterResume, AfterSetRate, BelievedPart, AfterSettle}
use Rattle.demands.proofs.CallRuns.{gave_block_law, falls, rises}

module _ (w : Width) (N M r c u n : ℕ) (s : Cic ℤ) where
  of_falls : Fit (state_of s) → rules.Decimator w N M r c u n (counted_of s) → Decimator w N M r c u n s
  of_falls f d xs ys t run =
      let q = falls f run in
      let e = d q.calls in (
        ap (λ (d : Counted ℤ). refusal d.state) (sym q.left) ∙ e.0,
        subst (λ l. Decimates w N M r c u n xs l) q.gave
            (subst (λ l. Decimates w N M r c u n l (along (leaves (signed_ops w)) (gives (signed_ops w)) (counted_of s) q.calls)) q.took e.1),
      )

module _ (w : Width) (N M r : ℕ) (s : Cic ℤ) where
  of_rises : rules.Interpolator w N M r (state_of s) → Interpolator w N M r s
  of_rises d xs ys t run =
      let q = rises run in
      let e = d q.calls in (
        ap refusal (sym q.left) ∙ e.0,
        subst (λ l. Interpolates w N M r xs l) q.gave
            (subst (λ l. Interpolates w N M r l (along (lifts (signed_ops w)) (yields (signed_ops w)) (state_of s) q.calls)) q.took e.1),
      )

pub after-new : AfterNew
after-new w N M rate t p =
    let o : Ops ℤ = signed_ops w in let k : ℕ = new_number N M rate in let s : Cic ℤ = cic_of (new_counted o N M rate) in
    let e : k ≡ 0 = taken_number k s t (sym p) in
    let f : Fit (state_of s) = subst (λ q. Fit q) (sym (new_is o N M rate e)) (zeroed_fit o N M rate (sound N M rate 0 0 e)) in
    let q = demand2 w N M rate e in
    subst (λ (m : Cic ℤ). Decimator w N M rate 0 0 0 m × Interpolator w N M rate m) (sym (taken_value k s t (sym p)))
    (of_falls w N M rate 0 0 0 s f q.0, of_rises w N M rate s q.1)

pub after-clear : AfterClear
after-clear w s v p =
    let o : Ops ℤ = signed_ops w in
    let e : refusal (state_of s) ≡ 0 = taken_number (refusal (state_of s)) tt tt p.1 in
    let t : Cic ℤ = cic_of (clear_counted o (counted_of s)) in
    let f : Fit (state_of t) = subst (λ q. Fit q) (sym (clear_is o (state_of s) e))
    (zeroed_fit o s.order s.delay s.rate (zero_sound (state_of s) e)) in
    let q = demand2_cleared w (counted_of s) e in
    subst
    (λ (m : Cic ℤ). Decimator w s.order s.delay s.rate 0 0 0 m × Interpolator w s.order s.delay s.rate m)
    (ap cic_of (sym p.0)) (of_falls w s.order s.delay s.rate 0 0 0 t f q.0, of_rises w s.order s.delay s.rate t q.1)

pub after_resume : AfterResume
after_resume w N M rate c n is ks hold t p h =
    let o : Ops ℤ = signed_ops w in let k : ℕ = resume_number N M rate c in
    let s : Cic ℤ = cic_of (resume_counted o N M rate is ks hold c n) in
    let e : k ≡ 0 = taken_number k s t (sym p) in
    let f : Fit (state_of s) = subst (λ q. Fit q) (sym (resume_is o N M rate c is ks hold e))
    (record { good = resume_sound N M rate c e; long8 = h.long8; long64 = h.long64 }) in
    subst (λ (m : Cic ℤ). Decimator w N M rate c (N * M) n m) (sym (taken_value k s t (sym p)))
    (of_falls w N M rate c (N * M) n s f (demand3 w N M rate c n is ks hold e h))

pub after-set-rate : AfterSetRate
after-set-rate w s v rate p h =
    let o : Ops ℤ = signed_ops w in
    let e : rate_number (state_of s) rate ≡ 0 = taken_number (rate_number (state_of s) rate) tt tt p.1 in
    let t : Cic ℤ = cic_of (rate_counted o (counted_of s) rate) in
    let f : Fit (state_of t) = subst (λ q. Fit q) (sym (rate_is o (state_of s) rate e))
    (record { good = rate_sound (state_of s) rate e; long8 = h.long8; long64 = h.long64 }) in
    subst (λ (m : Cic ℤ). Decimator w s.order s.delay rate s.countdown (s.order * s.delay) s.inputs m) (ap cic_of (sym p.0))
    (of_falls w s.order s.delay rate s.countdown (s.order * s.delay) s.inputs t f (demand3_rate w (counted_of s) rate e h))

pub after_settle : AfterSettle
after_settle w s t x p n ys u run k y q =
    let e : refusal (state_of s) ≡ 0 = taken_number (refusal (state_of s)) tt tt p.1 in
    let c = rises (subst (λ (m : Cic ℤ). Interpolating w m (replicate n x) ys u) (ap cic_of p.0) run) in
    settled w (state_of s) x e c.calls n c.took k y (ap (λ l. get_elem? l k) c.gave ∙ q)

pub believed-part : BelievedPart
believed-part w s t us lent left wrote p h =
    let o : Ops ℤ = signed_ops w in
    let c : Counted ℤ = counted_of s in
    let R : ℕ = suc s.rate in
    let ys : List (Numbered ℤ) = taken_outputs o c us in
    let count : ℕ = needed (length us) s.countdown s.rate in
    let told : ℕ = first_told (plain ys) in
    let n : ℕ = block_number c us lent in
    let v : Written = record { count = count; told = told; number = first_number ys } in
    let z : n ≡ 0 = taken_number n v wrote p.1 in
    let is : wrote ≡ v = taken_value n v wrote p.1 in
    let f : Fit (state_of s) = record { good = good (state_of s) (block_accepts c us lent z); long8 = h.long8; long64 = h.long64 } in
    let long : wrote.count ≡ length (plain ys) = ap (λ (q : Written). q.count) is
    ∙ sym (ap length (plain-taken o c f us (block_room c us lent z)) ∙ outputs-length o (state_of s) f us) in
    let gave : ys ≡ gave_block R (Ok wrote) left = gave_block_law o c f us lent 0 z
    ∙ ap₂ (gave_block R) (ap (λ k. wrote_of k count told (first_number ys)) (sym z) ∙ sym p.1) (sym p.2) in (
      ap₂ settled_number p.2 (long ∙ ap (λ l. length (plain l)) (sym (outputs_is o s us))) ∙ settled_number_law o s f us lent z,
      ap₂ (λ l k. settled_part l k wrote.told) p.2 long
          ∙ ap (settled_part (block_out o c us lent) (length (plain ys))) (ap (λ (q : Written). q.told) is)
          ∙ settled_part_law o c f us lent z
          ∙ ap (λ l. believed (plain l)) gave,
    )
