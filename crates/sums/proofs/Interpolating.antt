-- The interpolator over words. From a state that is due: each output is what the integrators make of the held comb values, modulo 2 ^ w.
-- From zero that is the moving sum of the held input; after settle_interpolate on x it is x times gain.
use mathlib.Core.Path.{◌≡◌, refl, sym, ap, ap₂, subst, ◌∙◌}
use mathlib.Core.List.{List}
use mathlib.Core.Option.{some}
use Prim.Native.Nat.{ℕ, suc, ◌≤◌, ◌<◌}
use native.Mathlib.Omega.{arith}
use native.Mathlib.Nat.{zero-add}
use lib.IntN.{ℤ}
use lib.ListN.{length, get_elem?}
use mir.Syntax.{Width}
use Rattle.sums.specs.Signed.{signed_ops, exact_ops}
use Rattle.sums.specs.Moving.{held}
use Rattle.sums.specs.State.{State, view, refusal, zeroed}
use Rattle.sums.specs.Runs.{needed}
use Rattle.sums.specs.Demands.{input, modulo, along, after_calls, Raise, samples, lifts, yields, Interpolator}
use Rattle.sums.proofs.Refusals.{Sound}
use Rattle.sums.proofs.Arrays.{view_shaped}
use Rattle.sums.proofs.Steps.{Fit, accepted, room}
use Rattle.sums.proofs.Cascade.{comb_val, int_val}
use Rattle.sums.proofs.Zeros.{rises_from_zero}
use Rattle.sums.proofs.Carried.{exact_laws, rises_modulo}
use Rattle.sums.proofs.Settling.{elem_seg}
use Rattle.sums.proofs.Climbs.{risings_are}
use Rattle.sums.proofs.Rising.{risings-length, climbed, climbed_fit}
use Rattle.sums.proofs.Makers.{zeroed_fit, zeroed-integrators, zeroed-lines}

module _ (w : Width) (s : State ℤ) (f : Fit s) (e : s.countdown ≡ 0) (calls : List Raise)
  where
    abbrev pub read : List ℤ
    read = along (lifts (signed_ops w)) samples s calls

    abbrev pub given : List ℤ
    given = along (lifts (signed_ops w)) (yields (signed_ops w)) s calls

    pub read_count : length read ≡ needed (length given) 0 s.rate
    read_count =
        let c = climbed (signed_ops w) s f calls in
        c.counts ∙ ap₂ (λ n d. needed n d s.rate) (sym (ap length c.gave ∙ risings-length (signed_ops w) s c.steps read)) e

    -- output t of a run; x is any sequence in which the samples that it reads stand
    pub given_is : (x : ℕ → ℤ) → ((i : ℕ) → i < length read → input read i ≡ x i)
        → (t : ℕ) (y : ℤ) → get_elem? given t ≡ some y
        → y ≡ modulo w s.order (int_val exact_ops (view s).integrators (held (suc s.rate) (comb_val exact_ops (view s).lines x)) t)
    unfolding view
    given_is x a t y q =
        let c = climbed (signed_ops w) s f calls in
        let F : ℕ → ℤ = int_val (signed_ops w) (view s).integrators (held (suc s.rate) (comb_val (signed_ops w) (view s).lines x)) in
        let enough : needed c.steps 0 s.rate ≤ length read = subst (λ d. needed c.steps d s.rate ≤ length read) e
        (omega (arith, c.counts)) in
        elem_seg F 0 c.steps t y (ap (λ l. get_elem? l t) (sym (c.gave ∙ risings_are (signed_ops w) s f e c.steps read enough x a))
        ∙ q)
        ∙ ap F (zero-add t)
        ∙ rises_modulo w s.order (suc s.rate) (view s).integrators (view s).lines (view_shaped s (room s f)).order
        (view_shaped s (room s f)).lines_order x t

    pub raised_sound : refusal (after_calls (lifts (signed_ops w)) s calls) ≡ 0
    raised_sound =
        let t : State ℤ = after_calls (lifts (signed_ops w)) s calls in
        accepted t (climbed_fit (signed_ops w) s t f read given (climbed (signed_ops w) s f calls))

-- from zero
pub interpolates_zero : (w : Width) (N M r : ℕ) → Sound N M r 0 0 → Interpolator w N M r (zeroed (signed_ops w) N M r)
unfolding zeroed
interpolates_zero w N M r q calls =
    let s : State ℤ = zeroed (signed_ops w) N M r in
    let f = zeroed_fit (signed_ops w) N M r q in
    let x : ℕ → ℤ = input (read w s f refl calls) in (
      raised_sound w s f refl calls,
      record {
        counts = read_count w s f refl calls;
        sums = λ t y e. given_is w s f refl calls x (λ i l. refl) t y e
            ∙ ap (λ (F : ℕ → ℤ). modulo w N (F t))
            (ap₂ (λ is ls. int_val exact_ops is (held (suc r) (comb_val exact_ops ls x))) (zeroed-integrators (signed_ops w) N M r q)
            (zeroed-lines (signed_ops w) N M r q)
            ∙ rises_from_zero exact_ops exact_laws N M r x);
      },
    )
