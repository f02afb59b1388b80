-- A call of any kind that answers a refusal leaves its state as it was.
use Rattle.std.proofs.Common.{◌≡◌, ℕ, sym, ap, ◌∙◌, ne_eqb}
use Rattle.std.specs.Prelude.{Result, Err, ℤ}
use Rattle.std.specs.Int.{Width}
use Rattle.blocks.specs.declared.refusal.Refusal as reason
use Rattle.blocks.specs.Refusals.{answer}
use Rattle.blocks.specs.Blocks.{unless}
use Rattle.sums.specs.State.{State, refusal}
use Rattle.sums.specs.Calls.{rise_number, rise_state, rate_number, rate_state, clear_state, settle_state}
use Rattle.sums.specs.Runs.{fill_number, fill_state}
use Rattle.sums.specs.Counted.{Counted, take_number, take_state, block_number, block_state}
use Rattle.shape.proofs.Ways.{never}
use Rattle.lent.specs.Answers.{sample_of}
use Rattle.cic.specs.declared.state.Cic.{Cic}
use Rattle.cic.specs.Reading.{state_of, counted_of, cic_of}
use Rattle.demands.specs.Demands.{Refusal}

-- what is refused has a number
refuses : {V : Type 0} (n : ℕ) (v : V) (r : Result V reason.Refusal) (k : reason.Refusal) → r ≡ answer n v → r ≡ Err k → n ≡ 0 → ⊥
refuses n v r k p e = never n v k (sym e ∙ p)

-- a refused call leaves its state
stays : (n : ℕ) (c d : Counted ℤ) → (n ≡ 0 → ⊥) → cic_of (unless n c d) ≡ cic_of c
stays n c d h = rw (ne_eqb n 0 h)

-- the same where the number of inputs stays anyway, and where it would be set to 0
state_stays : (n : ℕ) (s t : State ℤ) (i : ℕ) → (n ≡ 0 → ⊥)
    → cic_of (record { state = unless n s t; inputs = i }) ≡ cic_of (record { state = s; inputs = i })
state_stays n s t i h = rw (ne_eqb n 0 h)

both-stay : (n : ℕ) (s t : State ℤ) (i : ℕ) → (n ≡ 0 → ⊥)
    → cic_of (record { state = unless n s t; inputs = unless n i 0 }) ≡ cic_of (record { state = s; inputs = i })
both-stay n s t i h = rw (ne_eqb n 0 h)

pub hands_back : {w : Width} {s u : Cic ℤ} → Refusal w s u → u ≡ s
unfolding take_state block_state rise_state fill_state rate_state clear_state settle_state
hands_back {w} {s} (Refusal.decimate x r p k e) =
    ap cic_of p.0 ∙ stays (take_number (counted_of s) 1) (counted_of s) _ (refuses (take_number (counted_of s) 1) _ r k p.1 e)
hands_back {w} {s} (Refusal.decimate_block us lent left r p k e) =
    ap cic_of p.0 ∙ stays (block_number (counted_of s) us lent) (counted_of s) _ (refuses (block_number (counted_of s) us lent) _ r k p.1 e)
hands_back {w} {s} (Refusal.interpolate x r p k e) =
    ap cic_of p.0 ∙ state_stays (rise_number (state_of s) (sample_of x)) (state_of s) _ s.inputs
    (refuses (rise_number (state_of s) (sample_of x)) _ r k p.1 e)
hands_back {w} {s} (Refusal.interpolate_block us lent left r p k e) =
    ap cic_of p.0 ∙ state_stays (fill_number (state_of s) us lent) (state_of s) _ s.inputs
    (refuses (fill_number (state_of s) us lent) _ r k p.1 e)
hands_back {w} {s} (Refusal.set_rate rate r p k e) =
    ap cic_of p.0 ∙ state_stays (rate_number (state_of s) rate) (state_of s) _ s.inputs (refuses (rate_number (state_of s) rate) _ r k p.1 e)
hands_back {w} {s} (Refusal.clear r p k e) =
    ap cic_of p.0 ∙ both-stay (refusal (state_of s)) (state_of s) _ s.inputs (refuses (refusal (state_of s)) _ r k p.1 e)
hands_back {w} {s} (Refusal.settle_interpolate x r p k e) =
    ap cic_of p.0 ∙ both-stay (refusal (state_of s)) (state_of s) _ s.inputs (refuses (refusal (state_of s)) _ r k p.1 e)
