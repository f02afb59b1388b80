-- A maker's answer by its number is what the rules say, with the blank state in a refused one's place.
use Rattle.std.proofs.Common.{◌≡◌, ℕ, zero, suc, List, refl, rules, ap, ◌∙◌, ne_eqb}
use Rattle.std.specs.Prelude.{Result}
use Rattle.std.specs.Result.{result_unwrap_or}
use Rattle.blocks.specs.declared.refusal.Refusal.{Refusal}
use Rattle.blocks.specs.Blocks.{unless}
use Rattle.blocks.proofs.Refusals.{in_place}
use Rattle.sums.specs.Ops.{Ops}
use Rattle.sums.specs.State.{State, blank}
use Rattle.sums.specs.Calls.{new_number, new_state, resume_number, resume_state}
use Rattle.sums.specs.Counted.{Counted, blank_counted, new_counted, resume_counted}
use Rattle.cic.specs.declared.state.Cic.{Cic}
use Rattle.cic.specs.Reading.{cic_of}
use Rattle.cic.specs.Answers.{made_of, Makes}

module _ {A : Type 0} (o : Ops A) where
  -- a state that is blank where k refuses, and so its number of inputs
  blank_twice : (k : ℕ) (s : State A) (i : ℕ)
      → unless k (cic_of (blank_counted o)) (cic_of (record { state = unless k (blank o) s; inputs = unless k 0 i }))
      ≡ cic_of (record { state = unless k (blank o) s; inputs = unless k 0 i })
  blank_twice zero s i = refl
  blank_twice (suc k) s i = rw (ne_eqb (suc k) 0 (λ z. search rules)) refl

  blank_once : (k : ℕ) (s : State A)
      → unless k (cic_of (blank_counted o)) (cic_of (record { state = unless k (blank o) s; inputs = 0 }))
      ≡ cic_of (record { state = unless k (blank o) s; inputs = 0 })
  blank_once zero s = refl
  blank_once (suc k) s = rw (ne_eqb (suc k) 0 (λ z. search rules)) refl

  standing : (number : ℕ) (c : Counted A) (r : Result (Cic A) Refusal) → r ≡ made_of number c
      → result_unwrap_or r (cic_of (blank_counted o)) ≡ unless number (cic_of (blank_counted o)) (cic_of c)
  standing number c r e = ap (λ (m : Result (Cic A) Refusal). result_unwrap_or m (cic_of (blank_counted o))) e ∙ in_place number (cic_of c) _

  pub new_made : (N M R : ℕ) (r : Result (Cic A) Refusal) → r ≡ made_of (new_number N M R) (new_counted o N M R)
      → Makes o (new_number N M R) (new_counted o N M R) r
  unfolding new_state
  new_made N M R r e = (e, standing _ _ r e ∙ blank_once (new_number N M R) _)

  pub resume_made : (N M R : ℕ) (integrators combs : List A) (hold : A) (countdown inputs : ℕ) (r : Result (Cic A) Refusal)
      → r ≡ made_of (resume_number N M R countdown) (resume_counted o N M R integrators combs hold countdown inputs)
      → Makes o (resume_number N M R countdown) (resume_counted o N M R integrators combs hold countdown inputs) r
  unfolding resume_state
  resume_made N M R integrators combs hold countdown inputs r e = (e, standing _ _ r e ∙ blank_twice (resume_number N M R countdown) _ inputs)
