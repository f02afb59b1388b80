-- How a call ends whose number is its first test's, or else the next one's.
use Rattle.std.proofs.Common.{◌≡◌, ℕ, zero, suc, rules, eq-eqb, ne_eqb}
use Rattle.std.specs.Prelude.{Result, Ok, Err}
use Rattle.blocks.specs.declared.refusal.Refusal.{Refusal}
use Rattle.blocks.specs.Refusals.{answer}
use Rattle.blocks.specs.Blocks.{unless}
use Rattle.blocks.proofs.Refusals.{taken_number, refused_too}
use Rattle.sums.proofs.Refusals.{Sound, sound}
use Rattle.shape.specs.declared.numbers.Numbers.{Numbers}
use Rattle.shape.specs.Answers.{refusal_in}

-- what is refused has a number
pub never : {V : Type 0} (k : ℕ) (v : V) (r : Refusal) → ◌≡◌ {A = Result V Refusal} (Err r) (answer k v) → k ≡ 0 → ⊥
unfolding answer
never k v r e z = search (rules, e, z)

-- what the first test refuses
pub first_refused : {A B : Type 0} (k n : ℕ) (v : A) (w : B) (r : Refusal) → ◌≡◌ {A = Result A Refusal} (Err r) (answer k v)
    → ◌≡◌ {A = Result B Refusal} (Err r) (answer (unless k k n) w)
unfolding answer
first_refused zero n v w r e = search rules
first_refused (suc k) n v w r e = rw (ne_eqb (suc k) 0 (λ z. search rules)) (refused_too (suc k) v w r e)

-- what it lets through goes by the next
pub first_taken : {A : Type 0} (k n : ℕ) (v w : A) → ◌≡◌ {A = Result A Refusal} (Ok w) (answer k v) → unless k k n ≡ n
first_taken k n v w e = rw (eq-eqb k 0 (taken_number k v w e))

-- what numbers have that pass their tests
pub passing : (n : Numbers) → ◌≡◌ {A = Result (Unit {0}) Refusal} (Ok tt) (answer (refusal_in n) tt)
    → Sound n.order n.delay n.rate n.countdown n.unsettled
passing n e = sound n.order n.delay n.rate n.countdown n.unsettled (taken_number (refusal_in n) tt tt e)
