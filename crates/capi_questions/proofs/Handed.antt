-- A question handed on, by its number, which is a refusal's or 0.
use Rattle.std.proofs.Common.{◌≡◌, ℕ, zero, suc, Bool, true, false, cond, refl, ap, sym, ◌∙◌, eq-eqb, ne_eqb, rules}
use mir.Val.{bool_byte}
use Rattle.std.specs.Prelude.{Result, Ok, Err}
use Rattle.blocks.specs.declared.refusal.Refusal.{Refusal}
use Rattle.blocks.specs.Blocks.{unless}
use Rattle.blocks.specs.Refusals.{number_of, answer, number_in}
use Rattle.blocks.proofs.Refusals.{taken_number, taken_value}
use Rattle.shape.proofs.Known.{Known, known}
use Rattle.shape.proofs.Ways.{never}
use Rattle.capi_questions.specs.Answers.{told_or, Tells, Fits}

stands : (k x v : ℕ) → told_or (answer k x) v ≡ unless k v x
unfolding answer
stands zero x v = refl
stands (suc k) x v = rw (ne_eqb (suc k) 0 (λ z. search rules))

pub tells : (k x v w r : ℕ) (m : Result ℕ Refusal) → Known k → m ≡ answer k x → w ≡ told_or m v → r ≡ number_in m → Tells k x v w r
tells k x v w r m p e f g = record { answer = g ∙ ap number_in e ∙ known k x p; value = f ∙ ap (λ (q : Result ℕ Refusal). told_or q v) e ∙ stands k x v }

bit : (y : Bool) → bool_byte y ≡ cond y 1 0
bit true = refl
bit false = refl

module _ (k v : ℕ) (b : Bool) where
  pub fits : (y : Bool) (w : ℕ) → ◌≡◌ {A = Result Bool Refusal} (Ok y) (answer k b) → w ≡ bool_byte y → Fits k b v w 0
  fits y w e f =
      let z = taken_number k b y e in
      record { answer = sym z; value = rw (eq-eqb k 0 z) (f ∙ bit y ∙ ap (λ (q : Bool). cond q 1 0) (taken_value k b y e)) }

  pub unfit : (r : Refusal) (n : ℕ) → Known k → ◌≡◌ {A = Result Bool Refusal} (Err r) (answer k b) → n ≡ number_of r → Fits k b v v n
  unfit r n p e f = record { answer = f ∙ ap number_in e ∙ known k b p; value = rw (ne_eqb k 0 (never k b r e)) }
