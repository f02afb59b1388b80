-- A block that is not refused is its steps in turn: each step's promise from the state that the one before gave.
use mathlib.Core.Path.{◌≡◌, refl}
use mathlib.Core.Bool.{Bool, true, false, cond}
use mathlib.Core.List.{List, [], ◌∷◌}
use Prim.Native.Nat.{ℕ}
use native.Mathlib.Omega.{arith}
use lib.Dec.{eqb}
use lib.ListN.{length}
use lib.Ieee.{Float}
use Rattle.std.specs.Prelude.{Result, Ok}
use Rattle.blocks.specs.declared.refusal.Refusal.{Refusal}
use Rattle.blocks.specs.Refusals.{answer}
use Rattle.blocks.proofs.Refusals.{taken_number}
use Rattle.blocks.specs.Scan.{scan, ends}
use Rattle.blocks.specs.Blocks.{Blocked}
use Rattle.biquad.specs.declared.biquad.Biquad.{Biquad}
use Rattle.biquad.specs.declared.biquad_clamp.BiquadClamp.{BiquadClamp}
use Rattle.biquad.specs.declared.direct_form1.DirectForm1.{DirectForm1}
use Rattle.biquad.specs.declared.direct_form2_transposed.DirectForm2Transposed.{DirectForm2Transposed}
use Rattle.biquad.specs.Forms.{sum1, next1, stepped1, held1, onward1, sum2, next2, stepped2, held2, onward2}
use Rattle.biquad.specs.Answers.{limit_number, clamped1, clamped2}

-- the steps on xs from s give ys and t, where `Gives s x y t` says that one step on x from s gives y and t
pub data InTurn {S A B : Type 0} (Gives : S → A → B → S → Type 0) : S → List A → List B → S → Type 0 where
  ended : {s : S} → InTurn Gives s [] [] s
  stepped : {s m t : S} {x : A} {y : B} {xs : List A} {ys : List B} → Gives s x y m → InTurn Gives m xs ys t
      → InTurn Gives s (x ∷ xs) (y ∷ ys) t

accepted : (b : Bool) (k : ℕ) → ◌≡◌ {A = Result (Unit {0}) Refusal} (Ok tt) (answer (cond b k 31) tt) → (cond b k 31 ≡ 0) × (k ≡ 0)
accepted true k e = let z = taken_number k tt tt e in (z, z)
accepted false k e = let z : ◌≡◌ {A = ℕ} 31 0 = taken_number 31 tt tt e in absurd (omega arith)

module _ {S A B : Type 0} (k : ℕ) (out : S → A → B) (next : S → A → S) (Gives : S → A → B → S → Type 0) where
  scanned : ((s : S) (x : A) → Gives s x (out s x) (next s x)) → (s : S) (xs : List A)
      → InTurn Gives s xs (scan out next s xs) (ends out next s xs)
  scanned g s [] = ended
  scanned g s (x ∷ xs) = stepped (g s x) (scanned g (next s x) xs)

  pub in_turn_law : {s t : S} {xs : List A} {ys zs : List B} → (k ≡ 0 → (s : S) (x : A) → Gives s x (out s x) (next s x))
      → Blocked k out next s xs ys t (Ok tt) zs → InTurn Gives s xs zs t
  in_turn_law {s} {t} {xs} {ys} {zs} g b =
      let a = accepted (eqb (length xs) (length ys)) k b.verdict in
      rw (rw a.0 at b.state, rw a.0 at b.written) (scanned (g a.1) s xs)

-- Direct form 1, without and with clamp
pub steps1 : (c : Biquad) {s t : DirectForm1} {xs ys zs : List Float} → Blocked 0 (sum1 c) (next1 c) s xs ys t (Ok tt) zs
    → InTurn (λ s x y m. stepped1 c s x ≡ record { y = y; state = m }) s xs zs t
steps1 c b = in_turn_law 0 (sum1 c) (next1 c) _ (λ z s x. refl) b

pub clamped_steps1 : (c : BiquadClamp) {s t : DirectForm1} {xs ys zs : List Float}
    → Blocked (limit_number c) (held1 c) (onward1 c) s xs ys t (Ok tt) zs
    → InTurn (λ s x y m. clamped1 c s x ≡ record { out = Ok y; state = m }) s xs zs t
unfolding answer
clamped_steps1 c b = in_turn_law (limit_number c) (held1 c) (onward1 c) _ (λ z s x. rw z) b

-- Direct form 2 transposed, without and with clamp
pub steps2 : (c : Biquad) {s t : DirectForm2Transposed} {xs ys zs : List Float} → Blocked 0 (sum2 c) (next2 c) s xs ys t (Ok tt) zs
    → InTurn (λ s x y m. stepped2 c s x ≡ record { y = y; state = m }) s xs zs t
steps2 c b = in_turn_law 0 (sum2 c) (next2 c) _ (λ z s x. refl) b

pub clamped_steps2 : (c : BiquadClamp) {s t : DirectForm2Transposed} {xs ys zs : List Float}
    → Blocked (limit_number c) (held2 c) (onward2 c) s xs ys t (Ok tt) zs
    → InTurn (λ s x y m. clamped2 c s x ≡ record { out = Ok y; state = m }) s xs zs t
unfolding answer
clamped_steps2 c b = in_turn_law (limit_number c) (held2 c) (onward2 c) _ (λ z s x. rw z) b
