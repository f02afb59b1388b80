-- A call handed on: the number of its refusal, and what it leaves in the lent fields. The numbers are those that the definitions
-- of the filters' crates give.
use Rattle.std.proofs.Common.{◌≡◌, refl, sym, ap, ◌∙◌, ℕ, zero, suc, List, ℤ, Bool, true, false, cond}
use Rattle.std.specs.Prelude.{Result, Ok, Err, eqb}
use Rattle.blocks.specs.declared.refusal.Refusal.{Refusal}
use Rattle.blocks.specs.Refusals.{answer, number_in, number_of, refusal_at}
use Rattle.blocks.proofs.Refusals.{taken_number, taken_value}
use Rattle.blocks.proofs.Ways.{kept, came, never}
use Rattle.blocks.specs.Blocks.{Blocked, lengths_number, unless}
use Rattle.blocks.specs.Scan.{ends}
use Rattle.dsm.specs.declared.Dsm.{Dsm}
use Rattle.dsm.specs.Calls.{Runs, order_number, cells_number, state_number, run_number}
use Rattle.wdf.specs.Calls.{sections_number, new_number}
use Rattle.biquad.specs.declared.biquad_clamp.BiquadClamp.{BiquadClamp}
use Rattle.biquad.specs.Answers.{limit_number, zero_gain_number}
use Rattle.biquad_fixed.specs.declared.coefficients.Biquad as Fixed
use Rattle.biquad_fixed.specs.declared.coefficients.BiquadClamp as FixedClamp
use Rattle.biquad_fixed.specs.Answers.{fraction_number, clamp_number}
use Rattle.capi_filters.specs.Answers.{Leaves, Modulates}

-- a number that docs/REFUSALS.md has, or none
abbrev pub Told : ℕ → Type 0
Told k = number_in {A = Unit {0}} (answer k tt) ≡ k

-- it is told whatever the value would be
pub told : {A : Type 0} (k : ℕ) (v : A) → Told k → number_in (answer k v) ≡ k
unfolding answer
told zero v h = refl
told (suc k) v h = h

either : (b : Bool) (j k : ℕ) → Told j → Told k → Told (cond b j k)
either true j k h i = h
either false j k h i = i

first : (j k : ℕ) → Told j → Told k → Told (unless j j k)
first j k h i = either (eqb j 0) k j i h

-- the table's numbers
none : Told 0
unfolding answer
none = refl

row-30 : Told 30
unfolding answer refusal_at
row-30 = refl

row-31 : Told 31
unfolding answer refusal_at
row-31 = refl

row-32 : Told 32
unfolding answer refusal_at
row-32 = refl

row-40 : Told 40
unfolding answer refusal_at
row-40 = refl

row-41 : Told 41
unfolding answer refusal_at
row-41 = refl

row-42 : Told 42
unfolding answer refusal_at
row-42 = refl

row-50 : Told 50
unfolding answer refusal_at
row-50 = refl

row-51 : Told 51
unfolding answer refusal_at
row-51 = refl

row-53 : Told 53
unfolding answer refusal_at
row-53 = refl

pub no_number : Told 0
no_number = none

pub order_told : (n : ℕ) → Told (order_number n)
order_told n = either _ 30 0 row-30 none

cells-told : (s : Dsm) → Told (cells_number s)
cells-told s = either _ 0 32 none row-32

pub state_told : (s : Dsm) → Told (state_number s)
unfolding state_number
state_told s = first _ _ (order_told s.order) (cells-told s)

pub run_told : (s : Dsm) (xs : List ℕ) (ys : List ℤ) → Told (run_number s xs ys)
unfolding run_number
run_told s xs ys = first _ _ (order_told s.order) (either _ (cells_number s) 31 (cells-told s) row-31)

pub sections_told : (sections architecture : ℕ) → Told (sections_number sections architecture)
unfolding sections_number
sections_told sections architecture = either _ 50 _ row-50 (either _ 0 51 none row-51)

pub new_told : (sections architecture : ℕ) → Told (new_number sections architecture)
unfolding new_number
new_told sections architecture = first _ _ (sections_told sections architecture) (either _ 53 0 row-53 none)

pub limit_told : (c : BiquadClamp) → Told (limit_number c)
limit_told c = either _ 41 0 row-41 none

pub gain_told : (c : BiquadClamp) → Told (zero_gain_number c)
gain_told c = either _ 42 0 row-42 none

pub fraction_told : (least : ℕ) (c : Fixed.Biquad) → Told (fraction_number least c)
fraction_told least c = either _ 40 0 row-40 none

pub clamp_told : (least : ℕ) (c : FixedClamp.BiquadClamp) → Told (clamp_number least c)
clamp_told least c = first _ _ (fraction_told least c.coeff) (either _ 41 0 row-41 none)

lengths-told : {A B : Type 0} (k : ℕ) (xs : List A) (ys : List B) → Told k → Told (lengths_number k xs ys)
lengths-told k xs ys h = either _ k 31 h row-31

pub handed : {S A B : Type 0} (k : ℕ) (out : S → A → B) (next : S → A → S) (s t u : S) (xs : List A) (ys zs : List B)
    (v : Result (Unit {0}) Refusal) (r : ℕ) → Told k → Blocked k out next s xs ys u v zs → t ≡ u → r ≡ number_in v
    → Leaves k out next s xs ys t r zs
handed k out next s t u xs ys zs v r h b e f = record {
  answer = f ∙ ap number_in b.verdict ∙ lengths-told k xs ys h;
  state = e ∙ b.state;
  written = b.written;
}

-- the same, where coefficients d and state p were gathered from the lent fields
pub handed_by : {Q S A B : Type 0} (k : Q → ℕ) (out : Q → S → A → B) (next : Q → S → A → S) (c d : Q) (s p t u : S) (xs : List A)
    (ys zs : List B) (v : Result (Unit {0}) Refusal) (r : ℕ) → ((q : Q) → Told (k q)) → d ≡ c → p ≡ s
    → Blocked (k d) (out d) (next d) p xs ys u v zs → t ≡ u → r ≡ number_in v
    → Leaves (k c) (out c) (next c) s xs ys t r zs
handed_by k out next c d s p t u xs ys zs v r h ec es b e f =
    handed (k c) (out c) (next c) s t u xs ys zs v r (h c) (rw (ec, es) at b) e f

-- a refused call, which leaves the lent fields unwritten
pub held : {S A B : Type 0} (k : ℕ) (out : S → A → B) (next : S → A → S) (s u : S) (xs : List A) (ys zs : List B) (q : Refusal) (r : ℕ)
    → Told k → Blocked k out next s xs ys u (Err q) zs → r ≡ number_of q → Leaves k out next s xs ys s r zs
held k out next s u xs ys zs q r h b f = record {
  answer = f ∙ ap number_in b.verdict ∙ lengths-told k xs ys h;
  state = kept (lengths_number k xs ys) s (ends out next s xs) (never (lengths_number k xs ys) tt q b.verdict);
  written = b.written;
}

pub modulated : (s t u : Dsm) (xs : List ℕ) (ys zs : List ℤ) (v : Result (Unit {0}) Refusal) (r : ℕ) → Runs s xs ys u v zs → t ≡ u
    → r ≡ number_in v → Modulates s xs ys t zs r
modulated s t u xs ys zs v r b e f = record {
  answer = f ∙ ap number_in b.verdict ∙ run_told s xs ys;
  state = e ∙ b.state;
  written = b.written;
}

-- a maker: what it made comes, or the caller's filter stays
pub comes : {A : Type 0} (k : ℕ) (s v m t : A) → ◌≡◌ {A = Result A Refusal} (Ok m) (answer k v) → t ≡ m → (0 ≡ k) × (t ≡ unless k s v)
comes k s v m t e f =
    let z = taken_number k v m e in (sym z, f ∙ taken_value k v m e ∙ came k s v z)

pub stays : {A : Type 0} (k : ℕ) (s v : A) (r : Refusal) → Told k → ◌≡◌ {A = Result A Refusal} (Err r) (answer k v)
    → (number_of r ≡ k) × (s ≡ unless k s v)
stays k s v r h e = (ap number_in e ∙ told k v h, kept k s v (never k v r e))
