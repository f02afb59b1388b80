-- Answers by number: a refusal and its number tell each other, and calls refused by one number give one refusal.
use Rattle.std.proofs.Common.{◌≡◌, ℕ, zero, suc, refl, rules, ap, sym, ◌∙◌, ne_eqb}
use Rattle.std.specs.Prelude.{Result, Ok, Err}
use Rattle.std.specs.Result.{result_unwrap_or}
use Rattle.blocks.specs.declared.refusal.Refusal.{Refusal}
use Rattle.blocks.specs.Refusals.{number_of, refusal_at, answer}
use Rattle.blocks.specs.Blocks.{unless}

-- the table read either way
pub at_number : (r : Refusal) → refusal_at (number_of r) ≡ r
unfolding refusal_at
at_number Refusal.Order = refl
at_number Refusal.Delay = refl
at_number Refusal.Rate = refl
at_number Refusal.Countdown = refl
at_number Refusal.Gain = refl
at_number Refusal.Unsettled = refl
at_number Refusal.Inputs = refl
at_number Refusal.FitBits = refl
at_number Refusal.ShortOutput = refl
at_number Refusal.SampleNotDue = refl
at_number Refusal.SampleDue = refl
at_number Refusal.ShortInput = refl
at_number Refusal.ModulatorOrder = refl
at_number Refusal.Lengths = refl
at_number Refusal.Carry = refl
at_number Refusal.FractionBits = refl
at_number Refusal.Limits = refl
at_number Refusal.ForwardGain = refl
at_number Refusal.Sections = refl
at_number Refusal.Adapters = refl
at_number Refusal.Coefficient = refl
at_number Refusal.RetiredAdapter = refl
at_number Refusal.Dt2 = refl
at_number Refusal.ShiftFrequency = refl
at_number Refusal.ShiftPhase = refl
at_number Refusal.ScaleShift = refl
at_number Refusal.Opening = refl
at_number Refusal.LongLine = refl
at_number Refusal.UnknownRecord = refl
at_number Refusal.Fields = refl
at_number Refusal.Malformed = refl
at_number Refusal.OutOfRange = refl
at_number Refusal.Unterminated = refl
at_number Refusal.StoreForm = refl
at_number Refusal.SettingsLine = refl
at_number Refusal.Names = refl
at_number Refusal.ManySettings = refl
at_number Refusal.DitherPresent = refl
at_number Refusal.RecordNumber = refl
at_number Refusal.CheckValue = refl
at_number Refusal.PlugOut = refl
at_number Refusal.FileForm = refl
at_number Refusal.SampleRange = refl

-- two refusals of one number are one
pub same_number : (r s : Refusal) → number_of r ≡ number_of s → r ≡ s
same_number r s e = sym (at_number r) ∙ ap refusal_at e ∙ at_number s

-- an accepted call gives its value
pub accepted : {A : Type 0} (k : ℕ) (v : A) → k ≡ 0 → ◌≡◌ {A = Result A Refusal} (Ok v) (answer k v)
unfolding answer
accepted k v e = rw e refl

-- a call that is refused by k gives the refusal of k, whatever its value would be
pub refused_too : {A B : Type 0} (k : ℕ) (v : A) (w : B) (r : Refusal) → ◌≡◌ {A = Result A Refusal} (Err r) (answer k v)
    → ◌≡◌ {A = Result B Refusal} (Err r) (answer k w)
unfolding answer
refused_too zero v w r e = search rules
refused_too (suc k) v w r e = search rules

-- what gave a value was accepted, and gave it
pub taken_number : {A : Type 0} (k : ℕ) (v w : A) → ◌≡◌ {A = Result A Refusal} (Ok w) (answer k v) → k ≡ 0
unfolding answer
taken_number zero v w e = refl
taken_number (suc k) v w e = search rules

pub taken_value : {A : Type 0} (k : ℕ) (v w : A) → ◌≡◌ {A = Result A Refusal} (Ok w) (answer k v) → w ≡ v
unfolding answer
taken_value zero v w e = search rules
taken_value (suc k) v w e = search rules

-- a value that stands for a refused call's: it where the call is refused, else the call's own
pub in_place : {A : Type 0} (k : ℕ) (v stands : A) → result_unwrap_or (answer k v) stands ≡ unless k stands v
unfolding answer
in_place zero v stands = refl
in_place (suc k) v stands = rw (ne_eqb (suc k) 0 (λ z. search rules))
