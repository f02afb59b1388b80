-- The refusals and their numbers (document 01 and 02; docs/REFUSALS.md). They begin at 10, so 0 says that there is none.
use Rattle.std.specs.Prelude.{ℕ, zero, suc, cond, eqb, Result, Ok, Err}
use Rattle.blocks.specs.declared.refusal.Refusal.{Refusal}

-- the number of a refusal
abbrev pub number_of : Refusal → ℕ
number_of Refusal.Order = 10
number_of Refusal.Delay = 11
number_of Refusal.Rate = 12
number_of Refusal.Countdown = 13
number_of Refusal.Gain = 14
number_of Refusal.Unsettled = 15
number_of Refusal.Inputs = 16
number_of Refusal.FitBits = 17
number_of Refusal.ShortOutput = 20
number_of Refusal.SampleNotDue = 21
number_of Refusal.SampleDue = 22
number_of Refusal.ShortInput = 23
number_of Refusal.ModulatorOrder = 30
number_of Refusal.Lengths = 31
number_of Refusal.Carry = 32
number_of Refusal.FractionBits = 40
number_of Refusal.Limits = 41
number_of Refusal.ForwardGain = 42
number_of Refusal.Sections = 50
number_of Refusal.Adapters = 51
number_of Refusal.Coefficient = 52
number_of Refusal.RetiredAdapter = 53
number_of Refusal.Dt2 = 60
number_of Refusal.ShiftFrequency = 61
number_of Refusal.ShiftPhase = 62
number_of Refusal.ScaleShift = 65
number_of Refusal.Opening = 71
number_of Refusal.LongLine = 72
number_of Refusal.UnknownRecord = 73
number_of Refusal.Fields = 74
number_of Refusal.Malformed = 75
number_of Refusal.OutOfRange = 76
number_of Refusal.Unterminated = 77
number_of Refusal.StoreForm = 80
number_of Refusal.SettingsLine = 81
number_of Refusal.Names = 82
number_of Refusal.ManySettings = 83
number_of Refusal.DitherPresent = 84
number_of Refusal.RecordNumber = 85
number_of Refusal.CheckValue = 86
number_of Refusal.PlugOut = 87
number_of Refusal.FileForm = 90
number_of Refusal.SampleRange = 91

-- the refusal of a number; a number above 91 or of no row stands for none, and no definition gives one
unfoldable pub refusal_at : ℕ → Refusal
refusal_at k =
    cond (eqb k 10) Refusal.Order (
    cond (eqb k 11) Refusal.Delay (
    cond (eqb k 12) Refusal.Rate (
    cond (eqb k 13) Refusal.Countdown (
    cond (eqb k 14) Refusal.Gain (
    cond (eqb k 15) Refusal.Unsettled (
    cond (eqb k 16) Refusal.Inputs (
    cond (eqb k 17) Refusal.FitBits (
    cond (eqb k 20) Refusal.ShortOutput (
    cond (eqb k 21) Refusal.SampleNotDue (
    cond (eqb k 22) Refusal.SampleDue (
    cond (eqb k 23) Refusal.ShortInput (
    cond (eqb k 30) Refusal.ModulatorOrder (
    cond (eqb k 31) Refusal.Lengths (
    cond (eqb k 32) Refusal.Carry (
    cond (eqb k 40) Refusal.FractionBits (
    cond (eqb k 41) Refusal.Limits (
    cond (eqb k 42) Refusal.ForwardGain (
    cond (eqb k 50) Refusal.Sections (
    cond (eqb k 51) Refusal.Adapters (
    cond (eqb k 52) Refusal.Coefficient (
    cond (eqb k 53) Refusal.RetiredAdapter (
    cond (eqb k 60) Refusal.Dt2 (
    cond (eqb k 61) Refusal.ShiftFrequency (
    cond (eqb k 62) Refusal.ShiftPhase (
    cond (eqb k 65) Refusal.ScaleShift (
    cond (eqb k 71) Refusal.Opening (
    cond (eqb k 72) Refusal.LongLine (
    cond (eqb k 73) Refusal.UnknownRecord (
    cond (eqb k 74) Refusal.Fields (
    cond (eqb k 75) Refusal.Malformed (
    cond (eqb k 76) Refusal.OutOfRange (
    cond (eqb k 77) Refusal.Unterminated (
    cond (eqb k 80) Refusal.StoreForm (
    cond (eqb k 81) Refusal.SettingsLine (
    cond (eqb k 82) Refusal.Names (
    cond (eqb k 83) Refusal.ManySettings (
    cond (eqb k 84) Refusal.DitherPresent (
    cond (eqb k 85) Refusal.RecordNumber (
    cond (eqb k 86) Refusal.CheckValue (
    cond (eqb k 87) Refusal.PlugOut (
    cond (eqb k 90) Refusal.FileForm (
    Refusal.SampleRange))))))))))))))))))))))))))))))))))))))))))

-- An answer by its number (0: accepted) and its value: a refused call gives its refusal alone.
unfoldable pub answer : {A : Type 0} → ℕ → A → Result A Refusal
answer zero v = Ok v
answer (suc k) v = Err (refusal_at (suc k))

-- the number that an answer gives, 0 where it was accepted
abbrev pub number_in : {A : Type 0} → Result A Refusal → ℕ
number_in (Ok v) = 0
number_in (Err r) = number_of r
