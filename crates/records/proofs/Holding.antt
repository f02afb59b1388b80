-- A line's sample lies within the word: its field was judged so.
use native.Mathlib.Omega.{arith}
use mathlib.Core.Path.{◌≡◌, refl}
use mathlib.Core.Bool.{Bool, true, false, cond}
use mathlib.Core.List.{List, [], ◌∷◌}
use Prim.Native.Nat.{ℕ, ◌-◌}
use lib.Dec.{leb, eqb}
use lib.IntN.{pos, negsuc}
use mir.Syntax.{w32, w64}
use mir.Val.{SFits}
use borrow.Author.Tests.{leb-true, eqb-true, eqb-false}
use Rattle.blocks.specs.Blocks.{unless}
use Rattle.sums.proofs.Carried.{nil_in}
use Rattle.text.specs.Numbers.{number_of}
use Rattle.text.specs.declared.numbers.Number.{Number}
use Rattle.text.specs.declared.numbers.Number.TheVariants.{Plus, Minus}
use Rattle.std.specs.Prelude as std
use Rattle.std.specs.Prelude.{Some, None}
use Rattle.records.specs.Lines.{
  sample,
  kinds_of,
  word_range,
  number_number,
  value_of,
  fault_at,
  fields_fault,
  or_else,
  named_record,
  held_record,
  record_of,
}
use Rattle.records.proofs.EachLine.{each_line}
use Rattle.records.specs.Sessions.{width_of}
use Rattle.records.specs.declared.parse.Name.{Name}
use Rattle.records.specs.declared.parse.Fault.{Fault}
use Rattle.records.specs.declared.parse.Record.{Record}
use Rattle.records.specs.declared.parse.Record.TheVariants.{Open, Rate, Sample, Clear, Bad}

abbrev pub Holds : Bool → Record → Type 0
Holds wide (Sample v) = SFits (width_of wide) v
Holds wide (Open w n m rate) = Unit
Holds wide (Rate rate) = Unit
Holds wide Clear = Unit
Holds wide (Bad f) = Unit

number_fits : (wide : Bool) (n : std.Option Number) → number_number (word_range wide) n ≡ 0 → SFits (width_of wide) (value_of n)
number_fits true (Some (Plus v)) = by (leb v 9223372036854775807) refl
  where
    by : (t : Bool) → leb v 9223372036854775807 ≡ t → ◌≡◌ {A = ℕ} (cond t 0 76) 0 → SFits w64 (pos v)
    by true e z = let h = leb-true v 9223372036854775807 e in record { sfits = omega arith }
    by false e z = absurd (omega arith)
number_fits false (Some (Plus v)) = by (leb v 2147483647) refl
  where
    by : (t : Bool) → leb v 2147483647 ≡ t → ◌≡◌ {A = ℕ} (cond t 0 76) 0 → SFits w32 (pos v)
    by true e z = let h = leb-true v 2147483647 e in record { sfits = omega arith }
    by false e z = absurd (omega arith)
number_fits true (Some (Minus v)) = by (eqb v 0) (leb v 9223372036854775808) refl refl
  where
    by : (s t : Bool) → eqb v 0 ≡ s → leb v 9223372036854775808 ≡ t → ◌≡◌ {A = ℕ} (cond s 75 (cond t 0 76)) 0 → SFits w64 (negsuc (v - 1))
    by true t d e z = absurd (omega arith)
    by false true d e z =
        let k = eqb-false v 0 d in let h = leb-true v 9223372036854775808 e in record { sfits = omega arith }
    by false false d e z = absurd (omega arith)
number_fits false (Some (Minus v)) = by (eqb v 0) (leb v 2147483648) refl refl
  where
    by : (s t : Bool) → eqb v 0 ≡ s → leb v 2147483648 ≡ t → ◌≡◌ {A = ℕ} (cond s 75 (cond t 0 76)) 0 → SFits w32 (negsuc (v - 1))
    by true t d e z = absurd (omega arith)
    by false true d e z = let k = eqb-false v 0 d in let h = leb-true v 2147483648 e in record { sfits = omega arith }
    by false false d e z = absurd (omega arith)
number_fits wide None = λ z. absurd (omega arith)

holds_else : (wide : Bool) (f : Fault) (x : Record) → (f.number ≡ 0 → Holds wide x) → Holds wide (or_else f x)
holds_else wide f x h = by (eqb f.number 0) refl
  where
    by : (t : Bool) → eqb f.number 0 ≡ t → Holds wide (cond t x (Bad f))
    by true e = h (eqb-true _ _ e)
    by false e = tt

x_holds : (wide : Bool) (fs : List (List ℕ)) → Holds wide (held_record wide Name.X fs)
unfolding number_of
x_holds wide [] = nil_in (width_of wide)
x_holds wide (f ∷ fs) = holds_else wide (fields_fault wide 2 (sample ∷ []) (f ∷ fs)) (Sample (value_of (number_of f)))
    (λ e. number_fits wide (number_of f) (by (number_number (word_range wide) (number_of f)) e))
  where
    by : (p : ℕ) → (unless p (fault_at p 2) (fault_at 0 0)).number ≡ 0 → p ≡ 0
    by p e = at (eqb p 0) refl
      where
        at : (t : Bool) → eqb p 0 ≡ t → p ≡ 0
        at true d = eqb-true _ _ d
        at false d = rw d at e

abbrev fault_of : Bool → Name → List (List ℕ) → Fault
fault_of wide name fs = fields_fault wide 2 (kinds_of name) fs

named_holds : (wide : Bool) (name : Name) (fs : List (List ℕ)) → Holds wide (held_record wide name fs)
named_holds wide Name.Cic fs = holds_else wide (fault_of wide Name.Cic fs) (named_record Name.Cic fs) (λ e. tt)
named_holds wide Name.Cic64 fs = holds_else wide (fault_of wide Name.Cic64 fs) (named_record Name.Cic64 fs) (λ e. tt)
named_holds wide Name.Rate fs = holds_else wide (fault_of wide Name.Rate fs) (named_record Name.Rate fs) (λ e. tt)
named_holds wide Name.X fs = x_holds wide fs
named_holds wide Name.Clear fs = holds_else wide (fault_of wide Name.Clear fs) (named_record Name.Clear fs) (λ e. tt)
named_holds wide Name.Unknown fs = holds_else wide (fault_of wide Name.Unknown fs) (named_record Name.Unknown fs) (λ e. tt)

pub line_holds : (wide : Bool) (l : List ℕ) → Holds wide (record_of wide l)
line_holds wide l = each_line (Holds wide) wide tt tt (named_holds wide) l
