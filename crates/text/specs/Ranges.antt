-- Numbers within a range, in the replay program's form.
use Rattle.std.specs.Prelude.{Bool, true, cond, ◌&&◌, List, [], ◌∷◌, map, ℕ, zero, suc, leb, ℤ, pos, negsuc}
use Rattle.std.proofs.Math.Option.{Option, none, some}
use Rattle.text.specs.Numbers.{number_of, signed_of}
use Rattle.std.specs.Prelude as std
use Rattle.std.specs.Prelude.{Some, None}
use Rattle.text.specs.declared.numbers.Number.{Number}
use Rattle.text.specs.declared.numbers.Number.TheVariants.{Plus, Minus}

-- from - least to most
pub record Range : Type 0 where
  pub least : ℕ
  pub most : ℕ

abbrev pub range : ℕ → ℕ → Range
range least most = record { least = least; most = most }

-- u32 and i32
abbrev pub unsigned : Range
unsigned = range 0 4294967295

abbrev pub signed : Range
signed = range 2147483648 2147483647

abbrev pub lies : Range → ℤ → Bool
lies r (pos v) = leb v r.most
lies r (negsuc v) = leb (suc v) r.least

abbrev pub all_lie : Range → List ℤ → Bool
all_lie r [] = true
all_lie r (z ∷ zs) = lies r z && all_lie r zs

-- where both are there
abbrev pub both : {A B C : Type 0} → (A → B → C) → Option A → Option B → Option C
both f (some a) (some b) = some (f a b)
both f (some a) none = none
both f none b = none

abbrev pub within : Range → std.Option Number → Option ℤ
within r (Some (Plus v)) = cond (leb v r.most) (some (pos v)) none
within r (Some (Minus zero)) = none
within r (Some (Minus (suc v))) = cond (leb (suc v) r.least) (some (negsuc v)) none
within r None = none

-- a field's number, if it is one of the range
unfoldable pub number_in : Range → List ℕ → Option ℤ
number_in r field = within r (number_of field)

-- the numbers of all of some fields
unfoldable pub numbers_in : Range → List (List ℕ) → Option (List ℤ)
numbers_in r [] = some []
numbers_in r (f ∷ fs) = both (λ z zs. z ∷ zs) (number_in r f) (numbers_in r fs)

-- the fields of some numbers
abbrev pub texts : List ℤ → List (List ℕ)
texts zs = map signed_of zs
