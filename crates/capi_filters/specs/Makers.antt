-- What makers and questions leave in the lent fields and answer: the number of a refusal, or 0. A refused call leaves everything as it was, and
-- so does a refused maker, which has a filter of its caller's to leave.
use Rattle.std.specs.Prelude.{cond, ◌≡◌, ℕ, eqb, replicate, ℤ, pos, Float, Result, Ok, Err}
use Rattle.std.specs.Result.{result_unwrap_or}
use Rattle.blocks.specs.declared.refusal.Refusal.{Refusal}
use Rattle.blocks.specs.Refusals.{number_in}
use Rattle.blocks.specs.Blocks.{unless}
use Rattle.dsm.specs.declared.Dsm.{Dsm}
use Rattle.dsm.specs.declared.OutputRange.{OutputRange}
use Rattle.dsm.specs.Calls.{order_number, zeros_of, range_of}
use Rattle.wdf.specs.declared.filter.Wdf.{Wdf}
use Rattle.adapters.specs.Adapters.{code_of}
use Rattle.wdf.specs.Calls.{filter}
use Rattle.adapters.specs.Quantize.{quantized}
use Rattle.biquad.specs.declared.pair.Pair.{Pair}
use Rattle.biquad.specs.declared.pair.Pair.TheVariants.{Real, Complex}
use Rattle.biquad.specs.declared.biquad_clamp.BiquadClamp.{BiquadClamp}
use Rattle.biquad.specs.Answers.{offset_of}

-- the number of a refusal, or 0; and what a call gave, or what stood there
abbrev pub range_number : Result OutputRange Refusal → ℕ
range_number r = number_in r

abbrev pub least_or : Result OutputRange Refusal → ℤ → ℤ
least_or (Ok range) old = range.least
least_or (Err refusal) old = old

abbrev pub greatest_or : Result OutputRange Refusal → ℤ → ℤ
greatest_or (Ok range) old = range.greatest
greatest_or (Err refusal) old = old

abbrev pub quantized_number : Result ℤ Refusal → ℕ
quantized_number q = number_in q

abbrev pub bits_or : Result ℤ Refusal → ℤ → ℤ
bits_or q old = result_unwrap_or q old

abbrev pub offset_number : Result Float Refusal → ℕ
offset_number a = number_in a

abbrev pub offset_or : Result Float Refusal → Float → Float
offset_or a old = result_unwrap_or a old

-- real roots by 0, a complex pair by any other number
unfoldable pub pair_at : ℕ → Float → Float → Pair
pair_at complex x y = cond (eqb complex 0) (Real x y) (Complex x y)

pub record MakesDsm (order : ℕ) (s t : Dsm) (r : ℕ) : Type 0 where
  pub answer : r ≡ order_number order
  pub state : t ≡ unless (order_number order) s (zeros_of order)

pub record Ranges (s : Dsm) (low high low' high' : ℤ) (r : ℕ) : Type 0 where
  pub answer : r ≡ range_number (range_of s)
  pub least : low' ≡ least_or (range_of s) low
  pub greatest : high' ≡ greatest_or (range_of s) high

-- The maker takes what stands in the fields as given, unless the number k refuses it.
pub record MakesWdf (k : ℕ) (s t : Wdf) (r : ℕ) : Type 0 where
  pub answer : r ≡ k
  pub filter : t ≡ unless k s (filter s.sections s.architecture s.a (replicate 8 (pos 0)))

pub record Quantizes (nibble : ℕ) (g : Float) (b b' : ℤ) (r : ℕ) : Type 0 where
  pub answer : r ≡ quantized_number (quantized (code_of nibble) g)
  pub bits : b' ≡ bits_or (quantized (code_of nibble) g) b

pub record Offsets (c : BiquadClamp) (v v' : Float) (r : ℕ) : Type 0 where
  pub answer : r ≡ offset_number (offset_of c)
  pub value : v' ≡ offset_or (offset_of c) v
