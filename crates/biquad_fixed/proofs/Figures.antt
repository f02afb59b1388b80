-- Document 01's figure, F 0 for dither is 40, the bounds beside it, and the crate's own example; one statement over one table.
use mathlib.Core.Path.{◌≡◌, refl}
use mathlib.Core.List.{List, [], ◌∷◌}
use Prim.Native.Nat.{ℕ}
use lib.IntN.{ℤ, pos, negsuc}
use Rattle.words.specs.Words as W
use Rattle.biquad_fixed.specs.declared.coefficients.Biquad.{Biquad}
use Rattle.std.specs.Prelude.{Ok, Err}
use Rattle.blocks.specs.declared.refusal.Refusal.{Refusal}
use Rattle.blocks.specs.Refusals as R
use Rattle.biquad_fixed.specs.declared.wide.DirectForm1Wide.{DirectForm1Wide}
use Rattle.biquad_fixed.specs.declared.dither.DirectForm1Dither.{DirectForm1Dither}
use Rattle.biquad_fixed.specs.Forms.{wide_sum, dither_sum}
use Rattle.biquad_fixed.specs.Answers.{Stepped, wide_of, dither_of}

-- what a figure speaks of
pub data Figure : Type 0 where
  wide : Stepped DirectForm1Wide → Figure
  dither : Stepped DirectForm1Dither → Figure

-- a case and what is said of it
pub record Row : Type 0 where
  pub found : Figure
  pub said : Figure

abbrev pub Holds : List Row → Type 0
Holds [] = Unit {0}
Holds (r ∷ rest) = (r.found ≡ r.said) × Holds rest

-- b0 alone, with f fraction bits
abbrev gain : ℤ → ℕ → Biquad
gain b0 f = record { b0 = b0; b1 = pos 0; b2 = pos 0; a1 = pos 0; a2 = pos 0; f = f }

abbrev form : ℤ → ℤ → ℤ → ℤ → ℕ → DirectForm1Dither
form x1 x2 y1 y2 e = record { x1 = x1; x2 = x2; y1 = y1; y2 = y2; e = e }

abbrev rest : DirectForm1Wide
rest = record { x1 = pos 0; x2 = pos 0; y1 = pos 0; y2 = pos 0 }

-- dither at F 0 and 32 and wide at F 32 are 40; a unity gain at F 30 keeps the error 5, as in the crate; half of -3 at F 1 is
-- -2 with error 1, and of the wide form -2 with the upper half of its low word
abbrev pub table : List Row
table =
    record {
      found = dither (dither_of (gain (pos 1) 0) (form (pos 1) (pos 2) (pos 3) (pos 4) 5) (pos 6));
      said = dither
          (record { out = Err Refusal.FractionBits; state = form (pos 1) (pos 2) (pos 3) (pos 4) 5 });
    }
    ∷ record {
      found = dither (dither_of (gain (pos 1) 32) (form (pos 1) (pos 2) (pos 3) (pos 4) 5) (pos 6));
      said = dither
          (record { out = Err Refusal.FractionBits; state = form (pos 1) (pos 2) (pos 3) (pos 4) 5 });
    }
    ∷ record { found = wide (wide_of (gain (pos 1) 32) rest (pos 6)); said = wide (record { out = Err Refusal.FractionBits; state = rest }) }
    ∷ record {
      found = dither (dither_of (gain (pos 1073741824) 30) (form (pos 1) (pos 2) (pos 3) (pos 4) 5) (pos 6));
      said = dither
          (record { out = Ok (pos 6); state = form (pos 6) (pos 1) (pos 6) (pos 3) 5 });
    }
    ∷ record {
      found = dither (dither_of (gain (pos 1) 1) (form (pos 0) (pos 0) (pos 0) (pos 0) 0) (negsuc 2));
      said = dither
          (record { out = Ok (negsuc 1); state = form (negsuc 2) (pos 0) (negsuc 1) (pos 0) 1 });
    }
    ∷ record {
      found = wide (wide_of (gain (pos 1) 1) rest (negsuc 2));
      said = wide
          (record { out = Ok (negsuc 1); state = record { x1 = negsuc 2; x2 = pos 0; y1 = negsuc 6442450943; y2 = pos 0 } });
    }
    ∷ []

pub figures : Holds table
unfolding R.answer R.refusal_at W.word W.wrap wide_sum dither_sum
figures = (refl, (refl, (refl, (refl, (refl, (refl, tt))))))
