-- 02, A9, the samples: 16 bits each, in parts.
use Rattle.std.specs.Prelude.{Bool, true, ◌&&◌, cond, List, [], ◌∷◌, ◌++◌, ℕ, ◌+◌, ◌*◌, ◌/◌, ◌%◌, leb, eqb, ℤ, pos, negsuc, length, drop, Result}
use Rattle.std.specs.Int.{w16}
use Rattle.words.specs.Words.{word, wrap}
use Rattle.blocks.specs.declared.refusal.Refusal.{Refusal}
use Rattle.blocks.specs.Refusals.{answer}
use Rattle.blocks.specs.Blocks.{unless}
use Rattle.wav.specs.Bytes.{little}

-- the bytes of samples, two each
abbrev pub data_of : List ℤ → List ℕ
data_of [] = []
data_of (x ∷ xs) = little 2 (word w16 x) ++ data_of xs

-- the sample of two bytes
abbrev pub sample_in : ℕ → ℕ → ℤ
sample_in lo hi = wrap w16 (pos (lo + 256 * hi))

abbrev pub samples_of : List ℕ → List ℤ
samples_of [] = []
samples_of (lo ∷ []) = []
samples_of (lo ∷ hi ∷ bs) = sample_in lo hi ∷ samples_of bs

-- from -32768 to 32767
abbrev pub in_i16 : ℤ → Bool
in_i16 (pos n) = leb n 32767
in_i16 (negsuc n) = leb n 32767

abbrev pub all_in_i16 : List ℤ → Bool
all_in_i16 [] = true
all_in_i16 (x ∷ xs) = in_i16 x && all_in_i16 xs

-- reading a part: 20, a short slice; 90, a part of odd length
unfoldable pub read_number : List ℕ → List ℤ → ℕ
read_number bs out = cond (leb (length bs / 2) (length out)) (cond (eqb (length bs % 2) 0) 0 90) 20

-- writing a part: 20, a short slice; 91, a sample outside i16
unfoldable pub write_number : List ℤ → List ℕ → ℕ
write_number xs out = cond (leb (2 * length xs) (length out)) (cond (all_in_i16 xs) 0 91) 20

-- what a part answers: how many elements it gave, unless it was refused
abbrev pub part_of : ℕ → ℕ → Result ℕ Refusal
part_of refusal count = answer refusal count

abbrev pub read_part : List ℕ → List ℤ → Result ℕ Refusal
read_part bs out = part_of (read_number bs out) (length bs / 2)

abbrev pub write_part : List ℤ → List ℕ → Result ℕ Refusal
write_part xs out = part_of (write_number xs out) (2 * length xs)

-- what is in the lent slice afterwards: a refused part writes nothing
abbrev pub read_slice : List ℕ → List ℤ → List ℤ
read_slice bs out = unless (read_number bs out) out (samples_of bs ++ drop (length bs / 2) out)

abbrev pub write_slice : List ℤ → List ℕ → List ℕ
write_slice xs out = unless (write_number xs out) out (data_of xs ++ drop (2 * length xs) out)
