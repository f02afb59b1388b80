-- 02, A9: what is read and written again is the same bytes, in any even parts.
use Rattle.std.specs.Prelude.{◌≡◌, true, List, [], ◌∷◌, ◌++◌, ℕ, ◌+◌, ◌%◌, ℤ, length, drop}
use Rattle.wav.specs.Bytes.{Bytes}
use Rattle.wav.specs.Header.{header_of, may_be, head_of, tells}
use Rattle.wav.specs.Samples.{data_of, samples_of, all_in_i16}

-- Writing what was read gives the same bytes: a file whose header is not refused is that header and the bytes of its samples.
abbrev pub SameBytes : Type 0
SameBytes =
    (file : List ℕ) (rate size : ℕ) → Bytes (drop 44 file) → head_of file (length file) ≡ tells rate size
    → header_of rate size ++ data_of (samples_of (drop 44 file)) ≡ file

-- Reading what was written gives the same header and the same samples.
abbrev pub SameHeader : Type 0
SameHeader = (rate size : ℕ) (rest : List ℕ) → may_be rate size ≡ true → head_of (header_of rate size ++ rest) (44 + size) ≡ tells rate size

abbrev pub SameSamples : Type 0
SameSamples = (xs : List ℤ) → all_in_i16 xs ≡ true → samples_of (data_of xs) ≡ xs

-- The data cut at an even place: its samples are those of the two parts, one after the other; and so are the bytes of samples
-- cut anywhere.
abbrev pub EvenCuts : Type 0
EvenCuts = (a b : List ℕ) → length a % 2 ≡ 0 → samples_of (a ++ b) ≡ samples_of a ++ samples_of b

abbrev pub AnyCuts : Type 0
AnyCuts = (xs ys : List ℤ) → data_of (xs ++ ys) ≡ data_of xs ++ data_of ys

-- parts of even length, joined; and each read and written again, joined
pub data EvenParts : List (List ℕ) → Type 0 where
  no_part : EvenParts []
  part : {p : List ℕ} {ps : List (List ℕ)} → Bytes p → length p % 2 ≡ 0 → EvenParts ps → EvenParts (p ∷ ps)

abbrev pub whole : List (List ℕ) → List ℕ
whole [] = []
whole (p ∷ ps) = p ++ whole ps

abbrev pub again : List (List ℕ) → List ℕ
again [] = []
again (p ∷ ps) = data_of (samples_of p) ++ again ps

-- Data read and written part by part, in any even parts, is the same bytes.
abbrev pub SameParts : Type 0
SameParts = (ps : List (List ℕ)) → EvenParts ps → again ps ≡ whole ps
