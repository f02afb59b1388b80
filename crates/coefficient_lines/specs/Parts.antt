-- The program byte by byte: where a byte leaves it and what it gives out; of a part of the input, and of the whole.
use Rattle.std.specs.Prelude.{◌≡◌, Bool, true, false, cond, List, [], ◌∷◌, ◌++◌, ℕ, ◌+◌, min, ltb, eqb, length, ℤ, Result, Ok, Err}
use Rattle.std.proofs.Math.Option.{Option, some, none}
use Rattle.text.specs.Letters.{newline}
use Rattle.blocks.specs.declared.refusal.Refusal.{Refusal}
use Rattle.coefficient_lines.specs.Lines.{cut_number, line_bits, refused_line, answer_bytes}

-- how many lines came before, the line so far, and whether to go on
pub record Standing : Type 0 where
  pub lines : ℕ
  pub line : List ℕ
  pub going : Bool

-- a count is held in 64 bits and stays at its greatest
abbrev pub one_more : ℕ → ℕ
one_more n = min (n + 1) 18446744073709551615

abbrev pub is_accepted : Result ℤ Refusal → Bool
is_accepted (Ok b) = true
is_accepted (Err r) = false

-- what a byte's line is answered: a newline ends it, and so does its 65th byte
abbrev pub ended_by : List ℕ → ℕ → Option (Result ℤ Refusal)
ended_by line b = cond (eqb b newline) (some (line_bits line)) (cond (ltb (length line) 64) none (some (Err Refusal.LongLine)))

abbrev pub standing_at : Standing → ℕ → Option (Result ℤ Refusal) → Standing
standing_at s b none = record { lines = s.lines; line = s.line ++ (b ∷ []); going = true }
standing_at s b (some q) = record { lines = one_more s.lines; line = []; going = is_accepted q }

abbrev pub end_given : Standing → Option (Result ℤ Refusal) → List ℕ
end_given s none = []
end_given s (some q) = answer_bytes (one_more s.lines) q

unfoldable pub byte_after : Standing → ℕ → Standing
byte_after s b = standing_at s b (ended_by s.line b)

unfoldable pub byte_given : Standing → ℕ → List ℕ
byte_given s b = end_given s (ended_by s.line b)

-- a part of the input; after a refusal no further byte is taken
unfoldable pub part_after : Standing → List ℕ → Standing
part_after s [] = s
part_after s (b ∷ bs) = cond s.going (part_after (byte_after s b) bs) s

unfoldable pub part_given : Standing → List ℕ → List ℕ
part_given s [] = []
part_given s (b ∷ bs) = cond s.going (byte_given s b ++ part_given (byte_after s b) bs) []

-- at the end of the input: an unterminated last line
unfoldable pub last_given : Standing → List ℕ
last_given s = cond s.going (cond (eqb (length s.line) 0) [] (refused_line (one_more s.lines) cut_number)) []

abbrev pub beginning : Standing
beginning = record { lines = 0; line = []; going = true }

-- what the program answers to a whole input, as bytes
unfoldable pub answers_of : List ℕ → List ℕ
answers_of input = part_given beginning input ++ last_given (part_after beginning input)

-- fed in parts, the program answers what it answers to the whole: proved in proofs/Stepping.antt
pub record InParts (s : Standing) (xs ys : List ℕ) : Type 0 where
  pub given : part_given s (xs ++ ys) ≡ part_given s xs ++ part_given (part_after s xs) ys
  pub after : part_after s (xs ++ ys) ≡ part_after (part_after s xs) ys

abbrev pub AnyParts : Type 0
AnyParts = (s : Standing) (xs ys : List ℕ) → InParts s xs ys
