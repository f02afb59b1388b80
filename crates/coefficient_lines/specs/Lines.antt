-- 02, A10, a program that makes coefficients: a line is an adapter's name, a tab and g as the 16 hex digits of its double.
use Rattle.std.specs.Prelude.{cond, List, [], ◌∷◌, ◌++◌, ℕ, ◌+◌, ltb, ℤ, length, drop, Result, Ok, Err}
use Rattle.std.specs.Float.{binary64}
use Rattle.std.specs.Float.Ieee.{of_bits}
use Rattle.text.specs.Letters.{bytes, tab, newline}
use Rattle.text.specs.Numbers.{decimal_of, signed_of}
use Rattle.text.specs.Hex.{pattern_of}
use Rattle.text.specs.Parts.{before}
use Rattle.text.specs.Same.{same}
use Rattle.std.specs.Prelude.{Option, Some, None}
use Rattle.adapters.specs.Quantize.{quantized}
use Rattle.adapters.specs.declared.tpa.Tpa.TheVariants.{Z, A, B, B1, X, C, C1, D}
use Rattle.blocks.specs.declared.refusal.Refusal.{Refusal}
use Rattle.blocks.specs.Refusals.{number_of}
use Rattle.coefficient_lines.specs.declared.adapter.Adapter.{Adapter}
use Rattle.coefficient_lines.specs.declared.adapter.Adapter.TheVariants.{Named, Unknown}

-- the adapter of a name
unfoldable pub letter_of : List ℕ → Adapter
letter_of name =
    cond (same name (bytes "A")) (Named A)
    (cond (same name (bytes "B")) (Named B)
    (cond (same name (bytes "C")) (Named C)
    (cond (same name (bytes "D")) (Named D)
    (cond (same name (bytes "Z")) (Named Z)
    (cond (same name (bytes "X")) (Named X) Unknown)))))

unfoldable pub adapter_of : List ℕ → Adapter
adapter_of name = cond (same name (bytes "B1")) (Named B1) (cond (same name (bytes "C1")) (Named C1) (letter_of name))

-- The replay's refusals: 73, a name that is no adapter's; 75, what follows it isn't 16 hex digits, as where nothing follows; 72, over
-- 64 bytes; 77, an unterminated last line.
abbrev pub name_number : ℕ
name_number = number_of Refusal.UnknownRecord

abbrev pub digits_number : ℕ
digits_number = number_of Refusal.Malformed

abbrev pub long_number : ℕ
long_number = number_of Refusal.LongLine

abbrev pub cut_number : ℕ
cut_number = number_of Refusal.Unterminated

-- the bits for the adapter and the pole, where both can be read
abbrev pub pole_bits : Adapter → Option ℕ → Result ℤ Refusal
pole_bits (Named code) (Some g) = quantized code (of_bits binary64 g)
pole_bits (Named code) None = Err Refusal.Malformed
pole_bits Unknown digits = Err Refusal.UnknownRecord

-- the name ends at the first tab, and the digits are all that follows it
unfoldable pub line_bits : List ℕ → Result ℤ Refusal
line_bits line =
    cond (ltb 64 (length line)) (Err Refusal.LongLine)
    (pole_bits (adapter_of (before tab line)) (pattern_of (drop (length (before tab line) + 1) line)))

-- the bits in decimal on a line
unfoldable pub bits_line : ℤ → List ℕ
bits_line bits = signed_of bits ++ (newline ∷ [])

-- `bad`, line number from 1, refusal number
unfoldable pub refused_line : ℕ → ℕ → List ℕ
refused_line line number = bytes "bad\t" ++ (decimal_of line ++ (tab ∷ (decimal_of number ++ (newline ∷ []))))

-- what the line of this number is answered
abbrev pub answer_bytes : ℕ → Result ℤ Refusal → List ℕ
answer_bytes line (Ok bits) = bits_line bits
answer_bytes line (Err refusal) = refused_line line (number_of refusal)
