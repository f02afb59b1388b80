-- 01, 'The replay program': the whole output as a function of the whole input, both as bytes. 02, A1: the rules go over the word of
-- the record that opened the replay.
use Rattle.std.specs.Prelude.{Bool, false, cond, List, [], ◌∷◌, ◌++◌, ℕ, suc, ltb, eqb, ℤ, length}
use Rattle.text.specs.Letters.{bytes, tab, newline}
use Rattle.text.specs.Numbers.{decimal_of, signed_of}
use Rattle.text.specs.Parts.{parted}
use Rattle.sums.specs.Ops.{Ops}
use Rattle.sums.specs.Counted.{blank_counted}
use Rattle.std.specs.Int.{w64}
use Rattle.sums.specs.Signed.{signed_ops}
use Rattle.cic.specs.Reading.{cic_of}
use Rattle.records.specs.Sessions.{own_words, line_of}
use Rattle.records.specs.declared.session.Session.{Session}
use Rattle.records.specs.declared.session.Reply.{Reply}

-- A line's last field, where it is a number.
abbrev pub last_field : ℕ → List ℕ
last_field n = tab ∷ (decimal_of n ++ (newline ∷ []))

-- 02, A3: each output gives `y`, value and the count that it tells, 0 where it is settled.
unfoldable pub output_line : ℤ → ℕ → List ℕ
output_line value told = bytes "y\t" ++ (signed_of value ++ last_field told)

-- At the end of input: `end` and the count of outputs.
unfoldable pub end_line : ℕ → List ℕ
end_line outputs = bytes "end\t" ++ (decimal_of outputs ++ (newline ∷ []))

-- At a refusal: `bad`, line number from 1, refusal number, and (02, A2) the bad field's place in the line, 0 where no field is meant,
unfoldable pub bad_line : ℕ → ℕ → ℕ → List ℕ
bad_line line number place = bytes "bad\t" ++ (decimal_of line ++ (tab ∷ (decimal_of number ++ last_field place)))

-- and it stops without `end`. Else the rest follows, told how many outputs there were.
abbrev pub answered : Reply → ℕ → ℕ → (ℕ → List ℕ) → List ℕ
answered Reply.Silent line outputs rest = rest outputs
answered (Reply.Output y) line outputs rest = output_line y.value y.told ++ rest (suc outputs)
answered (Reply.Bad f) line outputs rest = bad_line line f.number f.place

-- Each line is ended by a newline: what follows the last one is an unterminated line, unless it is empty.
-- That is 72 over 64 bytes, else 77.
abbrev pub closing : ℕ → ℕ → List ℕ → List ℕ
closing lines outputs last = cond (eqb (length last) 0) (end_line outputs) (bad_line (suc lines) (cond (ltb 64 (length last)) 72 77) 0)

-- what comes after so many lines and outputs
unfoldable pub replay_from : (Bool → Ops ℤ) → Session → ℕ → ℕ → List (List ℕ) → List ℕ
replay_from words s lines outputs [] = []
replay_from words s lines outputs (last ∷ []) = closing lines outputs last
replay_from words s lines outputs (line ∷ next ∷ rest) =
    answered (line_of words s line).reply (suc lines) outputs
    (λ k. replay_from words (line_of words s line).session (suc lines) k (next ∷ rest))

-- no `cic` or `cic64` line yet
abbrev pub unopened : Session
unopened = record { opened = false; wide = false; filter = cic_of (blank_counted (signed_ops w64)) }

unfoldable pub replay : List ℕ → List ℕ
replay input = replay_from own_words unopened 0 0 (parted newline input)
